use Rattle.std.proofs.Common.{encode_utf8_all, ◌≡◌, ◌<◌, [], ◌∷◌, ◌++◌, take, drop, length, ap, sym, refl, subst, ◌∙◌, arith, append-nil, append_assoc}
use Rattle.std.proofs.lemmas.List.{take_rest, drop_all, drop-drop, length-drop}
use Rattle.encoding_runs.specs.Calls.{WritesInTurn}
use Rattle.engine_example.proofs.units.utf8_of_units.Goals as goal

pub loop-read-init : goal.loop-read-init
loop-read-init c = (omega arith, λ rooms out w. rw c.new-bytes.ensures.items (rooms, w))

pub loop-read-smaller : goal.loop-read-smaller
loop-read-smaller c =
    let longest = rw (take_rest c.args.units.now c.loop-read.read) at c.convert_utf16_to_utf8_partial-more.ensures.longest in
    let some : 0 < length (drop c.loop-read.read c.args.units.now) = omega (arith, length-drop c.loop-read.read c.args.units.now) in
    let more = c.law_partial_repeats.ensures.progress _ _ _ _ some (omega arith) longest in
    omega arith

pub loop-read-preserved : goal.loop-read-preserved
loop-read-preserved c =
    let us = c.args.units.now in
    let read = c.loop-read.read in
    let call = c.convert_utf16_to_utf8_partial-more in
    let first = take call.result.1 call.new.dst in
    let longest = rw (take_rest us read) at call.ensures.longest in (
      omega (arith, call.ensures.within, length-drop read us),
      λ rooms out w.
          let following = subst (λ xs. WritesInTurn xs rooms out) (sym (drop-drop call.result.0 read us)) w in
          let (all, turns) = c.loop-read.invariant.1 (_ ∷ rooms) (first ++ out) (call.result.0, first, out, longest, following, refl) in (
            all,
            subst (WritesInTurn us all) (sym (append_assoc c.loop-read.bytes.items first out)
                ∙ ap (λ xs. xs ++ out) (sym c.in_ok-extend_from_slice.ensures.items)) turns,
          ),
    )

pub returns : goal.returns
returns c =
    let us = c.args.units.now in
    let read = c.loop-read.read in
    let none : drop read us ≡ [] = drop_all read us c.loop-read-test.false in
    let (rooms, turns) = c.loop-read.invariant.1 [] [] (none, refl) in
    let (parts, are) = c.law_utf16_round_trip.ensures.exist us (λ k. omega (arith, c.type_inv.units k)) in
    sym (append-nil c.loop-read.bytes.items) ∙ c.law_partial_repeats.ensures.joined us parts rooms _ are turns
    ∙ ap encode_utf8_all (c.law_utf16_round_trip.ensures.lossy us parts are)
