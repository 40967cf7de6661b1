use Rattle.std.proofs.Common.{◌≡◌, ℕ, ◌+◌, ◌-◌, List, [], ◌∷◌, ◌++◌, length, take, drop, append_assoc, append-nil, refl, ap, sym, subst, ◌∙◌, arith}
use Rattle.std.proofs.lemmas.List.{take_rest, length-drop, drop-drop}
use Rattle.encoding_runs.specs.Parts.{Part, ArePartsOf}
use Rattle.encoding_runs.specs.MalformedSequences.{IsNextMalformed, AreFoundInTurn}
use Rattle.cuts_example.proofs.malformed_indices.Goals as goal

-- one more, after those that were found
one_more : (bytes : List ℕ) (read place size : ℕ) (found more : List (ℕ × ℕ)) → IsNextMalformed (take (length bytes - read) (drop read bytes)) place size
    → ((others : List (ℕ × ℕ)) → AreFoundInTurn read (drop read bytes) others → AreFoundInTurn 0 bytes (found ++ others))
    → more ≡ found ++ (read + place, size) ∷ []
    → (others : List (ℕ × ℕ)) → AreFoundInTurn (read + (place + size)) (drop (read + (place + size)) bytes) others → AreFoundInTurn 0 bytes (more ++ others)
one_more bytes read place size found more next before e others are =
    let at : read + (place + size) ≡ read + place + size = omega arith in
    let moved = subst (λ n. AreFoundInTurn n (drop (read + (place + size)) bytes) others) at are in
    rw (e, append_assoc) (before _ (place, refl, rw (take_rest bytes read) at next, rw drop-drop moved))

pub loop-place-smaller : goal.loop-place-smaller
loop-place-smaller c = omega (
  arith,
  (c.law_next_malformed.ensures.size _ _ _ c.in-Some.ensures.if_some).0,
  c.in-Some.ensures.if_some.within,
  ap length
      (take_rest c.args.bytes.now c.loop-place.read),
  length-drop c.loop-place.read c.args.bytes.now,
)

pub loop-place-preserved : goal.loop-place-preserved
loop-place-preserved c =
    let next = c.in-Some.ensures.if_some in record {
      within = omega (arith, next.within, ap length (take_rest c.args.bytes.now c.loop-place.read), length-drop c.loop-place.read c.args.bytes.now);
      found = one_more c.args.bytes.now c.loop-place.read c.in-Some.field-0.place c.in-Some.field-0.length c.loop-place.found.items c.push.new.self.items next
          c.loop-place.invariant.found c.in_ok-push.ensures.items;
    }

pub returns : goal.returns
returns c =
    let text = rw (take_rest c.args.bytes.now c.loop-place.read) at c.next_malformed.ensures.if_none.0 c.in_default.is in
    let found = rw append-nil at (c.loop-place.invariant.found [] text) in
    let places =
    λ (parts : List Part) (are : ArePartsOf c.args.bytes.now parts).
    (c.law_next_malformed.ensures.found c.args.bytes.now parts c.loop-place.found.items are).0 found in
    let (parts, are) = c.law_parts.ensures.exist c.args.bytes.now in record {
      found = (parts, are, places parts are);
      malformed_count = λ text n (others, are_others, is_text, is_n). ap length (places others are_others)
          ∙ c.law_next_malformed.ensures.malformed_count c.args.bytes.now others are_others ∙ sym is_n;
    }
