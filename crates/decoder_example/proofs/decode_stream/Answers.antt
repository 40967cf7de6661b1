use Rattle.std.proofs.Common.{◌≡◌, false, [], ◌++◌, length, refl, ◌∙◌, arith, take-append-drop}
use Rattle.std.proofs.lemmas.Bool.{both_ways}
use Rattle.std.proofs.lemmas.Bool.Decides.{nat_tests}
use Rattle.decoder_example.proofs.StreamTextLemmas.{count_within, end_text, more_text, no_text, whole_text}
use Rattle.decoder_example.proofs.decode_stream.Goals as goal

pub loop-rest-init : goal.loop-rest-init
loop-rest-init c = rw (c.new-text.ensures.items, c.new_decoder-decoder.ensures) (no_text c.args.encoding c.args.bytes.now)

pub loop-rest-preserved : goal.loop-rest-preserved
loop-rest-preserved c =
    let pieces = c.split_at.ensures in
    let whole : c.split_at.result.0.now ++ c.split_at.result.1.now ≡ c.loop-rest.rest.now = (λ i. (pieces.front i) ++ (pieces.back i))
    ∙ take-append-drop c.min.result c.loop-rest.rest.now in
    more_text c.args.encoding c.args.bytes.now c.loop-rest.decoder c.append_text.new.decoder c.loop-rest.rest.now c.split_at.result.0.now
    c.split_at.result.1.now false c.loop-rest.text.items c.append_text.new.text.items _ _ whole (λ marked. absurd (both_ways _ refl marked))
    c.loop-rest.invariant c.in_ok-replaced.ensures

pub overflow_add-replaced : goal.overflow_add-replaced
overflow_add-replaced c =
    let within = count_within c.args.encoding c.args.bytes.now c.append_text.new.decoder c.split_at.result.1.now c.append_text.new.text.items _
    (loop-rest-preserved c) in
    record { fits = omega (arith, within) }

pub overflow_add-replaced-2 : goal.overflow_add-replaced-2
overflow_add-replaced-2 c =
    let none : length c.loop-rest.rest.now ≡ 0 = grind (arith, nat_tests) in
    let text = end_text c.args.encoding c.args.bytes.now c.loop-rest.decoder c.append_text-2.new.decoder c.loop-rest.rest.now c.loop-rest.text.items
    c.append_text-2.new.text.items _ _ none c.loop-rest.invariant c.in_ok-replaced-2.ensures in
    record { fits = omega (arith, count_within c.args.encoding c.args.bytes.now c.append_text-2.new.decoder [] c.append_text-2.new.text.items _ text) }

pub returns : goal.returns
returns c =
    let none : length c.loop-rest.rest.now ≡ 0 = grind (arith, nat_tests) in
    let (off, gone) = (c.in_ok-replaced-2.ensures {u = tt}).ended refl in
    rw c.encoding.ensures (whole_text c.args.encoding c.args.bytes.now c.append_text-2.new.decoder c.append_text-2.new.text.items _ off gone
    (end_text c.args.encoding c.args.bytes.now c.loop-rest.decoder c.append_text-2.new.decoder c.loop-rest.rest.now c.loop-rest.text.items
    c.append_text-2.new.text.items _ _ none c.loop-rest.invariant c.in_ok-replaced-2.ensures))
