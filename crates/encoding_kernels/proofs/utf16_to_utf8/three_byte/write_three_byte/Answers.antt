use Rattle.std.proofs.Common.{◌+◌, ◌++◌, ◌≤◌, ◌∙◌, ap, sym, subst, arith, take, drop, get_or, get_or-take, get_or-drop, encode_utf8_all, take-append-drop}
use Rattle.std.proofs.lemmas.Str.{encodes-append}
use Rattle.encoding_kernels.specs.Utf8Output.{Spills}
use Rattle.encoding_kernels.proofs.UniformLemmas.{first_eight, last_eight}
use Rattle.encoding_kernels.proofs.OverwriteLemmas.{exact_spills, spills_then}
use Rattle.encoding_kernels.proofs.utf16_to_utf8.three_byte.write_three_byte.Goals as goal

pub write_eight-requires-clause-three_byte : goal.write_eight-requires-clause-three_byte
write_eight-requires-clause-three_byte c k l =
    subst (λ xs. 0x800 ≤ get_or xs k 0) (sym (first_eight c.args.units c.requires.lane_count))
    (subst (λ x. 0x800 ≤ x) (sym (get_or-take 8 c.args.units k 0 l)) (c.requires.three_byte k (omega arith)))

pub write_eight-requires-2-clause-three_byte : goal.write_eight-requires-2-clause-three_byte
write_eight-requires-2-clause-three_byte c k l =
    subst (λ xs. 0x800 ≤ get_or xs k 0) (sym (last_eight c.args.units c.requires.lane_count))
    (subst (λ x. 0x800 ≤ x) (sym (get_or-drop 8 c.args.units k 0)) (c.requires.three_byte (8 + k) (omega arith)))

pub write_eight-requires-2-clause-dst_length : goal.write_eight-requires-2-clause-dst_length
write_eight-requires-2-clause-dst_length c =
    let one = exact_spills c.args.dst.now _ _ c.args.at 24 c.write_eight.ensures.out_length (omega arith) c.write_eight.ensures.written in
    omega (arith, one.long)

pub returns : goal.returns
returns c =
    let us = c.args.units in
    let at = c.args.at in
    let one = exact_spills c.args.dst.now _ _ at 24 c.write_eight.ensures.out_length (omega arith) c.write_eight.ensures.written in
    let two = exact_spills _ _ _ (at + 24) 24 c.write_eight-2.ensures.out_length (omega (arith, one.long)) c.write_eight-2.ensures.written in
    subst (Spills c.args.dst.now c.write_eight-2.new.dst at 48 0)
    ((λ i. encode_utf8_all (first_eight us c.requires.lane_count i) ++ encode_utf8_all (last_eight us c.requires.lane_count i))
    ∙ sym (encodes-append (take 8 us) (drop 8 us)) ∙ ap encode_utf8_all (take-append-drop 8 us))
    (spills_then _ _ _ at 24 24 0 0 _ _ one two (omega arith))
