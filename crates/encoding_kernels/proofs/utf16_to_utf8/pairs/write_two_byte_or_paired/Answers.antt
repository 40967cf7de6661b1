use Rattle.std.proofs.Common.{◌+◌, ◌*◌, ◌-◌, ◌++◌, ◌∙◌, take, drop, get_or, length, length-append, length-take-le, arith, rules, subst, sym, ap}
use Rattle.std.proofs.lemmas.Simd.{get_or-chunk}
use Rattle.encoding_kernels.specs.SurrogatePairs.{IsTwoByteOrHalf, concatenated, half_bytes}
use Rattle.encoding_kernels.proofs.SurrogatePairsLemmas.{both_halves, moved}
use Rattle.encoding_kernels.proofs.utf16_to_utf8.pairs.write_two_byte_or_paired.Goals as goal

pub encode_halves-count-requires : goal.encode_halves-count-requires
encode_halves-count-requires g c k l =
    subst IsTwoByteOrHalf (sym (ap (λ xs. get_or xs k 0) c.eight-first.ensures ∙ get_or-chunk c.args.at 8 (g.S.CodeUnits.units c.args.src) k 0 l))
    (c.requires.paired.each (c.args.at + k) (omega arith) (omega arith))

pub encode_halves-more-requires : goal.encode_halves-more-requires
encode_halves-more-requires g c k l =
    subst IsTwoByteOrHalf (sym (ap (λ xs. get_or xs k 0) c.eight-second.ensures ∙ get_or-chunk (c.args.at + 8) 8 (g.S.CodeUnits.units c.args.src) k 0 l))
    (c.requires.paired.each (c.args.at + 8 + k) (omega arith) (omega arith))

pub returns : goal.returns
returns g c =
    let first = c.encode_halves-count.ensures in
    let second = c.encode_halves-more.ensures in
    let cut = c.cut_halves-cut in
    let bytes = c.encode_halves-count.result.0 in
    let other = c.encode_halves-more.result.0 in
    let count = c.encode_halves-count.result.1 in
    let more = c.encode_halves-more.result.1 in
    let rest = more - 2 * cut.result in
    let dst = c.args.dst.now in
    let low = first.spelled
    ∙ ap (λ xs. concatenated (λ k. half_bytes (get_or (moved xs) k 0) (get_or xs k 0)) 0 8) c.eight-first.ensures in
    let high = second.spelled
    ∙ (λ i. concatenated (λ k. half_bytes (get_or (c.eight.ensures i) k 0) (get_or (c.eight-second.ensures i) k 0)) 0 8) in
    let whole =
    both_halves (g.S.CodeUnits.units c.args.src) c.args.at c.requires.dst_length.0 c.requires.paired cut.result count more bytes other cut.ensures low
    high (omega (arith, second.lane_count, second.out_length)) in
    record {
      units = search rules;
      out_length = omega (
        arith,
        ap length whole,
        length-append (take count bytes) (take rest other),
        length-take-le count bytes
            (omega (arith, first.lane_count, first.out_length)),
        length-take-le rest other (omega (arith, second.lane_count, second.out_length)),
      );
      length_bound = omega (arith, first.out_length, second.out_length);
      written = c.write_both.ensures ∙ ap (λ xs. take c.args.to dst ++ (xs ++ drop (c.args.to + (count + rest)) dst)) whole;
    }
