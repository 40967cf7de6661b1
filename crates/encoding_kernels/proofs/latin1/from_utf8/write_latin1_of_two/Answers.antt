use Rattle.std.proofs.Common.{◌≡◌, ◌+◌, ◌-◌, ◌<◌, ◌≤◌, ◌⊎◌, ◌++◌, ◌∙◌, arith, drop, get_or, subst, sym, take}
use Rattle.std.specs.Simd.Lanes.{put_chunk}
use Rattle.encoding_kernels.specs.KeptBytes.{all_latin1_ended}
use Rattle.encoding_kernels.specs.Utf8Output.{Spills}
use Rattle.encoding_kernels.proofs.Latin1FromUtf8Lemmas.{apart_chunk, before_second, ended_of_two}
use Rattle.encoding_kernels.proofs.OverwriteLemmas.{spills_back, spills_then, store_spills_rest}
use Rattle.encoding_kernels.proofs.latin1.from_utf8.write_latin1_of_two.Goals as goal

pub ended_latin1-count-requires : goal.ended_latin1-count-requires
ended_latin1-count-requires c = apart_chunk c.args.src.now c.args.from 16 (omega arith) c.requires.apart

pub ended_latin1-more-requires : goal.ended_latin1-more-requires
ended_latin1-more-requires c =
    let src = c.args.src.now in
    let from = c.args.from in
    apart_chunk src (from + 16) 16 (omega arith) (λ k. let place : from + (16 + k) ≡ from + 16 + k = omega arith in
    subst (λ j. (get_or src j 0 < 0xC0) ⊎ (get_or src (j + 1) 0 < 0xC0)) place (c.requires.apart (16 + k)))

pub returns : goal.returns
returns c =
    let src = c.args.src.now in
    let from = c.args.from in
    let at = c.args.at in
    let first = c.ended_latin1-count in
    let second = c.ended_latin1-more in
    let n = first.result.1 in
    let m = second.result.1 in
    let old = c.args.dst.now in
    let one = put_chunk at old first.result.0 in
    let two = put_chunk (at + n) one second.result.0 in
    let bounds : (n ≤ 16) × (m ≤ 16) × (8 ≤ n) × (8 ≤ m) = omega (arith, first.ensures.out_length, second.ensures.out_length) in
    let stored = store_spills_rest old first.result.0 at n first.ensures.lane_count bounds.0 (omega arith) in
    let next = store_spills_rest one second.result.0 (at + n) m second.ensures.lane_count bounds.1 (omega (arith, stored.long, bounds.0)) in
    let both = spills_then old one two at n m (16 - n) (16 - m) _ _ stored next (omega (arith, bounds.2)) in
    let ended : take n first.result.0 ++ take m second.result.0 ≡ all_latin1_ended 0 (take 32 (drop from src)) =
    (λ i. first.ensures.latin1_ended 0 c.lanes_before.ensures.one.each i
    ++ second.ensures.latin1_ended (get_or src (from + 15) 0) (before_second src from c.requires.within) i)
    ∙ ended_of_two src from c.requires.within in
    let all = subst (Spills old two at (n + m) (16 - m)) ended both in
    record {
      length_bound = omega (arith, bounds);
      out_length = sym all.counted;
      written = spills_back old two _ at (n + m) (16 - m) all (omega arith) (omega (arith, bounds));
    }
