use Rattle.std.proofs.Common.{◌≡◌, ℕ, ◌+◌, ◌++◌, ◌∙◌, ap, arith, subst, sym, encode_utf8_all, take, drop, length, length-take-le, length-drop}
use Rattle.std.proofs.lemmas.Str.{length-le-encodes}
use Rattle.encoding_kernels.specs.Utf8Output.{Spills}
use Rattle.encoding_kernels.proofs.OverwriteLemmas.{encodes_block, exact_spills, spills_exact, spills_then}
use Rattle.encoding_kernels.proofs.latin1.to_utf8.write_latin1_block.Goals as goal

pub returns : goal.returns
returns c =
    let src = c.args.src.now in
    let from = c.args.from in
    let at = c.args.at in
    let first = c.store_latin1-first in
    let second = c.store_latin1-second in
    let third = c.store_latin1-third in
    let fourth = c.write_latin1-fourth in
    let stride = λ (k : ℕ). encode_utf8_all (take 16 (drop k src)) in
    let long : length (take 16 (drop (from + 48) src)) ≡ 16 = length-take-le 16 (drop (from + 48) src) (omega (arith, length-drop (from + 48) src)) in
    let old = c.args.dst.now in
    let two =
    spills_then old first.new.dst second.new.dst at first.result second.result 16 16 _ _ first.ensures.stored second.ensures.stored (omega arith) in
    let three =
    spills_then old second.new.dst third.new.dst at (first.result + second.result) third.result 16 16 _ _ two third.ensures.stored (omega arith) in
    let last =
    exact_spills third.new.dst fourth.new.dst (stride (from + 48)) (at + (first.result + second.result + third.result)) fourth.result
    (sym fourth.ensures.out_length) (omega (arith, three.long)) fourth.ensures.written in
    let four = spills_then old third.new.dst fourth.new.dst at (first.result + second.result + third.result) fourth.result 16 0 _ _ three last
    (omega (arith, long, length-le-encodes (take 16 (drop (from + 48) src)), fourth.ensures.out_length)) in
    let spelled : ((stride from ++ stride (from + 16)) ++ stride (from + 32)) ++ stride (from + 48) ≡ encode_utf8_all (take 64 (drop from src)) =
    (λ i. (encodes_block src from 16 16 i ++ stride (from + 32)) ++ stride (from + 48)) ∙ ap (λ xs. xs ++ stride (from + 48)) (encodes_block src from 32 16)
    ∙ encodes_block src from 48 16 in
    let all = subst (Spills old fourth.new.dst at (first.result + second.result + third.result + fourth.result) 0) spelled four in
    record { length_bound = omega arith; out_length = sym all.counted; written = spills_exact _ _ _ at _ all }
