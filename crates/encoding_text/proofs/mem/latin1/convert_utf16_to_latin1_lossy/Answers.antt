use Rattle.std.proofs.Common.{◌≡◌, ℕ, [], ◌++◌, ◌+◌, ◌%◌, map, take, drop, length, ap, ◌∙◌, refl, arith, bit_and, slice_index}
use Rattle.std.proofs.lemmas.Grind.{common_steps}
use Rattle.encoding_kernels.proofs.ScanLemmas.{many, whole_stride}
use Rattle.encoding_definitions.proofs.PrefixesLemmas.{WritesPrefix-length}
use Rattle.encoding_text.proofs.Latin1ConversionLemmas.{WritesPrefix_low, WritesPrefix_low_block}
use Rattle.encoding_text.proofs.mem.latin1.convert_utf16_to_latin1_lossy.Goals as goal

pub loop-stride-preserved : goal.loop-stride-preserved
loop-stride-preserved c =
    let src = c.args.src.now in
    let at = c.loop-stride.at in
    let place = c.loop-stride.invariant.place in
    let copied = c.loop-stride.invariant.copied in
    let within = many 16 (length c.as_chunks.result.0.now) c.loop-stride.stride-index (length src) c.as_chunks.ensures.front_len c.loop-stride-test.true in
    let is = whole_stride 16 src [] refl c.as_chunks.ensures.front c.as_chunks.ensures.front_len place c.loop-stride-test.true in
    let put = c.pack_lower.ensures ∙ ap (λ xs. take at c.loop-stride.dst ++ (map (λ (unit : ℕ). unit % 0x100) xs ++ drop (at + 16) c.loop-stride.dst)) is in
    record {
      place = omega (arith, place);
      copied = WritesPrefix_low_block c.args.dst.now c.loop-stride.dst c.pack_lower.new.dst src at 16 copied (omega (arith, place, within))
          (omega (arith, place, within, WritesPrefix-length _ _ _ _ copied)) put;
    }

pub loop-i-preserved : goal.loop-i-preserved
loop-i-preserved c =
    let unit = slice_index c.args.src.now c.loop-i.i in
    let low : bit_and unit 255 ≡ unit % 0x100 = grind (arith, common_steps) in
    WritesPrefix_low _ _ c.args.src.now c.loop-i.i _ c.loop-i.invariant c.loop-i-test.true (omega arith) low
