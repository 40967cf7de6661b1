use Rattle.std.proofs.Common.{◌≡◌, take, length, encode_utf8_all, ap, sym, ◌∙◌, subst}
use Rattle.std.specs.Simd.Lanes.{chunk}
use Rattle.encoding_definitions.specs.Prefixes.{WritesPrefix}
use Rattle.encoding_definitions.proofs.PrefixesLemmas.{WritesPrefix-length}
use Rattle.encoding_kernels.proofs.VectorLemmas.{whole_chunk}
use Rattle.encoding_text.proofs.Latin1ConversionLemmas.{least_spelled, prefix_had}
use Rattle.encoding_text.proofs.mem.latin1.write_least_latin1.Goals as goal

pub returns : goal.returns
returns c =
    let src = c.args.src.now in
    let bytes = c.copy_prefix.new.dst in
    let text = c.write_latin1.new.dst in
    let length_of = c.utf8_length_of_first-length in
    let copied = c.copy_prefix.ensures in
    let whole : chunk 0 16 bytes ≡ bytes = whole_chunk 16 bytes (WritesPrefix-length _ bytes (length src) src copied) in
    let is : take (length src) (chunk 0 16 bytes) ≡ src = ap (take (length src)) whole ∙ (prefix_had copied).1 in
    let taken : take length_of.result text ≡ encode_utf8_all src =
    least_spelled src (chunk 0 16 bytes) _ text (length src) length_of.result is length_of.ensures.out_length c.write_latin1.ensures.written in
    let counted : length (encode_utf8_all src) ≡ length_of.result = sym (length_of.ensures.out_length ∙ ap (λ ys. length (encode_utf8_all ys)) is) in
    record {
      written = subst (λ n. WritesPrefix c.args.dst.now c.copy_prefix-2.new.dst n (encode_utf8_all src)) counted
          (subst (λ ys. WritesPrefix c.args.dst.now c.copy_prefix-2.new.dst (length ys) ys) taken c.copy_prefix-2.ensures);
    }
