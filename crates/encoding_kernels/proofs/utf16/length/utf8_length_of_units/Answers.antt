use Rattle.std.proofs.Common.{arith, refl}
use Rattle.std.specs.List.{flat_map}
use Rattle.encoding_definitions.specs.Utf16.{utf8_of_part16}
use Rattle.encoding_definitions.proofs.Utf16Lemmas.{parts_of, parts_exist}
use Rattle.encoding_kernels.specs.Lengths.{extra_bytes, extra_bytes_few}
use Rattle.encoding_kernels.proofs.LengthLemmas.{utf8_total}
use Rattle.encoding_kernels.proofs.SumLemmas.{total_most, skipped_to, ascii_beyond}
use Rattle.encoding_kernels.proofs.utf16.length.utf8_length_of_units.Goals as goal

pub overflow_add-result : goal.overflow_add-result
overflow_add-result c =
    let us = c.args.units.now in
    let ascii = skipped_to extra_bytes us ascii_beyond 0 c.short_ascii_len-ascii.result (omega arith) c.short_ascii_len-ascii.ensures.0
    (λ k from. c.short_ascii_len-ascii.ensures.1 k) in
    omega (arith, c.sum_from.ensures, ascii, total_most extra_bytes extra_bytes_few us)

pub returns : goal.returns
returns c =
    let us = c.args.units.now in
    let are = parts_exist us (λ k. (c.type_inv.units k).fits) in
    let ascii = skipped_to extra_bytes us ascii_beyond 0 c.short_ascii_len-ascii.result (omega arith) c.short_ascii_len-ascii.ensures.0
    (λ k from. c.short_ascii_len-ascii.ensures.1 k) in (
      flat_map utf8_of_part16 (parts_of us),
      record {
        parts = parts_of us;
        are_parts = are;
        written =
            refl;
      },
      omega (arith, c.sum_from.ensures, ascii, utf8_total us (parts_of us) are),
    )
