use Rattle.std.proofs.Common.{arith}
use Rattle.encoding_definitions.proofs.DecompositionLemmas.{has_parts}
use Rattle.encoding_kernels.specs.Lengths.{continuations}
use Rattle.encoding_kernels.proofs.LengthLemmas.{utf16_total}
use Rattle.encoding_kernels.proofs.SumLemmas.{ascii_joined, skipped_to}
use Rattle.encoding_kernels.proofs.utf8.length.utf16_length_of_utf8.Goals as goal

pub overflow_sub-result : goal.overflow_sub-result
overflow_sub-result c =
    let bs = c.args.bytes.now in
    let parts = has_parts bs in
    let ascii = skipped_to continuations bs ascii_joined 0 c.ascii_prefix_len-ascii.result (omega arith) c.ascii_prefix_len-ascii.ensures.0
    (λ k from. c.ascii_prefix_len-ascii.ensures.1 k) in
    omega (arith, c.count_joined_after.ensures, ascii, utf16_total bs parts.0 parts.1)

pub returns : goal.returns
returns c =
    let bs = c.args.bytes.now in
    let parts = has_parts bs in
    let ascii = skipped_to continuations bs ascii_joined 0 c.ascii_prefix_len-ascii.result (omega arith) c.ascii_prefix_len-ascii.ensures.0
    (λ k from. c.ascii_prefix_len-ascii.ensures.1 k) in
    (parts.0, parts.1, omega (arith, c.count_joined_after.ensures, ascii, utf16_total bs parts.0 parts.1))
