use Rattle.std.proofs.Common.{◌∙◌, ◌++◌, ◌+◌, drop, take, ap}
use Rattle.encoding_kernels.proofs.UniformLemmas.{two_puts}
use Rattle.encoding_kernels.proofs.utf16_to_utf8.three_byte.write_eight.Goals as goal

pub returns-clause-written : goal.returns-clause-written
returns-clause-written c =
    let bytes = c.encode_three_byte.ensures in
    let at = c.args.at in
    let dst = c.args.dst.now in
    two_puts at 16 8 dst c.encode_three_byte.result.0 c.encode_three_byte.result.1 c.requires.dst_length bytes.lane_count.0 bytes.lane_count.1
    ∙ ap (λ xs. take at dst ++ (xs ++ drop (at + 24) dst)) bytes.spelled
