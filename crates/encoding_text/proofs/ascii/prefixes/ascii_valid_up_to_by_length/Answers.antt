use Rattle.std.proofs.Common.{◌≤◌, ◌<◌, length, arith}
use Rattle.encoding_kernels.specs.Scans.{BelowUpTo}
use Rattle.encoding_kernels.proofs.ScanLemmas.{Each-take, prefix_before}
use Rattle.encoding_text.proofs.WholePrefixesLemmas.{prefix_on}
use Rattle.encoding_text.proofs.ascii.prefixes.ascii_valid_up_to_by_length.Goals as goal
use Rattle.encoding_text.proofs.ascii.prefixes.ascii_valid_up_to_by_length.Goals.{then-this-lt-BLOCK+else-bytes-lt-BLOCK+else-first-lt-BLOCK}
use Rattle.encoding_text.proofs.ascii.prefixes.ascii_valid_up_to_by_length.Goals.{else-this-lt-BLOCK}

pub returns-then-bytes-lt-BLOCK : goal.returns-then-bytes-lt-BLOCK
returns-then-bytes-lt-BLOCK g c =
    let prefix = c.prefix_len_below.ensures in
    prefix_before (λ b. b < 0x80) (omega arith) c.args.bytes.now _ prefix.within prefix.below (λ short is. omega (arith, prefix.stops short, is))

pub prefix_after_stride-requires : goal.prefix_after_stride-requires
prefix_after_stride-requires g c = (
  omega (arith, c.if-bytes-gt-TWO_BLOCKS.true),
  λ k l. elim c.if-this-lt-BLOCK.branch [
    | then-this-lt-BLOCK+else-bytes-lt-BLOCK+else-first-lt-BLOCK w ↦
        w.run_len_below-first.ensures.pass k (omega arith) (omega (arith, l, w.if-first-lt-BLOCK.false))
    | else-this-lt-BLOCK w ↦ c.requires.known.1 k (omega (arith, l, w.if-this-lt-BLOCK.false))
  ],
)

pub returns-then-bytes-gt-TWO_BLOCKS : goal.returns-then-bytes-gt-TWO_BLOCKS
returns-then-bytes-gt-TWO_BLOCKS g c =
    let prefix = c.prefix_after_stride.ensures in
    prefix_before (λ b. b < 0x80) (omega arith) c.args.bytes.now _ prefix.within prefix.below (λ short is. omega (arith, prefix.stops short, is))

pub returns : goal.returns
returns g c =
    let bytes = c.args.bytes.now in
    let first : (64 ≤ length bytes) × BelowUpTo 0x80 bytes 64 = elim c.if-this-lt-BLOCK.branch [
      | then-this-lt-BLOCK+else-bytes-lt-BLOCK+else-first-lt-BLOCK w ↦ (
        omega (arith, w.if-bytes-lt-BLOCK.false),
        λ k l. w.run_len_below-first.ensures.pass k (omega arith) (omega (arith, l, w.if-first-lt-BLOCK.false)),
      )
      | else-this-lt-BLOCK w ↦ (
        omega (arith, c.requires.known.0, w.if-this-lt-BLOCK.false),
        λ k l. c.requires.known.1 k (omega (arith, l, w.if-this-lt-BLOCK.false)),
      )
    ] in
    prefix_on bytes 64 64 c.run_len_below.result first.0 (omega arith) first.0 (Each-take (λ b. b < 0x80) (omega arith) bytes 64 first.1)
    c.run_len_below.ensures
