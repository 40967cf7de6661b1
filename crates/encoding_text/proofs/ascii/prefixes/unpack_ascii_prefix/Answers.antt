use Rattle.std.proofs.Common.{◌+◌, ◌-◌, ◌≤◌, arith, drop, length, length-drop, length-take-le}
use Rattle.encoding_text.proofs.WholePrefixesLemmas.{block_stops, copied_after, prefix_after}
use Rattle.encoding_text.proofs.ascii.prefixes.unpack_ascii_prefix.Goals as goal

pub unpack_rest-requires-clause-other : goal.unpack_rest-requires-clause-other
unpack_rest-requires-clause-other c =
    let src = c.args.src.now in
    let at = c.unpack_blocks-at.result in
    let blocks = c.unpack_blocks-at.ensures in
    λ long. let fits : at + 64 ≤ length src =
    omega (arith, long, length-take-le (length src - at) (drop at src) (omega (arith, blocks.within, length-drop at src))) in
    block_stops src at blocks.within fits (blocks.stops fits)

pub returns-clause-prefix : goal.returns-clause-prefix
returns-clause-prefix c =
    let blocks = c.unpack_blocks-at.ensures in
    prefix_after c.args.src.now c.unpack_blocks-at.result blocks.within blocks.ascii c.unpack_rest.result c.unpack_rest.ensures.prefix

pub returns-clause-copied : goal.returns-clause-copied
returns-clause-copied c =
    let blocks = c.unpack_blocks-at.ensures in
    copied_after c.args.src.now c.unpack_blocks-at.result blocks.within blocks.ascii c.unpack_rest.result c.unpack_rest.ensures.prefix c.args.dst.now
    c.unpack_blocks-at.new.dst c.unpack_rest.new.dst blocks.copied c.unpack_rest.ensures.copied
