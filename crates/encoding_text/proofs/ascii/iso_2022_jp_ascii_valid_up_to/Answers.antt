use Rattle.std.proofs.Common.{[], refl, arith, length}
use Rattle.encoding_kernels.proofs.ScanLemmas.{many, whole_stride}
use Rattle.encoding_text.proofs.WholePrefixesLemmas.{own_through, own_until}
use Rattle.encoding_text.proofs.ascii.iso_2022_jp_ascii_valid_up_to.Goals as goal

pub returns-then-run-lt-STRIDE : goal.returns-then-run-lt-STRIDE
returns-then-run-lt-STRIDE c =
    let bytes = c.args.bytes.now in
    let within = many 16 (length c.as_chunks.result.0.now) c.loop-stride.stride-index (length bytes) c.as_chunks.ensures.front_len c.loop-stride-test.true in
    let is = whole_stride 16 bytes [] refl c.as_chunks.ensures.front c.as_chunks.ensures.front_len c.loop-stride.invariant.place c.loop-stride-test.true in
    let prefix = c.iso_2022_jp_ascii_run-run.ensures in
    own_until c.loop-stride.at 16 c.iso_2022_jp_ascii_run-run.result bytes _ is
    (omega (arith, within, c.loop-stride.invariant.place)) c.loop-stride.invariant.own prefix c.if-run-lt-STRIDE.true

pub loop-stride-preserved : goal.loop-stride-preserved
loop-stride-preserved c =
    let bytes = c.args.bytes.now in
    let within = many 16 (length c.as_chunks.result.0.now) c.loop-stride.stride-index (length bytes) c.as_chunks.ensures.front_len c.loop-stride-test.true in
    let is = whole_stride 16 bytes [] refl c.as_chunks.ensures.front c.as_chunks.ensures.front_len c.loop-stride.invariant.place c.loop-stride-test.true in
    let prefix = c.iso_2022_jp_ascii_run-run.ensures in
    let own =
    own_through c.loop-stride.at 16 c.iso_2022_jp_ascii_run-run.result bytes _ is
    (omega (arith, within, c.loop-stride.invariant.place)) c.loop-stride.invariant.own prefix in
    record { place = omega (arith, c.loop-stride.invariant.place); own = λ k l. own k (omega (arith, l, c.if-run-lt-STRIDE.false)) }
