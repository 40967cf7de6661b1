use Rattle.std.proofs.Common.{◌+◌, ◌∙◌, ap, arith, leb, nat_le, slice_index, sym, w8}
use mir.Val.{bool_byte}
use Rattle.encoding_kernels.proofs.VectorLemmas.{HasLanes_load, HasLanes_same, HasLanes-splat}
use Rattle.encoding_kernels.proofs.MaskLemmas.{chosen, tests_of}
use Rattle.encoding_kernels.proofs.SumLemmas.{one_or_none}
use Rattle.encoding_definitions.proofs.Latin1Lemmas.{at_drop_start}
use Rattle.encoding_kernels.proofs.latin1.length.BeyondAsciiTerms.terms.Goals as goal

pub returns : goal.returns
returns g c =
    let bs = c.args.self.now.bytes.now in
    let at = c.args.at in
    let n = g.row.N in
    let counted = tests_of w8 leb (HasLanes-splat n 0x80) (HasLanes_load at n bs (omega arith)) in
    HasLanes_same (chosen 1 0 counted) (λ k l. one_or_none (leb 0x80 (slice_index bs (at + k)))
    ∙ ap (λ b. bool_byte (nat_le 0x80 b)) (sym (at_drop_start bs (at + k))))
