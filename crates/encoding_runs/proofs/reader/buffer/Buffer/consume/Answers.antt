use Rattle.std.proofs.Common.{◌-◌, length, drop, ap, ◌∙◌, arith}
use Rattle.std.proofs.lemmas.List.{length-take, length-drop}
use Rattle.encoding_runs.proofs.ReaderPieceLemmas.{consumed}
use Rattle.encoding_runs.proofs.reader.buffer.Buffer.consume.Goals as goal

pub returns : goal.returns
returns g c =
    let b = c.self.inside in
    let size = ap length c.self.view_is in
    consumed b.units b.begin b.end c.args.count
    (omega (arith, c.requires, c.self.invariant, size, length-take (b.end - b.begin) (drop b.begin b.units), length-drop b.begin b.units))
    ∙ ap (drop c.args.count) c.self.view_is
