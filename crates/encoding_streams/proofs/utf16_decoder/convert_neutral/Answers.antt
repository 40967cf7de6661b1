use Rattle.std.proofs.Common.{◌≡◌, [], sym, subst}
use Rattle.encoding_streams.specs.Utf16Steps.{Advances}
use Rattle.encoding_streams.proofs.Utf16StepLemmas.{advance_none}
use Rattle.encoding_streams.proofs.utf16_decoder.convert_neutral.Goals as goal

pub returns-then-not-is_empty-clause-characters : goal.returns-then-not-is_empty-clause-characters
returns-then-not-is_empty-clause-characters g c = advance_none c.args.order g.U.CodeUnit.encode c.args.pending.now c.args.src.now c.args.dst.now

pub returns-clause-characters : goal.returns-clause-characters
returns-clause-characters g c =
    let none : c.args.pending.now ≡ [] = c.is_empty.ensures.0 c.if-not-is_empty.false in
    subst
    (λ q. Advances c.args.order g.U.CodeUnit.encode q c.args.src.now c.args.dst.now c.convert.new.dst c.convert.result.0
    c.convert.result.1 q)
    (sym none) c.convert.ensures

pub returns-clause-none : goal.returns-clause-none
returns-clause-none g c = λ some. absurd (some (c.is_empty.ensures.0 c.if-not-is_empty.false))
