use Rattle.std.proofs.Common.{refl, sym, subst}
use Rattle.std.proofs.lemmas.List.{take_rest}
use Rattle.encoding_definitions.specs.Bidi.{IsBidiBytes}
use Rattle.encoding_definitions.specs.Latin1.{IsUtf8Latin1}
use Rattle.encoding_definitions.proofs.BidiTextLemmas.{bytes_whole, bytes_rest}
use Rattle.encoding_definitions.proofs.PrefixesLemmas.{prefix_not_whole}
use Rattle.encoding_text.proofs.mem.bidi.check_utf8_for_latin1_and_bidi.Goals as goal

pub returns-then-is_utf8_bidi : goal.returns-then-is_utf8_bidi
returns-then-is_utf8_bidi c =
    let f = c.utf8_latin1_up_to-prefix.ensures in
    let rest = subst IsBidiBytes (take_rest c.args.buffer.now _) ((c.if-is_utf8_bidi.ensures {u = tt}).0 refl) in
    (prefix_not_whole IsUtf8Latin1 _ _ f c.if-prefix-buffer.false, bytes_whole _ _ f.within f.kind rest)

pub returns-else-is_utf8_bidi : goal.returns-else-is_utf8_bidi
returns-else-is_utf8_bidi c =
    let f = c.utf8_latin1_up_to-prefix.ensures in (
      prefix_not_whole IsUtf8Latin1 _ _ f c.if-prefix-buffer.false,
      λ b. let none = (c.if-is_utf8_bidi.ensures {u = tt}).1 (subst IsBidiBytes (sym (take_rest c.args.buffer.now _)) (bytes_rest _ _ f.within f.kind b)) in cc,
    )
