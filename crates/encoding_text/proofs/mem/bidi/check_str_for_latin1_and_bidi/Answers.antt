use Rattle.std.proofs.Common.{refl, sym, subst}
use Rattle.std.proofs.lemmas.Str.{IsCharBoundary-from_take}
use Rattle.encoding_definitions.specs.Bidi.{IsBidiText}
use Rattle.encoding_definitions.specs.Latin1.{IsUtf8Latin1}
use Rattle.encoding_definitions.proofs.BidiTextLemmas.{text_whole, text_rest, text_of_latin1}
use Rattle.encoding_definitions.proofs.PrefixesLemmas.{prefix_not_whole}
use Rattle.encoding_text.proofs.mem.bidi.check_str_for_latin1_and_bidi.Goals as goal

pub range_from-requires : goal.range_from-requires
range_from-requires c = let f = c.str_latin1_up_to-prefix.ensures in λ _. IsCharBoundary-from_take _ _ c.utf8.buffer f.within (text_of_latin1 _ f.kind)

pub returns-then-is_str_bidi : goal.returns-then-is_str_bidi
returns-then-is_str_bidi c =
    let f = c.str_latin1_up_to-prefix.ensures in
    let rest = subst IsBidiText c.range_from.ensures.value ((c.if-is_str_bidi.ensures {u = tt}).0 refl) in
    (prefix_not_whole IsUtf8Latin1 _ _ f c.if-prefix-buffer.false, text_whole _ _ f.kind rest)

pub returns-else-is_str_bidi : goal.returns-else-is_str_bidi
returns-else-is_str_bidi c =
    let f = c.str_latin1_up_to-prefix.ensures in (
      prefix_not_whole IsUtf8Latin1 _ _ f c.if-prefix-buffer.false,
      λ b. let none = (c.if-is_str_bidi.ensures {u = tt}).1 (subst IsBidiText (sym c.range_from.ensures.value) (text_rest _ _ f.within f.kind b)) in cc,
    )
