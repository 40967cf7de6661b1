use Rattle.std.proofs.Common.{◌∙◌, sym}
use Rattle.decoder_example.proofs.whole_streams.law_text_of_utf16.Goals as goal

pub returns-clause-parts : goal.returns-clause-parts
returns-clause-parts c = λ order bs h.
    let (parts, are) = c.law_utf16_parts.ensures.exist order bs h in
    (parts, are, c.law_utf16_parts.ensures.joined order bs parts are, λ others k. c.law_utf16_parts.ensures.one order bs parts others are k)

pub returns-clause-characters : goal.returns-clause-characters
returns-clause-characters c = λ order cs parts h are.
    c.law_utf16_parts.ensures.one order _ parts _ are (c.law_utf16_parts.ensures.characters order cs h)

pub returns-clause-orders : goal.returns-clause-orders
returns-clause-orders c = λ order other us parts others h are also.
    c.law_utf16_parts.ensures.lossy order us parts h are ∙ sym (c.law_utf16_parts.ensures.lossy other us others h also)

pub returns-clause-prefix : goal.returns-clause-prefix
returns-clause-prefix c = λ order bs more all h are.
    let (parts, rest, final) = c.law_utf16_parts.ensures.final_exist order bs h in
    let (others, same) = c.law_utf16_parts.ensures.final_stay order bs rest more parts all final.starts are in
    (parts, rest, final, others, same)
