use Rattle.std.proofs.Common.{◌≡◌, ◌≤◌, length, arith}
use Rattle.std.proofs.lemmas.Grind.{common_steps}
use Rattle.encoding_text.proofs.PrefixesLemmas.{WritesPrefix-length}
use Rattle.decoder_example.proofs.StreamTextLemmas.{appends_text, text_after}
use Rattle.decoder_example.proofs.append_text.Goals as goal

pub returns : goal.returns
returns c =
    let made = c.decode_to_utf8-written.ensures in
    let writes = made.call.replaces.writes in
    let at : c.len-at.result ≡ length c.args.text.now.items = grind (arith, common_steps) in
    let longer : c.len-at.result ≤ c.in-Some-checked_add.end = grind (arith, common_steps) in
    let fits : c.decode_to_utf8-written.result.2 ≤ length c.decode_to_utf8-written.new.dst = omega (arith, writes.fits, WritesPrefix-length _ _ _ _ writes) in
    appends_text _ _ _ _ _ _ _ _ _ _ made.call made.suffices (grind (arith, common_steps)) _ _
    (text_after _ _ _ _ _ _ _ _ _ _ at longer c.in_ok-resize.ensures.items c.deref_mut.ensures.value writes.fits fits c.deref_mut.ensures.len
    c.truncate.ensures.items)
