use Rattle.std.proofs.Common.{◌∙◌, ap, refl, arith, sym, length, encode_utf8_all}
use Rattle.std.proofs.lemmas.List.{take_all}
use Rattle.std.proofs.lemmas.Str.{encodes-IsAscii}
use Rattle.encoding_definitions.proofs.PrefixesLemmas.{WritesPrefix-same}
use Rattle.encoding_text.proofs.Latin1ConversionLemmas.{latin1_fits_all}
use Rattle.encoding_text.proofs.mem.latin1.convert_latin1_to_utf8_partial.Goals as goal

pub returns-then-write_short_ascii-clause-written : goal.returns-then-write_short_ascii-clause-written
returns-then-write_short_ascii-clause-written c =
    let src = c.args.src.now in
    let call = c.if-write_short_ascii.ensures in
    WritesPrefix-same _ _ _ _ _ _ (call.1 refl) refl
    (sym (ap encode_utf8_all (take_all (length src) src (omega arith)) ∙ encodes-IsAscii src (call.0.0 refl)))

pub returns-then-write_short_ascii-clause-prefix : goal.returns-then-write_short_ascii-clause-prefix
returns-then-write_short_ascii-clause-prefix c =
    let w = returns-then-write_short_ascii-clause-written c in
    latin1_fits_all c.args.src.now _ _ (omega arith) (omega arith) (omega (arith, w.count, w.fits))
