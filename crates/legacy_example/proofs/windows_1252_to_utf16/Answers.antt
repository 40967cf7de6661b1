use Rattle.std.proofs.Common.{◌≡◌, ◌+◌, ◌<◌, ◌++◌, [], ◌∷◌, length, take, map, arith, ap, ◌∙◌, refl}
use Rattle.std.proofs.lemmas.List.{take_all}
use Rattle.encoding_text.proofs.PrefixesLemmas.{WritesPrefix-length, WritesPrefix-same, WritesPrefix_push}
use Rattle.legacy_example.specs.Windows1252.{scalar_of}
use Rattle.legacy_example.proofs.IndexLemmas.{units_are}
use Rattle.legacy_example.proofs.WritingLemmas.{units_run, byte_after}
use Rattle.legacy_example.proofs.windows_1252_to_utf16.Goals as goal

pub returns-then-at-src : goal.returns-then-at-src
returns-then-at-src c =
    let src = c.args.src.now in
    let run = c.latin1_length-run in
    let whole =
    units_run src c.args.dst.now c.loop-at.dst _ c.loop-at.at run.result c.loop-at.invariant.written run.ensures.within run.ensures.same
    c.convert_latin1_to_utf16.ensures.written in
    let all : take (c.loop-at.at + run.result) src ≡ src = take_all _ src (omega arith) in
    record { written = WritesPrefix-same _ _ _ _ _ _ whole c.if-at-src.true (ap (map scalar_of) all ∙ units_are src (λ k. omega (arith, c.type_inv.src k))) }

pub loop-at-preserved : goal.loop-at-preserved
loop-at-preserved c =
    let src = c.args.src.now in
    let run = c.latin1_length-run in
    let place = c.loop-at.at + run.result in
    let whole =
    units_run src c.args.dst.now c.loop-at.dst _ c.loop-at.at run.result c.loop-at.invariant.written run.ensures.within run.ensures.same
    c.convert_latin1_to_utf16.ensures.written in
    let within : place < length src = omega arith in
    let unit = ap (λ b. map scalar_of (take place src) ++ b ∷ []) c.code_unit.ensures ∙ byte_after src place within in
    let long = WritesPrefix-length _ _ _ _ whole in
    record {
      within = omega arith;
      written = WritesPrefix-same _ _ _ _ _ _
          (WritesPrefix_push _ _ _ _ c.code_unit.result whole (omega (arith, long, within, c.requires.dst_length))) refl unit;
    }
