use Rattle.std.proofs.Common.{◌++◌, ◌∷◌, [], length, arith, refl, sym, subst}
use Rattle.encoding_definitions.proofs.PrefixesLemmas.{WritesPrefix_after, WritesPrefix-same, WritesPrefix-length, written_is}
use Rattle.encoding_definitions.proofs.Utf16PrefixLemmas.{step_walked, step_within, step_written, step_stops, walked_all}
use Rattle.encoding_definitions.specs.Utf16.{IsUtf8OfLongestPrefix}
use Rattle.encoding_text.proofs.utf_8.from_utf16.convert_utf16_to_utf8_partial_tail.Goals as goal

pub loop-read-preserved : goal.loop-read-preserved
loop-read-preserved c =
    let here = c.loop-read.invariant in
    let first = c.scalar_at-scalar.ensures in
    record {
      within = step_within c.args.src.now _ here.done _ _ here.walked first c.utf16_length-read.ensures here.within;
      done = here.done ++ first.part ∷ [];
      walked = step_walked c.args.src.now _ here.done _ _ here.walked first c.utf16_length-read.ensures;
      written = WritesPrefix-same _ _ _ _ _ _ (WritesPrefix_after _ _ _ _ _ _ _ here.written c.write_scalar-written.ensures) refl
          (sym (step_written c.args.src.now _ here.done _ c.utf16_length-read.result here.walked first));
    }

pub returns-after-loop-read-clause-longest : goal.returns-after-loop-read-clause-longest
returns-after-loop-read-clause-longest c =
    let here = c.loop-read.invariant in
    subst (IsUtf8OfLongestPrefix c.args.src.now (length c.args.dst.now) c.loop-read.read) (written_is _ _ _ _ here.written)
    (walked_all c.args.src.now (length c.args.dst.now) c.loop-read.read here.done (λ k. omega (arith, c.type_inv.src k)) here.walked
    (omega arith) (omega (arith, here.written.count, here.written.fits)))

pub returns-then-utf8_length-dst-clause-longest : goal.returns-then-utf8_length-dst-clause-longest
returns-then-utf8_length-dst-clause-longest c =
    let here = c.loop-read.invariant in
    subst (IsUtf8OfLongestPrefix c.args.src.now (length c.args.dst.now) c.loop-read.read) (written_is _ _ _ _ here.written)
    (step_stops c.args.src.now c.loop-read.read here.done _ 0 here.walked c.scalar_at-scalar.ensures (length c.args.dst.now)
    (λ k. omega (arith, c.type_inv.src k)) (omega (arith, here.written.count, here.written.fits))
    (omega (arith, here.written.count, WritesPrefix-length _ _ _ _ here.written)))
