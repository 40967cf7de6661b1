use Rattle.std.proofs.Common.{◌+◌, ◌++◌, ◌∷◌, [], arith, refl, sym, subst, take}
use Rattle.std.proofs.lemmas.List.{take_rest}
use Rattle.encoding_definitions.proofs.PrefixesLemmas.{WritesPrefix_after, WritesPrefix-same, written_is}
use Rattle.encoding_definitions.proofs.Utf16PrefixLemmas.{Walked, step_walked, step_within, step_written, walked_prefix}
use Rattle.encoding_kernels.proofs.Utf16ToUtf8Lemmas.{goes_on}
use Rattle.encoding_definitions.specs.Utf16.{IsUtf8OfPrefix}
use Rattle.encoding_text.proofs.utf_8.from_utf16.convert_after_ascii.Goals as goal

pub loop-read-init : goal.loop-read-init
loop-read-init c =
    let us = c.args.src.now in
    let out = take c.args.ascii c.args.dst.now in
    let more = goes_on us (λ k. omega (arith, c.type_inv.src k)) 0 c.args.ascii [] out (record { whole = refl; taken = refl })
    (subst (λ xs. IsUtf8OfPrefix xs c.args.ascii out) (sym (take_rest us 0)) c.requires.start) in
    record {
      within = c.requires.within;
      done = more.all;
      walked = subst (λ n. Walked us n more.all) {x = 0 + c.args.ascii} {y = c.args.ascii} (omega arith) more.walked;
      written = WritesPrefix-same _ _ _ _ _ _ c.requires.written refl more.written;
      after = omega arith;
    }

pub loop-read-preserved-then-not-goes_on : goal.loop-read-preserved-then-not-goes_on
loop-read-preserved-then-not-goes_on c =
    let us = c.args.src.now in
    let here = c.loop-read.invariant in
    let next = c.convert_prefix_and_blocks-units.ensures in
    let more =
    goes_on us (λ k. omega (arith, c.type_inv.src k)) c.loop-read.read c.convert_prefix_and_blocks-units.result.0 here.done _ here.walked next.prefix in
    record {
      within = omega (arith, next.within);
      done = more.all;
      walked = more.walked;
      written = WritesPrefix-same _ _ _ _ _ _ (WritesPrefix_after _ _ _ _ _ _ _ here.written next.unchanged_after) refl more.written;
      after = omega (arith, here.after);
    }

pub loop-read-preserved-else-not-goes_on : goal.loop-read-preserved-else-not-goes_on
loop-read-preserved-else-not-goes_on c =
    let us = c.args.src.now in
    let here = c.loop-read.invariant in
    let next = c.convert_prefix_and_blocks-units.ensures in
    let more =
    goes_on us (λ k. omega (arith, c.type_inv.src k)) c.loop-read.read c.convert_prefix_and_blocks-units.result.0 here.done _ here.walked next.prefix in
    record {
      within = omega (arith, next.within);
      done = more.all;
      walked = more.walked;
      written = WritesPrefix-same _ _ _ _ _ _ (WritesPrefix_after _ _ _ _ _ _ _ here.written next.unchanged_after) refl more.written;
      after = omega (arith, here.after);
    }

pub loop-read-preserved : goal.loop-read-preserved
loop-read-preserved c =
    let here = c.loop-read.invariant in
    let first = c.scalar_at-scalar.ensures in
    record {
      within = step_within c.args.src.now _ here.done _ _ here.walked first c.utf16_length-read.ensures here.within;
      done = here.done ++ first.part ∷ [];
      walked = step_walked c.args.src.now _ here.done _ _ here.walked first c.utf16_length-read.ensures;
      written = WritesPrefix-same _ _ _ _ _ _ (WritesPrefix_after _ _ _ _ _ _ _ here.written c.write_scalar-written.ensures) refl
          (sym (step_written c.args.src.now _ here.done _ c.utf16_length-read.result here.walked first));
      after = omega (arith, here.after);
    }

pub returns-else-written-end-clause-prefix : goal.returns-else-written-end-clause-prefix
returns-else-written-end-clause-prefix c =
    let here = c.loop-read.invariant in
    subst (IsUtf8OfPrefix c.args.src.now c.loop-read.read) (written_is _ _ _ _ here.written)
    (walked_prefix c.args.src.now c.loop-read.read here.done (λ k. omega (arith, c.type_inv.src k)) here.walked)

pub returns-after-loop-read-clause-prefix : goal.returns-after-loop-read-clause-prefix
returns-after-loop-read-clause-prefix c =
    let here = c.loop-read.invariant in
    subst (IsUtf8OfPrefix c.args.src.now c.loop-read.read) (written_is _ _ _ _ here.written)
    (walked_prefix c.args.src.now c.loop-read.read here.done (λ k. omega (arith, c.type_inv.src k)) here.walked)
