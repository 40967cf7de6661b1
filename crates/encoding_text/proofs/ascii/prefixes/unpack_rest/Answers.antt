use Rattle.std.proofs.Common.{◌-◌, arith, length, length-take-le, subst, take}
use Rattle.std.proofs.lemmas.List.{take_rest}
use Rattle.encoding_definitions.specs.Prefixes.{WritesPrefix}
use Rattle.encoding_text.proofs.WholePrefixesLemmas.{first_run, fitting_ascii, fitting_prefix, fitting_copied, prefix_on, copied_on}
use Rattle.encoding_text.proofs.ascii.prefixes.unpack_rest.Goals as goal

pub returns-then-src-ge-BLOCK-clause-prefix : goal.returns-then-src-ge-BLOCK-clause-prefix
returns-then-src-ge-BLOCK-clause-prefix c =
    first_run c.args.src.now c.run_len_below-run.result c.if-src-ge-BLOCK.true c.run_len_below-run.ensures (c.requires.other c.if-src-ge-BLOCK.true)

pub returns-then-src-ge-BLOCK-clause-copied : goal.returns-then-src-ge-BLOCK-clause-copied
returns-then-src-ge-BLOCK-clause-copied c =
    let src = c.args.src.now in
    let n = c.run_len_below-run.result in
    let call = c.write_short_ascii_as_units in
    let run = first_run src n c.if-src-ge-BLOCK.true c.run_len_below-run.ensures (c.requires.other c.if-src-ge-BLOCK.true) in
    subst (λ m. WritesPrefix c.args.dst.now call.new.dst m (take n src)) (length-take-le n src run.within) (call.ensures.1 (call.ensures.0.1 run.kind))

pub returns-in-Some-clause-prefix : goal.returns-in-Some-clause-prefix
returns-in-Some-clause-prefix c =
    fitting_prefix c.args.src.now c.args.dst.now c.length_of_strides-whole.result c.length_of_strides-whole.ensures.within.0 c.requires.dst_length
    c.in-Some.field-0-0 c.in-Some.place c.in-Some.ensures.found

pub returns-clause-prefix : goal.returns-clause-prefix
returns-clause-prefix c =
    let src = c.args.src.now in
    let whole = c.length_of_strides-whole.result in
    let call = c.length_of_strides-whole.ensures in
    let ascii = fitting_ascii src c.args.dst.now whole call.within.0 c.requires.dst_length c.in_default.ensures.found in
    prefix_on src whole 16 c.run_len_below-run-2.result call.within.0 (omega (arith, call.within.1)) (omega (arith, call.whole, c.if-whole-src.false)) ascii
    c.run_len_below-run-2.ensures

pub returns-clause-copied : goal.returns-clause-copied
returns-clause-copied c =
    let src = c.args.src.now in
    let old = c.args.dst.now in
    let whole = c.length_of_strides-whole.result in
    let call = c.length_of_strides-whole.ensures in
    let ascii = fitting_ascii src old whole call.within.0 c.requires.dst_length c.in_default.ensures.found in
    let start = fitting_copied src old whole call.within.0 c.requires.dst_length c.ascii_to_basic_latin.new.dst c.in_default.ensures.copied in
    copied_on src whole 16 c.run_len_below-run-2.result call.within.0 (omega (arith, call.within.1)) (omega (arith, call.whole, c.if-whole-src.false)) ascii
    c.run_len_below-run-2.ensures
    old c.ascii_to_basic_latin.new.dst _ c.requires.dst_length start (rw (take_rest src (length src - 16)) at c.unpack_first.ensures)
