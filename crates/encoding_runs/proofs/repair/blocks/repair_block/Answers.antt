use Rattle.std.proofs.Common.{not, ◌≡◌, ◌∙◌, ◌==◌, ◌-◌, ◌≤◌, ℕ, List, length, take, drop, encode_utf8, ap, sym, arith}
use Rattle.std.proofs.lemmas.Bool.{both_ways}
use Rattle.std.proofs.lemmas.List.{take_rest, length-drop}
use Rattle.std.proofs.lemmas.Str.{length-encode}
use Rattle.encoding_text.specs.declared.decoder.DecoderResult.TheVariants.{Malformed}
use Rattle.encoding_text.proofs.EncoderLemmas.{none_there}
use Rattle.encoding_definitions.proofs.PrefixesLemmas.{WritesPrefix-length}
use Rattle.encoding_text.proofs.RepairingLemmas.{repaired_more}
use Rattle.encoding_runs.proofs.BlockRepairLemmas.{block_rejected, block_finished, block_full, block_fits, block_replaced}
use Rattle.encoding_runs.proofs.repair.blocks.repair_block.Goals.{then-not-last, else-not-last, else-is_empty-via-then-is_empty+else-left-lt-REPLACEMENT_LENGTH}
use Rattle.encoding_runs.proofs.repair.blocks.repair_block.Goals.{else-is_empty-via-else-is_empty}
use Rattle.encoding_runs.proofs.repair.blocks.repair_block.Goals as goal

pub returns-then-left-lt-REPLACEMENT_LENGTH : goal.returns-then-left-lt-REPLACEMENT_LENGTH
returns-then-left-lt-REPLACEMENT_LENGTH c =
    let rest : List ℕ = take (length c.args.src.now - c.loop-rest.block.read) (drop c.loop-rest.block.read c.args.src.now) in
    let none : length rest ≡ 0 = none_there c.is_empty.result (length rest) c.is_empty.ensures c.if-is_empty.true in
    let all : length c.args.src.now - c.loop-rest.block.read ≡ 0 = sym (length-drop c.loop-rest.block.read c.args.src.now)
    ∙ sym (ap length (take_rest c.args.src.now c.loop-rest.block.read)) ∙ none in
    block_rejected _ _ _ _ _ _ _ _ _ _ c.in_neutral_state-neutral.ensures.pending c.loop-rest.invariant.done all c.if-left-lt-REPLACEMENT_LENGTH.true
    (elim c.if-not-last.branch [
      | then-not-last w ↦ rw w.block-is ((λ _ marked. absurd (both_ways _ w.if-not-last.true marked)), λ _. ap not w.if-not-last.true)
      | else-not-last w ↦ rw w.block-is ((λ e _. w.in_neutral_state.ensures.neutral.0 e), λ e. w.in_neutral_state.ensures.neutral.1 (e w.if-not-last.false))
    ])

pub returns-in-InputEmpty : goal.returns-in-InputEmpty
returns-in-InputEmpty c =
    let call = rw (take_rest c.args.src.now c.loop-rest.block.read, c.in-InputEmpty.is) at c.decode_to_utf8_raw-result.ensures.call in
    block_finished _ _ _ _ _ _ _ _ _ _ _ _ _ c.in_neutral_state-neutral.ensures.pending c.loop-rest.invariant.done call

pub returns-in-OutputFull : goal.returns-in-OutputFull
returns-in-OutputFull c =
    let call = rw (take_rest c.args.src.now c.loop-rest.block.read, c.in-OutputFull.is) at c.decode_to_utf8_raw-result.ensures.call in
    rw c.loop-rest.invariant.unfinished (block_full _ _ _ _ _ _ _ _ _ _ _ _ _ c.in_neutral_state-neutral.ensures.pending c.loop-rest.invariant.done call)

pub write_scalar-requires-clause-dst_length : goal.write_scalar-requires-clause-dst_length
write_scalar-requires-clause-dst_length c =
    let call = rw (take_rest c.args.src.now c.loop-rest.block.read, c.in-Malformed.is) at c.decode_to_utf8_raw-result.ensures.call in
    let at_end : length c.args.src.now - c.loop-rest.block.read ≡ 0 → 3 ≤ length c.loop-rest.dst - c.loop-rest.block.written =
    λ all. elim c.else-is_empty.branch [
      | else-is_empty-via-then-is_empty+else-left-lt-REPLACEMENT_LENGTH w ↦ omega (arith, w.if-left-lt-REPLACEMENT_LENGTH.false)
      | else-is_empty-via-else-is_empty w ↦
          absurd
          (both_ways _ w.if-is_empty.false (c.is_empty.ensures ∙ ap (λ n. n == 0) (ap length (take_rest c.args.src.now c.loop-rest.block.read)
          ∙ length-drop c.loop-rest.block.read c.args.src.now ∙ all)))
    ] in
    block_fits _ _ _ _ _ _ _ _ _ _ _ _ _ c.in_neutral_state-neutral.ensures.pending c.loop-rest.invariant.done c.in-Malformed.field-0
    c.in-Malformed.field-1 call at_end

pub loop-rest-preserved : goal.loop-rest-preserved
loop-rest-preserved c =
    let call = rw (take_rest c.args.src.now c.loop-rest.block.read, c.in-Malformed.is) at c.decode_to_utf8_raw-result.ensures.call in
    let result = Malformed c.in-Malformed.field-0 c.in-Malformed.field-1 in
    let (reported, is, b) = repaired_more encode_utf8 4 _ _ _ _ _ _ _ _ _ _ _ _ _ result c.loop-rest.invariant.done call in
    let done = block_replaced _ _ _ _ _ _ _ _ _ _ c.in-Malformed.field-0 c.in-Malformed.field-1 _ reported b is c.write_scalar.ensures in
    record {
      done = done;
      within = omega (arith, done.writes.fits, WritesPrefix-length _ _ _ _ done.writes);
      three = omega (arith, c.loop-rest.invariant.three, c.write_scalar.ensures.count, length-encode 0xFFFD);
      unfinished = c.loop-rest.invariant.unfinished;
    }

pub loop-rest-smaller : goal.loop-rest-smaller
loop-rest-smaller c =
    let call = rw (take_rest c.args.src.now c.loop-rest.block.read, c.in-Malformed.is) at c.decode_to_utf8_raw-result.ensures.call in
    let result = Malformed c.in-Malformed.field-0 c.in-Malformed.field-1 in
    let (reported, is, b) = repaired_more encode_utf8 4 _ _ _ _ _ _ _ _ _ _ _ _ _ result c.loop-rest.invariant.done call in
    let done = block_replaced _ _ _ _ _ _ _ _ _ _ c.in-Malformed.field-0 c.in-Malformed.field-1 _ reported b is c.write_scalar.ensures in
    omega (arith, c.write_scalar.ensures.count, length-encode 0xFFFD, done.writes.fits)
