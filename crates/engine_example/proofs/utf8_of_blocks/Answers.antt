use Rattle.std.proofs.Common.{◌≡◌, ◌+◌, ◌++◌, false, true, [], List, ℕ, Vec, Global, take, arith, refl, ap, subst, ◌∙◌, append-nil}
use Rattle.std.proofs.lemmas.Grind.{common_steps}
use Rattle.std.specs.List.{flat_map}
use Rattle.encoding_text.specs.Utf16.{ArePartsOf16}
use Rattle.engine_example.specs.CutBlocks.{WritesBlock}
use Rattle.engine_example.proofs.EngineBlockLemmas.{written_on, none_written}
use Rattle.engine_example.proofs.EnginePieceLemmas.{flat_map-take}
use Rattle.engine_example.proofs.utf8_of_blocks.Goals as goal

abbrev units_of_part16 : Vec ℕ Global → List ℕ
units_of_part16 block = block.items

pub loop-block-init : goal.loop-block-init
loop-block-init c = rw (c.new-bytes.ensures.items, c.new_inner-encoder.ensures) (none_written c.law_utf16_round_trip.ensures.exist)

pub loop-block-preserved : goal.loop-block-preserved
loop-block-preserved c =
    let (out, new, w) = c.in_ok-append_block.ensures.written in
    let before = flat_map units_of_part16 (take c.loop-block.block-index c.args.blocks.now) in
    let all : before ++ c.deref.result.now ≡ flat_map units_of_part16 (take (c.loop-block.block-index + 1) c.args.blocks.now) =
    ap (λ xs. before ++ xs) (c.deref.ensures.value ∙ ap units_of_part16 c.block-item.is)
    ∙ flat_map-take units_of_part16 c.args.blocks.now c.loop-block.block-index _ (omega arith) in
    subst (λ xs. WritesBlock [] xs false c.append_block.new.bytes.items c.append_block.new.encoder) all
    (written_on c.law_utf16_round_trip.ensures.one _ _ _ _ out _ _ false c.loop-block.invariant w c.in_ok-append_block.ensures.units new)

pub returns : goal.returns
returns c =
    let (out, new, w) = c.in_ok-append_block-2.ensures.written in
    let all : take c.loop-block.block-index c.args.blocks.now ≡ c.args.blocks.now = grind (arith, common_steps) in
    let before = rw all at c.loop-block.invariant in
    let whole = written_on c.law_utf16_round_trip.ensures.one _ _ _ _ out _ _ true before w c.in_ok-append_block-2.ensures.units new in
    record { parts = whole.parts; are_parts = subst (λ xs. ArePartsOf16 xs whole.parts) (append-nil _) (whole.all refl); written = whole.written }
