use Rattle.std.proofs.Common.{◌≡◌, [], List, ℕ, Vec, Global, Bor, take, arith, refl, sym, subst, true, false, append-nil}
use Rattle.std.proofs.lemmas.Grind.{common_steps}
use Rattle.std.proofs.lemmas.List.{flat_map_more}
use Rattle.encoding_text.specs.Parts.{ArePartsOf}
use Rattle.engine_example.proofs.EnginePieceLemmas.{flat_map-take, taken_on}
use Rattle.engine_example.proofs.blocks_of_utf8.Goals as goal

abbrev bytes_of : Bor (List ℕ) → List ℕ
bytes_of piece = piece.now

abbrev units_of_part16 : Vec ℕ Global → List ℕ
units_of_part16 block = block.items

pub loop-piece-preserved : goal.loop-piece-preserved
loop-piece-preserved c =
    let bytes = flat_map-take bytes_of c.args.pieces.now c.loop-piece.piece-index (record { ref_ptr = (0, 0); now = [] }) (omega arith) in
    let units = flat_map_more units_of_part16 [] c.loop-piece.blocks.items c.in_ok-block_of_piece.field-0 in
    rw (c.in_ok-push.ensures.items, sym bytes, sym units) (taken_on _ _ _ _ _ _ false c.loop-piece.invariant c.in_ok-block_of_piece.ensures)

pub returns : goal.returns
returns c =
    let all : take c.loop-piece.piece-index c.args.pieces.now ≡ c.args.pieces.now = grind (arith, common_steps) in
    let units = flat_map_more units_of_part16 [] c.loop-piece.blocks.items c.in_ok-block_of_piece-2.field-0 in
    let taken = rw all at c.loop-piece.invariant in
    let whole = taken_on _ _ _ _ _ _ true taken c.in_ok-block_of_piece-2.ensures in
    rw (c.in_ok-push-2.ensures.items, sym units) (whole.parts, subst (λ xs. ArePartsOf xs whole.parts) (append-nil _) (whole.all refl), whole.written)
