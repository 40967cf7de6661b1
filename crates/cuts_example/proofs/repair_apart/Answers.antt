use Rattle.std.proofs.Common.{◌≡◌, ℕ, ◌+◌, ◌<◌, ◌≤◌, List, [], ◌∷◌, ◌++◌, length, take, get_or, map, sym, ap, subst, ◌∙◌, arith, Bor, Result, Ok, Err, IfOk}
use Rattle.std.proofs.lemmas.Grind.{common_steps}
use Rattle.std.proofs.lemmas.List.{map_push, take_more}
use Rattle.std.proofs.lemmas.List.Folds.{flat_map-map}
use Rattle.std.proofs.lemmas.Slice.Zip.{all_zipped_more}
use Rattle.std.specs.List.{AllZip, flat_map}
use Rattle.std.specs.declared.alloc.AllocError.{AllocError}
use Rattle.cuts_example.specs.declared.RepairedPiece.{RepairedPiece}
use Rattle.cuts_example.specs.Cuts.{IsRepairOf}
use Rattle.cuts_example.proofs.CutPieceLemmas.{replaced_within}
use Rattle.cuts_example.proofs.repair_apart.Goals as goal

abbrev bytes_of : Bor (List ℕ) → List ℕ
bytes_of piece = piece.now

one_more : (pieces : List (Bor (List ℕ))) (i : ℕ) (d : Bor (List ℕ)) (repaired more : List RepairedPiece) (r : RepairedPiece) → i < length pieces
    → AllZip IsRepairOf (map bytes_of (take i pieces)) repaired → IsRepairOf (get_or pieces i d).now r → more ≡ repaired ++ r ∷ []
    → AllZip IsRepairOf (map bytes_of (take (i + 1) pieces)) more
one_more pieces i d repaired more r short each one e =
    let items = ap (map bytes_of) (take_more pieces i d short) ∙ map_push bytes_of (take i pieces) (get_or pieces i d) in
    rw e (subst (λ ps. AllZip IsRepairOf ps (repaired ++ r ∷ [])) (sym items) (all_zipped_more IsRepairOf _ repaired _ r each one))

pub loop-piece-preserved : goal.loop-piece-preserved
loop-piece-preserved c =
    one_more c.deref-piece-items.result.now c.loop-piece.piece-index _ c.loop-piece.repaired.items c.push.new.self.items c.in_ok-repair_piece.field-0
    (omega arith) c.loop-piece.invariant c.in_ok-repair_piece.ensures c.in_ok-push.ensures.items

-- after the loop each piece is repaired
all_repaired : (items pieces : List (Bor (List ℕ))) (i : ℕ) (repaired joined : List RepairedPiece) → AllZip IsRepairOf (map bytes_of (take i items)) repaired
    → length items ≤ i → items ≡ pieces → joined ≡ repaired → AllZip IsRepairOf (map bytes_of pieces) joined
all_repaired items pieces i repaired joined each end e f =
    let all : take i items ≡ pieces = grind (arith, common_steps) in
    rw f (subst (λ ps. AllZip IsRepairOf (map bytes_of ps) repaired) all each)

pub join-requires : goal.join-requires
join-requires c =
    let each = all_repaired c.deref-piece-items.result.now c.in_ok-pieces.pieces.items c.loop-piece.piece-index c.loop-piece.repaired.items c.deref.result.now
    c.loop-piece.invariant c.loop-piece-test.false c.deref-piece-items.ensures.value c.deref.ensures.value in
    record {
      counted =
          omega (
            arith,
            replaced_within _ _ each,
            ap length (flat_map-map (λ (bs : List ℕ). bs) bytes_of c.in_ok-pieces.pieces.items
                ∙ c.in_ok-pieces.ensures.whole),
          );
    }

whole_is : (bytes : List ℕ) (pieces : List (Bor (List ℕ))) (r : Result RepairedPiece AllocError) → flat_map bytes_of pieces ≡ bytes
    → IfOk r (λ whole. IsRepairOf (flat_map (λ piece. piece) (map bytes_of pieces)) whole) → IfOk r (λ whole. IsRepairOf bytes whole)
whole_is bytes pieces (Ok whole) e h = subst (λ bs. IsRepairOf bs whole) (flat_map-map (λ (bs : List ℕ). bs) bytes_of pieces ∙ e) h
whole_is bytes pieces (Err refused) e h = h

pub returns : goal.returns
returns c =
    let each = all_repaired c.deref-piece-items.result.now c.in_ok-pieces.pieces.items c.loop-piece.piece-index c.loop-piece.repaired.items c.deref.result.now
    c.loop-piece.invariant c.loop-piece-test.false c.deref-piece-items.ensures.value c.deref.ensures.value in
    whole_is c.args.bytes.now c.in_ok-pieces.pieces.items c.join.result c.in_ok-pieces.ensures.whole
    (c.join.ensures (map bytes_of c.in_ok-pieces.pieces.items) c.in_ok-pieces.ensures.cut each)
