-- Pieces and their repairs: one more at the end, and all of them joined.
use Rattle.std.proofs.Common.{◌≡◌, ℕ, ◌+◌, ◌≤◌, List, [], ◌∷◌, ◌++◌, length, refl, sym, ap, subst, ◌∙◌, arith, encode_utf8, append-nil, append_assoc, length-append}
use Rattle.std.proofs.lemmas.List.{flat_map_more}
use Rattle.std.proofs.lemmas.List.Sums.{sum_by-cons}
use Rattle.std.specs.List.{flat_map, sum_by, AllByRecursion, AllZip}
use Rattle.encoding_runs.specs.Parts.{Part, Character, IllFormed, bytes_of, ArePartsOf}
use Rattle.encoding_runs.proofs.DecompositionLemmas.{malformed_count-bytes}
use Rattle.encoding_runs.specs.MalformedSequences.{malformed_indices}
use Rattle.encoding_runs.specs.Repairs.{IsLossyDecodeWith}
use Rattle.cuts_example.specs.declared.RepairedPiece.{RepairedPiece}
use Rattle.cuts_example.specs.Cuts.{MayBeCutAfter, AreCut, IsRepairOf, following}

pub AreCut-push : (pieces : List (List ℕ)) (piece : List ℕ) → AllByRecursion MayBeCutAfter pieces → AreCut (pieces ++ piece ∷ [])
AreCut-push [] piece h = tt
AreCut-push (p ∷ []) piece h = (h.0, tt)
AreCut-push (p ∷ q ∷ ps) piece h = (h.0, AreCut-push (q ∷ ps) piece h.1)

pub AllByRecursion-push : {X : Type 0} (P : X → Type 0) (xs : List X) (x : X) → AllByRecursion P xs → P x → AllByRecursion P (xs ++ x ∷ [])
AllByRecursion-push P [] x h p = (p, tt)
AllByRecursion-push P (y ∷ ys) x h p = (h.0, AllByRecursion-push P ys x h.1 p)

-- what is cut off is appended to the pieces before it
pub flat_map-push : {X : Type 0} (f : X → List ℕ) (xs : List X) (x : X) (rest others bytes : List ℕ) → flat_map f xs ++ rest ≡ bytes → f x ++ others ≡ rest
    → flat_map f (xs ++ x ∷ []) ++ others ≡ bytes
flat_map-push f xs x rest others bytes h e =
    ap (λ t. t ++ others) (sym (flat_map_more f [] xs x)) ∙ append_assoc (flat_map f xs) (f x) others ∙ ap (λ t. flat_map f xs ++ t) e ∙ h

-- there are no more malformed sequences than bytes
pub replaced_within : (pieces : List (List ℕ)) (repaired : List RepairedPiece) → AllZip IsRepairOf pieces repaired
    → sum_by (λ piece. piece.replaced) repaired ≤ length (flat_map (λ piece. piece) pieces)
replaced_within [] [] h = omega arith
replaced_within [] (r ∷ rs) h = absurd h
replaced_within (p ∷ ps) [] h = absurd h
replaced_within (p ∷ ps) (r ∷ rs) ((parts, are, text, count), h) =
    omega (
      arith,
      count,
      sum_by-cons
          (λ (piece : RepairedPiece). piece.replaced) r rs,
      malformed_count-bytes p parts [] are,
      replaced_within ps rs h,
      length-append p
          (flat_map (λ piece. piece) ps),
    )

-- what holds of two pieces holds of all
pub all_joined : ((piece more text others : List ℕ) (n m : ℕ) → MayBeCutAfter piece → IsLossyDecodeWith piece text n → IsLossyDecodeWith more others m
    → IsLossyDecodeWith (piece ++ more) (text ++ others) (n + m))
    → (pieces : List (List ℕ)) (repaired : List RepairedPiece) → AreCut pieces → AllZip IsRepairOf pieces repaired
    → IsLossyDecodeWith (flat_map (λ piece. piece) pieces) (flat_map (λ piece. piece.text.items) repaired) (sum_by (λ piece. piece.replaced) repaired)
all_joined law [] [] cut h = ([], refl, refl, refl)
all_joined law [] (r ∷ rs) cut h = absurd h
all_joined law (p ∷ ps) [] cut h = absurd h
all_joined law (p ∷ []) (r ∷ []) cut ((parts, are, text, count), h) =
    (parts, subst (λ bs. ArePartsOf bs parts) (sym (append-nil p)) are, append-nil r.text.items ∙ text, omega (arith, count))
all_joined law (p ∷ []) (r ∷ s ∷ rs) cut h = absurd h.1
all_joined law (p ∷ q ∷ ps) (r ∷ rs) cut h =
    subst (IsLossyDecodeWith _ _) (sym (sum_by-cons (λ (piece : RepairedPiece). piece.replaced) r rs))
    (law p _ r.text.items _ r.replaced _ cut.0 h.0 (all_joined law (q ∷ ps) rs cut.1 h.1))

-- ---- malformed sequences of bytes after others
after_more : (parts : List Part) (n at m : ℕ) → n + at ≡ m → malformed_indices m parts ≡ following n (malformed_indices at parts)
after_more [] n at m e = refl
after_more (Character c ∷ parts) n at m e = after_more parts n _ _ (omega arith)
after_more (IllFormed x ∷ parts) n at m e = let rest = after_more parts n (at + length x) (m + length x) (omega arith) in cc

pub malformed_after : (parts others : List Part) (at n : ℕ) → at + length (flat_map bytes_of parts) ≡ n
    → malformed_indices at (parts ++ others) ≡ malformed_indices at parts ++ following n (malformed_indices 0 others)
malformed_after [] others at n e = after_more others n 0 at (omega arith)
malformed_after (Character c ∷ parts) others at n e = malformed_after parts others _ n (omega (arith, length-append (encode_utf8 c) (flat_map bytes_of parts)))
malformed_after (IllFormed x ∷ parts) others at n e = ap (λ found. (at, length x) ∷ found)
    (malformed_after parts others _ n (omega (arith, length-append x (flat_map bytes_of parts))))
