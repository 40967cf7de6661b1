-- A call has exactly one result.
use Rattle.std.specs.Prelude.{◌≡◌, ℕ, Bool, List}
use Rattle.encoding_text.specs.Decoding.{DecodeStep, BorrowedDecodeStep}
use Rattle.encoding_text.specs.declared.decoder.DecoderResult.{DecoderResult}
use Rattle.encoding_text.specs.declared.decoder.Piece.{Piece}
use Rattle.encoding_text.specs.declared.decoder.Piece.TheVariants.{Text, Char, Malformed, InputEmpty}

-- of a decode call: there is a result, and any result is that one
abbrev pub HasOneResult : {A : Type 0} → (ℕ → List A) → ℕ → List ℕ → List ℕ → ℕ → Bool → Type 0
HasOneResult {A} encode need p src room last = (result : DecoderResult) × (read : ℕ) × (out : List A) × (q : List ℕ) × DecodeStep encode need p src room last result read out q
    × ((result' : DecoderResult) (read' : ℕ) (out' : List A) (q' : List ℕ) → DecodeStep encode need p src room last result' read' out' q'
    → (result ≡ result') × (read ≡ read') × (out ≡ out') × (q ≡ q'))

-- the two pieces are equal: two texts if they have the same bytes, at any addresses
abbrev pub AreSamePiece : Piece → Piece → Type 0
AreSamePiece (Text t) (Text u) = t.now ≡ u.now
AreSamePiece (Char c) (Char d) = c ≡ d
AreSamePiece (Malformed j) (Malformed k) = j ≡ k
AreSamePiece InputEmpty InputEmpty = Unit {0}
AreSamePiece _ _ = ⊥

-- of a call without a destination
abbrev pub HasOnePiece : List ℕ → List ℕ → Bool → Type 0
HasOnePiece p src last = (returned : Piece) × (read : ℕ) × (q : List ℕ) × BorrowedDecodeStep p src last returned read q
    × ((returned' : Piece) (read' : ℕ) (q' : List ℕ) → BorrowedDecodeStep p src last returned' read' q'
    → AreSamePiece returned returned' × (read ≡ read') × (q ≡ q'))
