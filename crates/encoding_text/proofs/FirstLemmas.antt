-- What bytes begin with, by the bytes of a sequence one after another.
use Rattle.std.proofs.Common.{◌≡◌, ℕ, ◌+◌, ◌*◌, ◌/◌, ◌<◌, ◌≤◌, ◌↔◌, IsTrue, bit_and, true≢false, inl, inr, Bool, true, false, Option}
use Rattle.std.proofs.Common.{Some, None, List, [], ◌∷◌, ◌++◌, length, take, drop, slice_index, refl, sym, ap, ◌∙◌, arith, subst}
use Rattle.std.proofs.lemmas.Nat.Bits.{and_high_mask}
use Rattle.std.specs.Int.Bits.{and_zero_r}
use mir.Val.{bool_byte}
use Rattle.std.specs.Option.{is_some, IfSome}
use Rattle.std.proofs.lemmas.List.{take_more, take_all, drop_all, drop_more, length-take, get_or-take, take-append-drop}
use Rattle.encoding_definitions.specs.Sequence.{IsSequence, IsIncomplete, IsContinuation, IsPending}
use Rattle.encoding_definitions.specs.Parts.{BeginsWithNoCharacter}
use Rattle.encoding_text.specs.Decoding.{IsMalformed}
use Rattle.encoding_text.specs.Steps.{GoesOn}
use Rattle.encoding_definitions.proofs.PartsLemmas.{first_open}
use Rattle.encoding_definitions.proofs.SequenceLemmas.{decide_incomplete}
use Rattle.encoding_text.proofs.CallLemmas.{malformed_first, malformed_rejected, single_byte, take_one, unpaired_incomplete}
use Rattle.encoding_text.proofs.PendingLemmas.{SequenceLength, goes_on, longer_incomplete, pending_incomplete, whole_sequence}

-- a malformed sequence shows that no character is first
pub malformed_none : (bs : List ℕ) (n : ℕ) (last : Bool) → IsMalformed (take n bs) (drop n bs) last → BeginsWithNoCharacter bs
malformed_none bs n last malformed = subst BeginsWithNoCharacter (take-append-drop n bs) (malformed_first (take n bs) (drop n bs) last malformed).0

-- so does an incomplete one that is all of the bytes
pub incomplete_none : (bs : List ℕ) → IsIncomplete bs → BeginsWithNoCharacter bs
incomplete_none bs o = (first_open bs o).0

-- if a mask says whether something holds, one test also decides whether the byte continues a sequence
pub masked : (A : Type 0) (b : Bool) (second : ℕ) → second < 256 → (IsTrue b ↔ A)
    → (bit_and second (bool_byte b * 192) ≡ 128) ↔ A × IsContinuation second
masked A true second small same =
    let high : bit_and second 192 ≡ second / 64 * 64 = and_high_mask 8 6 (omega arith) second small in
    rw high (λ t. (same.0 refl, (omega (arith, t), omega (arith, t))), λ h. omega (arith, h.1.0, h.1.1))
masked A false second small same = rw (and_zero_r second) (λ t. absurd (omega (arith, t)), λ h. absurd (true≢false (sym (same.1 h.0))))

-- so does a sequence that the first two bytes show
pub shown_none : {X : Type 0} (first : Option X) (bs : List ℕ) → IfSome first (λ _. BeginsWithNoCharacter bs) → is_some first ≡ true → BeginsWithNoCharacter bs
shown_none (Some _) bs none e = none
shown_none None bs none e = absurd (cc)

-- what is promised of a malformed sequence
pub shows_malformed : (bs : List ℕ) (n : ℕ) → n ≤ 3 → n ≤ length bs → ((last : Bool) → IsMalformed (take n bs) (drop n bs) last)
    → (n ≤ 3) × (n ≤ length bs) × BeginsWithNoCharacter bs × ((last : Bool) → IsMalformed (take n bs) (drop n bs) last)
shows_malformed bs n short within malformed = (short, within, malformed_none bs n false (malformed false), malformed)

-- a first byte that begins no sequence, or that no continuation byte follows
module _ (bs : List ℕ) (other : 0x80 ≤ slice_index bs 0) where
  pub single : (last : Bool) → 0 < length bs → (IsIncomplete (slice_index bs 0 ∷ []) → ⊥) → IsMalformed (take 1 bs) (drop 1 bs) last
  single last some n = single_byte bs last some other n

  pub unpaired : (last : Bool) → 1 < length bs → (IsIncomplete (slice_index bs 0 ∷ []) × IsContinuation (slice_index bs 1) → ⊥)
      → IsMalformed (take 1 bs) (drop 1 bs) last
  unpaired last some several = elim (decide_incomplete (slice_index bs 0 ∷ []) (omega arith)) [
    | inl begins ↦ unpaired_incomplete bs last some begins (λ goes_on. several (begins, goes_on))
    | inr none ↦ single last (omega arith) none
  ]

-- one byte that begins a sequence of several
pub one_incomplete : (bs : List ℕ) → length bs ≡ 1 → IsIncomplete (slice_index bs 0 ∷ []) → IsIncomplete bs
one_incomplete bs one o = subst IsIncomplete (sym (take_one bs (omega (arith, one))) ∙ take_all 1 bs (omega (arith, one))) o

-- all of the bytes are an incomplete sequence
pub whole_incomplete : (bs : List ℕ) (known : ℕ) → known ≡ length bs → IsIncomplete (take known bs) → IsIncomplete bs
whole_incomplete bs known all o = subst IsIncomplete (take_all known bs (omega (arith, all))) o

-- the sequences that begin with the byte have at least two bytes
pub several_length : (a n : ℕ) → IsIncomplete (a ∷ []) → SequenceLength a n → 1 < n
several_length a n (some, rest, more, s) long = omega (arith, long rest s, more)

-- the first `known` bytes are an incomplete sequence, and sequences that begin with its first byte have n bytes
module _ (bs : List ℕ) (known n : ℕ) (some : 0 < known) (within : known < length bs) (begins : IsIncomplete (take known bs))
    (long : SequenceLength (slice_index bs 0) n) where
  size : length (take known bs) ≡ known
  size = omega (arith, length-take known bs)

  lead : slice_index (take known bs) 0 ≡ slice_index bs 0
  lead = get_or-take known bs 0 0 some

  next : take (known + 1) bs ≡ take known bs ++ slice_index bs known ∷ []
  next = take_more bs known 0 within

  same : GoesOn (slice_index bs 0) known (slice_index bs known) → GoesOn (slice_index (take known bs) 0) (length (take known bs)) (slice_index bs known)
  same g = subst (λ a. GoesOn a (length (take known bs)) (slice_index bs known)) (sym lead)
      (subst (λ k. GoesOn (slice_index bs 0) k (slice_index bs known)) (sym size) g)

  same_long : SequenceLength (slice_index (take known bs) 0) n
  same_long = subst (λ a. SequenceLength a n) (sym lead) long

  pub next_whole : GoesOn (slice_index bs 0) known (slice_index bs known) → known + 1 ≡ n → IsSequence (take (known + 1) bs)
  next_whole g e = subst IsSequence (sym next) (whole_sequence (take known bs) _ n begins (same g) same_long (omega (arith, size, e)))

  pub next_longer : GoesOn (slice_index bs 0) known (slice_index bs known) → known + 1 < n → IsIncomplete (take (known + 1) bs)
  next_longer g l = subst IsIncomplete (sym next) (longer_incomplete (take known bs) _ n begins (same g) same_long (λ e. omega (arith, size, e, l)))

  pub next_rejected : (last : Bool) → (GoesOn (slice_index bs 0) known (slice_index bs known) → ⊥) → IsMalformed (take known bs) (drop known bs) last
  next_rejected last none =
      malformed_rejected (take known bs) (drop known bs) last (slice_index bs known) (drop (known + 1) bs) (drop_more bs known 0 within) begins
      (λ s. none (subst (λ k. GoesOn (slice_index bs 0) k (slice_index bs known)) size
      (subst (λ a. GoesOn a (length (take known bs)) (slice_index bs known)) lead (goes_on (take known bs) (slice_index bs known) begins s))))

-- ---- at the end of a call
-- what begins with no character and is pending is an incomplete sequence
pub pending_rest : (bs : List ℕ) → 0 < length bs → IsPending bs → IsIncomplete bs
pending_rest bs some pending = pending_incomplete bs (λ e. omega (arith, ap length e, some)) pending

-- if nothing follows, it is a malformed sequence
pub all_malformed : (bs : List ℕ) → 0 < length bs → IsPending bs → IsMalformed (take (length bs) bs) (drop (length bs) bs) true
all_malformed bs some pending =
    rw (take_all (length bs) bs (omega arith), drop_all (length bs) bs (omega arith)) (inr (pending_rest bs some pending, refl))
