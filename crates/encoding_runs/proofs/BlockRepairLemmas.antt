-- The repair of a block: what is written after each call of the decoder, and what successive calls on blocks yield.
use Rattle.std.proofs.Common.{◌≡◌, ℕ, ◌+◌, ◌-◌, ◌<◌, ◌≤◌, ◌↔◌, inl, inr, Bool, true, false, List, [], ◌∷◌, ◌++◌}
use Rattle.std.proofs.Common.{length, take, drop, encode_utf8, refl, sym, ap, ◌∙◌, arith, subst, true≢false}
use Rattle.std.specs.Prelude.{Any}
use Rattle.std.specs.Char.{IsScalar}
use Rattle.std.specs.List.{flat_map}
use Rattle.std.proofs.lemmas.Bool.{cases_lt}
use Rattle.std.proofs.lemmas.List.{append-nil, drop-drop, length-append, length-drop, take_rest}
use Rattle.std.proofs.lemmas.Str.{length-encode, len_utf8_bounds}
use borrow.Rule.Slice.PartMut.{put_mid}
use Rattle.encoding_definitions.specs.Parts.{Part, lossy_utf8, malformed_count, Yields}
use Rattle.encoding_definitions.specs.Sequence.{IsPending}
use Rattle.encoding_definitions.specs.Prefixes.{WritesPrefix}
use Rattle.encoding_definitions.proofs.PrefixesLemmas.{WritesPrefix-length, WritesPrefix_after}
use Rattle.encoding_definitions.proofs.DecompositionLemmas.{lossy_utf8-append, malformed_count-append}
use Rattle.encoding_text.specs.Decoding.{DecodeStepInto, IsReported}
use Rattle.encoding_text.specs.declared.decoder.DecoderResult.{DecoderResult}
use Rattle.encoding_text.specs.declared.decoder.DecoderResult.TheVariants.{InputEmpty, OutputFull, Malformed}
use Rattle.encoding_text.proofs.OneResultLemmas.{no_characters_pending}
use Rattle.encoding_runs.specs.declared.repair.blocks.RepairedBlock.{RepairedBlock}
use Rattle.encoding_runs.specs.Blocks.{IsBlockRepair, WantsSpace, RepairTheParts, replaced_in_all}
use Rattle.encoding_runs.specs.Calls.{Call, IsChain, output_of, AreYieldedInSequence, YieldTheParts}
use Rattle.encoding_runs.specs.Repairs.{IsLossyDecodeWith}
use Rattle.encoding_text.proofs.RepairingLemmas.{Repaired, repaired_more, repaired_report}
use Rattle.encoding_runs.proofs.ChainLemmas.{chain_yields}

-- the text of all parts so far is written
abbrev pub BlockDone : List ℕ → List ℕ → Bool → List ℕ → List ℕ → ℕ → ℕ → ℕ → List ℕ → Type 0
BlockDone p src last old new read written replaced q = Repaired encode_utf8 p src last old new read written replaced q []

-- a call of the decoder on the rest of the source, into the rest of the destination
abbrev pub DecodesRest : List ℕ → List ℕ → Bool → List ℕ → List ℕ → ℕ → ℕ → DecoderResult → ℕ → ℕ → List ℕ → Type 0
DecodesRest q src last new sub read written result bytes units t =
    DecodeStepInto encode_utf8 4 q (drop read src) (take (length new - written) (drop written new)) sub last result bytes units t

-- ---- what ends a call
-- what a call on a block did
abbrev pub Ended : List ℕ → List ℕ → Bool → List ℕ → List ℕ → ℕ → ℕ → ℕ → Bool → List ℕ → Type 0
Ended p src last old new read written replaced finished q = (out : List ℕ) × WritesPrefix old new written out
    × IsBlockRepair p src (length old) last (record { read = read; written = written; replaced = replaced; finished = finished }) read out q

ended : (p src : List ℕ) (last : Bool) (old new : List ℕ) (read written replaced : ℕ) (finished : Bool) (q : List ℕ) (reported : List Part) → IsPending p
    → Repaired encode_utf8 p src last old new read written replaced q reported → reported ≡ []
    → (finished ≡ true) ↔ ((read ≡ length src) × (last ≡ true → q ≡ []))
    → (finished ≡ false → WantsSpace src read (length old - written) q) → Ended p src last old new read written replaced finished q
ended p src last old new read written replaced finished q reported h b none is_end is_full = (
  lossy_utf8 b.parts,
  b.writes,
  record {
    parts = b.parts;
    was_pending = h;
    yielded = subst (λ ps. Yields p src last ps read q) (ap (λ ps. b.parts ++ ps) none ∙ append-nil b.parts) b.yielded;
    text = refl;
    fits = omega (arith, b.writes.count, b.writes.fits);
    replaced = b.malformed;
    finished = is_end;
    full = λ e. subst (λ n. WantsSpace src read (length old - n) q) b.writes.count (is_full e);
  },
)

-- all was read, and U+FFFD for what is pending doesn't fit
pub block_rejected : (p src : List ℕ) (last : Bool) (old new : List ℕ) (read written replaced : ℕ) (finished : Bool) (q : List ℕ) → IsPending p
    → BlockDone p src last old new read written replaced q → length src - read ≡ 0 → length new - written < 3 → (finished ≡ true) ↔ (last ≡ true → q ≡ [])
    → Ended p src last old new read written replaced finished q
block_rejected p src last old new read written replaced finished q h d all few is_end =
    let whole : read ≡ length src = omega (arith, all, d.yielded.within) in
    let left : length old - written < 3 = omega (arith, few, WritesPrefix-length _ _ _ _ d.writes) in
    ended p src last old new read written replaced finished q [] h d refl ((λ e. (whole, is_end.0 e)), λ e. is_end.1 e.1)
    (λ e. record { few = omega (arith, left); at_end = λ _. left; next = λ _ (c, rest, scalar, begins, l). no_fitting c rest scalar begins whole })
  where
    no_fitting : (c : ℕ) (rest : List ℕ) → IsScalar c → drop read src ≡ encode_utf8 c ++ rest → read ≡ length src → ⊥
    no_fitting c rest scalar begins whole =
        omega (arith, ap length begins, length-drop read src, whole, length-append (encode_utf8 c) rest, length-encode c, len_utf8_bounds c)

module _ (p src : List ℕ) (last : Bool) (old new sub : List ℕ) (read written replaced : ℕ) (q : List ℕ) (bytes units : ℕ) (t : List ℕ) (h : IsPending p)
    (d : BlockDone p src last old new read written replaced q) where
  abbrev dst : List ℕ
  dst = put_mid written (length new - written) new sub

  abbrev EndedBy : Bool → Type 0
  EndedBy finished = Ended p src last old dst (read + bytes) (written + units) replaced finished t

  size : length (take (length new - written) (drop written new)) ≡ length old - written
  size = ap length (take_rest new written) ∙ length-drop written new ∙ ap (λ n. n - written) (WritesPrefix-length _ _ _ _ d.writes)

  -- all was read
  pub block_finished : DecodesRest q src last new sub read written InputEmpty bytes units t → EndedBy true
  block_finished (out, w, call) =
      let (reported, is, b) = repaired_more encode_utf8 4 p src last old new sub read written replaced q bytes units t InputEmpty d (out, w, call) in
      let all : read + bytes ≡ length src = omega (arith, call.answer.0, length-drop read src, d.yielded.within) in
      ended p src last old _ _ _ replaced true t reported h b is ((λ _. (all, call.answer.2)), λ _. refl) (λ e. absurd (true≢false e))

  -- the space left isn't enough
  pub block_full : DecodesRest q src last new sub read written OutputFull bytes units t → EndedBy false
  block_full (out, w, call) =
      let (reported, is, b) = repaired_more encode_utf8 4 p src last old new sub read written replaced q bytes units t OutputFull d (out, w, call) in
      let (some, whole, few, none, kept) = call.answer in
      let unread : read + bytes ≡ length src → ⊥ = λ all. omega (arith, all, some, length-drop read src) in
      let left : length (take (length new - written) (drop written new)) - length out ≡ length old - (written + units) = omega (arith, size, w.count) in
      ended p src last old _ _ _ replaced false t reported h b is ((λ e. absurd (true≢false (sym e))), λ e. absurd (unread e.0)) (λ _. record {
        few = omega (arith, few, left);
        at_end = λ all. absurd (unread all);
        next = λ nothing f. none nothing (rw (left, drop-drop bytes read src) f);
      })

  -- a report leaves space for U+FFFD
  pub block_fits : (k second : ℕ) → DecodesRest q src last new sub read written (Malformed k second) bytes units t
      → (length src - read ≡ 0 → 3 ≤ length new - written)
      → 3 ≤ length (take (length dst - (written + units)) (drop (written + units) dst))
  block_fits k second (out, w, call) at_end =
      let (reported, is, b) = repaired_more encode_utf8 4 p src last old new sub read written replaced q bytes units t (Malformed k second) d (out, w, call) in
      let (x, zero, within, whole, count, none, malformed, enough) = call.answer in
      let space : length (take (length dst - (written + units)) (drop (written + units) dst)) ≡ length old - (written + units) =
      ap length (take_rest dst (written + units)) ∙ length-drop (written + units) dst
      ∙ ap (λ n. n - (written + units)) (WritesPrefix-length _ _ _ _ b.writes) in
      let same = WritesPrefix-length _ _ _ _ d.writes in
      elim (cases_lt 0 (length (drop read src))) [
        | inl some ↦ omega (arith, enough some, size, w.count, space)
        | inr nothing ↦
            let no_bytes : bytes ≡ 0 = omega (arith, within, nothing) in
            let no_characters = no_characters_pending call.scalars x q call.are_scalars call.pending_before
            (sym (append-nil q) ∙ ap (λ n. q ++ take n (drop read src)) (sym no_bytes) ∙ whole) in
            omega (
              arith,
              at_end (omega (arith, nothing, length-drop read src)),
              w.count,
              space,
              same,
              ap length (call.out_is
                  ∙ ap (flat_map encode_utf8) no_characters),
            )
      ]

-- U+FFFD for the reported part
pub block_replaced : (p src : List ℕ) (last : Bool) (old new sub : List ℕ) (read written replaced n k second : ℕ) (q : List ℕ) (reported : List Part)
    → Repaired encode_utf8 p src last old new read written replaced q reported → IsReported (Malformed k second) reported
    → WritesPrefix (take (length new - written) (drop written new)) sub n (encode_utf8 0xFFFD)
    → BlockDone p src last old (put_mid written (length new - written) new sub) read (written + n) (replaced + 1) q
block_replaced p src last old new sub read written replaced n k second q reported b is w =
    repaired_report encode_utf8 p src last old new _ read written (written + n) replaced k second q reported b is
    (WritesPrefix_after old new written (lossy_utf8 b.parts) sub n (encode_utf8 0xFFFD) b.writes w)

-- ---- successive calls
-- what a call on a block yields
abbrev AreRepairedParts : ℕ → RepairedBlock → List ℕ → List Part → Type 0
AreRepairedParts room block out parts = (out ≡ lossy_utf8 parts) × (block.replaced ≡ malformed_count parts)

sequence_text : (calls : List (Call ℕ RepairedBlock ℕ)) (parts : List Part) → AreYieldedInSequence AreRepairedParts calls parts
    → (output_of calls ≡ lossy_utf8 parts) × (replaced_in_all calls ≡ malformed_count parts)
sequence_text [] parts e = (ap lossy_utf8 (sym e), ap malformed_count (sym e))
sequence_text (call ∷ calls) parts (first, others, (text, count), more, whole) =
    let rest = sequence_text calls others more in (
      (λ i. text i ++ rest.0 i) ∙ sym (lossy_utf8-append first others) ∙ ap lossy_utf8 (sym whole),
      omega (arith, count, rest.1, malformed_count-append first others, ap malformed_count whole),
    )

blocks_give : (p b : List ℕ) (calls : List (Call ℕ RepairedBlock ℕ)) → IsPending p → IsChain IsBlockRepair p b calls
    → YieldTheParts AreRepairedParts (λ block. block.finished ≡ true) p b calls
blocks_give = chain_yields IsBlockRepair AreRepairedParts (λ p src room last block read out q call. (call.parts, (call.text, call.replaced), call.yielded))
    (λ block. block.finished ≡ true)
    (λ p src room last block read out q call marked e. ((call.finished.0 e).0, (call.finished.0 e).1 marked))

-- what was pending before the first call
pending_before : (p b : List ℕ) (calls : List (Call ℕ RepairedBlock ℕ)) → (calls ≡ [] → IsPending p) → IsChain IsBlockRepair p b calls → IsPending p
pending_before p b [] h c = h refl
pending_before p b (call ∷ calls) h c = c.0.was_pending

pub blocks_prefix : (p b : List ℕ) (calls : List (Call ℕ RepairedBlock ℕ)) → (calls ≡ [] → IsPending p) → IsChain IsBlockRepair p b calls
    → RepairTheParts p b calls
blocks_prefix p b calls h c =
    let yielded = blocks_give p b calls (pending_before p b calls h c) c in
    let text = sequence_text calls yielded.parts yielded.in_sequence in
    record { parts = yielded.parts; prefix = yielded.prefix; text = text.0; replaced = text.1 }

pub blocks_whole : (b : List ℕ) (calls : List (Call ℕ RepairedBlock ℕ)) → IsChain IsBlockRepair [] b calls
    → Any (λ call. (call.last ≡ true) × (call.result.finished ≡ true)) calls → IsLossyDecodeWith b (output_of calls) (replaced_in_all calls)
blocks_whole b calls c some =
    let yielded = blocks_give [] b calls (inl refl) c in
    let text = sequence_text calls yielded.parts yielded.in_sequence in
    (yielded.parts, yielded.all some, text.0, text.1)
