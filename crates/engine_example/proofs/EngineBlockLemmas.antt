-- Blocks of code units in sequence, and what is written for them.
use Rattle.std.proofs.Common.{◌≡◌, ℕ, Bool, true, false, List, [], ◌∷◌, ◌++◌, length, take, drop, refl, sym, ap, subst, ◌∙◌, arith, append-nil, append_assoc}
use Rattle.std.proofs.lemmas.Grind.{flat_map-append}
use Rattle.std.proofs.lemmas.List.{take_all, drop_all}
use Rattle.std.proofs.lemmas.List.Quantifiers.{Any-push}
use Rattle.encoding_text.specs.Utf16.{AreCodeUnits, Part16, utf8_of_part16, ArePartsOf16, StartsWith16}
use Rattle.encoding_text.specs.Encoding.{IsPendingSurrogate, EncodeStep}
use Rattle.encoding_text.specs.declared.utf_8.encoder.EncoderResult.{EncoderResult}
use Rattle.encoding_text.specs.declared.utf_8.encoder.EncoderResult.TheVariants.{InputEmpty}
use Rattle.encoding_text.proofs.EncoderCallLemmas.{AreCodeUnits-append}
use Rattle.encoding_runs.specs.Calls.{Call, IsChain, read_in_all, output_of, pending_after, EncodesFirstParts}
use Rattle.engine_example.specs.CutBlocks.{WritesBlock}

-- a call that reads all of a block, as a chain of its own
pub block_written : ((surrogate src : List ℕ) (calls : List (Call ℕ EncoderResult ℕ)) → IsPendingSurrogate surrogate → AreCodeUnits src
    → IsChain EncodeStep surrogate src calls
    → EncodesFirstParts surrogate src calls (read_in_all calls) (output_of calls) (pending_after surrogate calls))
    → (surrogate block : List ℕ) (room : ℕ) (last : Bool) (read : ℕ) (out after : List ℕ) → AreCodeUnits block
    → EncodeStep surrogate block room last InputEmpty read out after → WritesBlock surrogate block last out after
block_written law surrogate block room last read out after units call =
    let all : take (length block) block ≡ block = take_all (length block) block (omega arith) in
    let one : Call ℕ EncoderResult ℕ = record {
      form = room;
      piece = length block;
      last = last;
      result = InputEmpty;
      read = read;
      out = out;
      pending = after;
    } in
    let chain : IsChain EncodeStep surrogate block (one ∷ []) = (rw all call, (λ e. omega arith), tt) in
    let first = law surrogate block (one ∷ []) call.surrogate_before units chain in
    let none : after ++ drop (read_in_all (one ∷ [])) block ≡ after = ap (λ xs. after ++ xs) (drop_all _ block (omega (arith, call.answer.1)))
    ∙ append-nil after in
    record {
      parts = first.parts;
      written = sym (append-nil out) ∙ first.written;
      all = λ e. first.all (Any-push (λ (call : Call ℕ EncoderResult ℕ). (call.last ≡ true) × (call.result ≡ InputEmpty)) [] one (e, refl));
      stable = λ e more us. subst (λ xs. StartsWith16 (surrogate ++ block ++ more) first.parts (xs ++ more)) none (first.stable (rw e refl) more us);
    }

module _ (one : (us : List ℕ) (parts others : List Part16) → ArePartsOf16 us parts → ArePartsOf16 us others → parts ≡ others) where
  -- first parts, and then those of the rest
  parts_on : (us mid : List ℕ) (ps qs : List Part16) → StartsWith16 us ps mid → ArePartsOf16 mid qs → ArePartsOf16 us (ps ++ qs)
  parts_on us mid ps qs s are = subst (λ xs. ArePartsOf16 us (ps ++ xs)) (one mid s.others qs s.following are) s.whole

  starts_on : (us mid rest : List ℕ) (ps qs : List Part16) → StartsWith16 us ps mid → StartsWith16 mid qs rest → StartsWith16 us (ps ++ qs) rest
  starts_on us mid rest ps qs s t = record {
    others = t.others;
    whole = subst (ArePartsOf16 us) (sym (append_assoc ps qs t.others)) (parts_on us mid ps (qs ++ t.others) s t.whole);
    following = t.following;
  }

  -- what is written for the blocks before, and then for one more
  pub written_on : (units out surrogate block more_out after new : List ℕ) (last : Bool) → WritesBlock [] units false out surrogate
      → WritesBlock surrogate block last more_out after → AreCodeUnits block → new ≡ out ++ more_out
      → WritesBlock [] (units ++ block) last new after
  written_on units out surrogate block more_out after new last w b us e = record {
    parts = w.parts ++ b.parts;
    written = cc (flat_map-append utf8_of_part16 w.parts b.parts);
    all = λ f. parts_on _ _ w.parts b.parts (w.stable refl block us) (b.all f);
    stable = λ f more vs. subst (λ xs. StartsWith16 xs (w.parts ++ b.parts) (after ++ more)) (sym (append_assoc units block more))
        (starts_on _ _ _ w.parts b.parts (subst (λ xs. StartsWith16 (units ++ (block ++ more)) w.parts xs) (sym (append_assoc surrogate block more))
        (w.stable refl (block ++ more) (AreCodeUnits-append block more us vs))) (b.stable f more vs));
  }

-- nothing is written yet
pub none_written : ((us : List ℕ) → AreCodeUnits us → (parts : List Part16) × ArePartsOf16 us parts) → WritesBlock [] [] false [] []
none_written exist = record {
  parts = [];
  written = refl;
  all = λ e. (tt, refl);
  stable = λ e more us. let (parts, are) = exist more us in record { others = parts; whole = are; following = are };
}
