-- The text of a stream, piece after piece.
use Rattle.std.proofs.Common.{◌≡◌, ◌≢◌, ℕ, ◌+◌, ◌-◌, ◌≤◌, Bool, true, List, [], ◌++◌, length, take, drop, encode_utf8, refl, sym, ap, subst, ◌∙◌, arith, length-append, take-add, take-append-drop}
use Rattle.std.proofs.lemmas.List.{drop_all, drop_at, length-drop, length-take, nil_from_length, take-append-le, take_all, take_at, take_rest}
use borrow.Rule.Slice.PartMut.{put_mid}
use Rattle.encoding_text.proofs.PrefixesLemmas.{written_is}
use Rattle.encoding_streams.specs.declared.encoding.Encoding.{Encoding}
use Rattle.encoding_streams.specs.declared.encoding.BomHandling.TheVariants.{Off, Sniff}
use Rattle.encoding_streams.specs.declared.encoding.CoderResult.{CoderResult}
use Rattle.encoding_streams.specs.declared.encoding.CoderResult.TheVariants.{InputEmpty, OutputFull}
use Rattle.encoding_streams.specs.Marks.{after_mark, found_mark, without_mark}
use Rattle.encoding_streams.specs.Decoders.{DecoderState, EndsReplacing, IsAllRead, IsReplacingCall, SufficesReplacing, YieldText, left, max_utf8_length_with_replacement_in, queried}
use Rattle.encoding_streams.proofs.DecoderYieldLemmas.{YieldText-append, YieldText-nil, count_in}
use Rattle.encoding_streams.proofs.SniffLemmas.{left_within}
use Rattle.decoder_example.specs.Streams.{AppendsText}

-- ---- one call, into a destination of the queried length
module _ (old : DecoderState) (piece : List ℕ) (dst dst' : List ℕ) (last : Bool) (result : CoderResult) (read written replaced : ℕ) (new : DecoderState)
    (call : IsReplacingCall encode_utf8 4 old piece dst dst' last result read written replaced new)
    (suffices : SufficesReplacing max_utf8_length_with_replacement_in old piece (length dst) last result read written new)
    (room : length dst ≡ queried max_utf8_length_with_replacement_in old (length piece)) where
  never_full : (r : CoderResult) → r ≢ OutputFull → EndsReplacing encode_utf8 4 piece (length dst) last r read written new → IsAllRead piece last read new
  never_full InputEmpty not ends = ends
  never_full OutputFull not ends = absurd (not refl)

  all_read : IsAllRead piece last read new
  all_read = never_full result (suffices (length piece) (omega arith) (λ _. refl) (omega (arith, room))).0 call.ends

  pub appends_text : (text text' : List ℕ) → text' ≡ text ++ take written dst' → AppendsText old piece last text text' replaced new
  appends_text text text' is = record {
    out = call.replaces.out;
    appended = is ∙ ap (λ xs. text ++ xs) (sym (written_is dst dst' written call.replaces.out call.replaces.writes));
    yields = λ more none. subst (λ bs. YieldText encode_utf8 (left old (piece ++ more)) (left new (bs ++ more)) call.replaces.out replaced)
        (drop_all read piece (omega (arith, all_read.0))) (call.replaces.yields more none);
    ended = all_read.1;
  }

-- the text after the call: the destination follows the text before it
pub text_after : (text resized slice filler dst' kept : List ℕ) (at end written len : ℕ) → at ≡ length text → at ≤ end → resized ≡ take end text ++ filler
    → slice ≡ resized → written ≤ length (take (length slice - at) (drop at slice)) → written ≤ length dst' → length slice ≡ len
    → kept ≡ take (at + written) (take len (put_mid at (length slice - at) slice dst' ++ drop (length (put_mid at (length slice - at) slice dst')) resized))
    → kept ≡ text ++ take written dst'
text_after text resized slice filler dst' kept at end written len here longer fills same holds fits all is =
    let post = drop (length slice - at) (drop at slice) in
    let size : length text ≡ at = sym here in
    let prefix : take at slice ≡ text =
    ap (take at) (same ∙ fills ∙ ap (λ xs. xs ++ filler) (take_all end text (omega (arith, here, longer)))) ∙ take_at text filler at size in
    let new = take at slice ++ (dst' ++ post) in
    let more = drop (length new) resized in
    let within : at + written ≤ length new =
    omega (arith, length-append (take at slice) (dst' ++ post), length-append dst' post, ap length prefix, here, fits) in
    let room : at + written ≤ len =
    omega (arith, holds, ap length (take_rest slice at), length-drop at slice, ap length prefix, length-take at slice, here, all) in
    let short : at + written ≤ length (take len (new ++ more)) = omega (arith, length-take len (new ++ more), length-append new more, within, room) in
    let whole : take (at + written) (take len (new ++ more)) ≡ take (at + written) new =
    sym (take-append-le (at + written) (take len (new ++ more)) (drop len (new ++ more)) short) ∙ ap (take (at + written)) (take-append-drop len (new ++ more))
    ∙ take-append-le (at + written) new more within in
    is ∙ whole ∙ ap (λ xs. take (at + written) (xs ++ (dst' ++ post))) prefix ∙ take-add at written (text ++ (dst' ++ post))
    ∙ (λ i. (take_at text (dst' ++ post) at size i) ++ (take written (drop_at text (dst' ++ post) at size i)))
    ∙ ap (λ xs. text ++ xs) (take-append-le written dst' post fits)

-- ---- calls in sequence
-- the text of the first parts of the stream, and what is left of it
abbrev pub IsTextSoFar : Encoding → List ℕ → DecoderState → List ℕ → List ℕ → ℕ → Type 0
IsTextSoFar e bytes decoder rest text replaced = YieldText encode_utf8 (without_mark Sniff e bytes) (left decoder rest) text replaced

abbrev new_stream : Encoding → DecoderState
new_stream e = record { encoding = e; bom = Sniff; pending = [] }

pub no_text : (e : Encoding) (bytes : List ℕ) → IsTextSoFar e bytes (new_stream e) bytes [] 0
no_text e bytes = YieldText-nil encode_utf8 (left (new_stream e) bytes)

module _ (e : Encoding) (bytes : List ℕ) where
  pub more_text : (old new : DecoderState) (rest piece following : List ℕ) (last : Bool) (text text' : List ℕ) (replaced count : ℕ)
      → piece ++ following ≡ rest → (last ≡ true → following ≡ []) → IsTextSoFar e bytes old rest text replaced
      → AppendsText old piece last text text' count new → IsTextSoFar e bytes new following text' (replaced + count)
  more_text old new rest piece following last text text' replaced count whole none so_far appends =
      subst (λ xs. IsTextSoFar e bytes new following xs (replaced + count)) (sym appends.appended)
      (YieldText-append encode_utf8 _ _ _ _ _ _ _ so_far
      (subst (λ bs. YieldText encode_utf8 (left old bs) (left new following) appends.out count) whole (appends.yields following none)))

  -- after the last piece
  pub end_text : (old new : DecoderState) (rest text text' : List ℕ) (replaced count : ℕ) → length rest ≡ 0 → IsTextSoFar e bytes old rest text replaced
      → AppendsText old [] true text text' count new → IsTextSoFar e bytes new [] text' (replaced + count)
  end_text old new rest text text' replaced count none so_far appends =
      more_text old new rest [] [] true text text' replaced count (sym (nil_from_length rest none)) (λ _. refl) so_far appends

  -- a malformed sequence has at least one byte
  pub count_within : (decoder : DecoderState) (rest text : List ℕ) (replaced : ℕ) → IsTextSoFar e bytes decoder rest text replaced
      → replaced ≤ length bytes
  count_within decoder rest text replaced so_far =
      let within : length (without_mark Sniff e bytes).1 ≤ length bytes = omega (arith, left_within (new_stream e) bytes) in
      omega (arith, so_far.malformed, count_in (without_mark Sniff e bytes).0 (without_mark Sniff e bytes).1 so_far.parts _ so_far.yields.first, within)

  pub whole_text : (decoder : DecoderState) (text : List ℕ) (replaced : ℕ) → decoder.bom ≡ Off → decoder.pending ≡ []
      → IsTextSoFar e bytes decoder [] text replaced
      → YieldText encode_utf8 (without_mark Sniff e bytes) (decoder.encoding, []) text replaced
  whole_text decoder text replaced off none so_far =
      subst (λ rest. YieldText encode_utf8 (without_mark Sniff e bytes) rest text replaced)
      (λ i. after_mark decoder.encoding (none i ++ []) (found_mark (off i) decoder.encoding (none i ++ []))) so_far
