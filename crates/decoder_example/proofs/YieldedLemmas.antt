-- What calls yield in sequence, of streams and of whole texts.
use Rattle.std.proofs.Common.{◌≡◌, ℕ, ◌≤◌, Bool, true, false, List, [], ◌++◌, drop, refl, sym, ap, subst, ◌∙◌, arith, append-nil, inl, length, encode_utf8_all, length-append}
use Rattle.std.proofs.lemmas.Bool.{both_ways}
use Rattle.std.specs.List.{flat_map}
use Rattle.std.proofs.lemmas.List.{drop_all, nil_from_length, length-take}
use Rattle.std.specs.Str.{all_scalars}
use Rattle.encoding_text.specs.Parts.{Part, StartsWith, AreFinal, bytes_of}
use Rattle.encoding_text.specs.Sequence.{IsPending}
use Rattle.encoding_text.specs.OneResult.{AreSamePiece, HasOnePiece, HasOneResult}
use Rattle.encoding_text.specs.Decoding.{BorrowedDecodeStep, DecodeStep}
use Rattle.encoding_text.specs.declared.decoder.DecoderResult.{DecoderResult}
use Rattle.encoding_text.specs.declared.decoder.DecoderResult.TheVariants.{InputEmpty}
use Rattle.encoding_text.specs.declared.decoder.Piece.{Piece}
use Rattle.encoding_text.specs.declared.decoder.Piece.TheVariants as piece
use Rattle.encoding_runs.specs.Calls.{Call, read_in_all, pending_after, some_last, YieldTheParts}
use Rattle.encoding_runs.specs.MixedCalls.{Form, CallResult, AreYielded, IsInputEmpty}
use Rattle.decoder_example.specs.Streams.{TakesWhole}

-- all that was read, if more may follow, is final
pub final_calls : ((bs rest : List ℕ) (parts : List Part) → StartsWith bs parts rest → IsPending rest
    → ((more : List ℕ) → StartsWith (bs ++ more) parts (rest ++ more)) → AreFinal bs parts rest)
    → (p stream : List ℕ) (calls : List (Call Form CallResult ℕ)) (yielded : YieldTheParts AreYielded IsInputEmpty p stream calls) → some_last calls ≡ false
    → length stream ≤ read_in_all calls
    → AreFinal (p ++ stream) yielded.parts (pending_after p calls)
final_calls final_are p stream calls yielded unmarked all =
    let q = pending_after p calls in
    let none : q ++ drop (read_in_all calls) stream ≡ q = ap (λ bs. q ++ bs) (drop_all (read_in_all calls) stream all) ∙ append-nil q in
    final_are (p ++ stream) q yielded.parts (subst (StartsWith (p ++ stream) yielded.parts) none yielded.prefix.first) yielded.prefix.pending
    (λ more. subst (λ bs. StartsWith (p ++ stream ++ more) yielded.parts (bs ++ more)) none (yielded.prefix.stable unmarked more))

-- nothing is pending if the bytes of the parts are the whole stream
pub none_left : (stream : List ℕ) (calls : List (Call Form CallResult ℕ)) (yielded : YieldTheParts AreYielded IsInputEmpty [] stream calls)
    → flat_map bytes_of yielded.parts ≡ stream → pending_after [] calls ≡ []
none_left stream calls yielded joined =
    let q = pending_after [] calls in
    nil_from_length q
    (omega (arith, ap length yielded.bytes, ap length joined, length-append (flat_map bytes_of yielded.parts) q, length-take (read_in_all calls) stream))

-- the one result of a call on a text that fits
pub takes_whole : {A : Type 0} (encode : ℕ → List A) (need : ℕ) (cs : List ℕ) (out : List A) (q : List ℕ) (room read : ℕ) (last : Bool) (result : DecoderResult)
    → all_scalars cs ≡ true
    → length (flat_map encode cs) ≤ room → HasOneResult encode need [] (encode_utf8_all cs) room last
    → DecodeStep encode need [] (encode_utf8_all cs) room last result read out q
    → TakesWhole encode cs result read out q
takes_whole encode need cs out q room read last result scalars fits (r, k, units, p, is, one) made =
    let whole : DecodeStep encode need [] (encode_utf8_all cs) room last InputEmpty (length (encode_utf8_all cs)) (flat_map encode cs) [] = record {
      scalars = cs;
      are_scalars = scalars;
      out_is = refl;
      fits = fits;
      pending_before = inl refl;
      pending = inl refl;
      answer = (refl, sym (append-nil (encode_utf8_all cs)), (λ _. refl), λ some. absurd (some refl));
      pending_needs_room = λ some. absurd (some refl);
    } in
    let a = one InputEmpty _ _ _ whole in
    let b = one result read out q made in
    (sym b.0 ∙ a.0, sym b.1 ∙ a.1, sym b.2 ∙ a.2, sym b.3 ∙ a.3)

-- ---- the start of a character
none_returned : (one returned : Piece) → AreSamePiece one piece.InputEmpty → AreSamePiece one returned → returned ≡ piece.InputEmpty
none_returned piece.InputEmpty piece.InputEmpty none same = refl
none_returned piece.InputEmpty (piece.Text t) none same = absurd same
none_returned piece.InputEmpty (piece.Char c) none same = absurd same
none_returned piece.InputEmpty (piece.Malformed k) none same = absurd same
none_returned (piece.Text t) returned none same = absurd none
none_returned (piece.Char c) returned none same = absurd none
none_returned (piece.Malformed k) returned none same = absurd none

pub start_stays : (start q : List ℕ) (returned : Piece) (read : ℕ) → IsPending start → HasOnePiece [] start false
    → BorrowedDecodeStep [] start false returned read q → (returned ≡ piece.InputEmpty) × (read ≡ length start) × (q ≡ start)
start_stays start q returned read incomplete (one, count, pending, call, same) made =
    let kept : BorrowedDecodeStep [] start false piece.InputEmpty (length start) start = record {
      pending_before = inl refl;
      pending = incomplete;
      answer = (refl, refl, λ marked. absurd (both_ways _ refl marked));
    } in
    let here = same piece.InputEmpty _ _ kept in
    let there = same returned read q made in
    (none_returned one returned here.0 there.0, sym there.1 ∙ here.1, sym there.2 ∙ here.2)
