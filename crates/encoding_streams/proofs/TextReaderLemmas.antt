-- The text of a stream that is read block after block.
use Rattle.std.proofs.Common.{◌≡◌, ◌≢◌, ℕ, ◌+◌, ◌≤◌, Bool, true, List, [], ◌++◌, length, take, encode_utf8, refl, sym, subst, arith}
use Rattle.std.specs.Prelude.{Option, None, Some, IfSome, option_map, ⊤}
use Rattle.std.specs.Io.KnownBytes.{Consumes, IsAtEnd}
use Rattle.std.proofs.lemmas.List.{drop_all}
use Rattle.encoding_definitions.proofs.PrefixesLemmas.{written_is}
use Rattle.encoding_streams.specs.declared.encoding.Encoding.{Encoding}
use Rattle.encoding_streams.specs.declared.encoding.Encoding.TheVariants.{Utf8, Utf16Le, Utf16Be}
use Rattle.encoding_streams.specs.declared.encoding.BomHandling.{BomHandling}
use Rattle.encoding_streams.specs.declared.encoding.BomHandling.TheVariants.{Off, Remove, Sniff}
use Rattle.encoding_streams.specs.declared.encoding.CoderResult.{CoderResult}
use Rattle.encoding_streams.specs.declared.encoding.CoderResult.TheVariants.{InputEmpty, OutputFull}
use Rattle.encoding_streams.specs.Marks.{after_mark, found_mark}
use Rattle.encoding_streams.specs.Decoders.{DecoderState, EndsReplacing, IsAllRead, IsReplacingCall, SufficesReplacing, YieldText, left}
use Rattle.encoding_streams.specs.Decoders.{max_utf8_length_with_replacement_in, queried, queried_in}
use Rattle.encoding_streams.specs.TextReading.{IsTextOf}
use Rattle.encoding_streams.proofs.DecoderYieldLemmas.{YieldText-append}

-- the text of the first parts of what was left, and what is left now
abbrev pub IsReadSoFar : Option (Encoding × List ℕ) → Option (Encoding × List ℕ) → List ℕ → Type 0
IsReadSoFar None after text = ⊤
IsReadSoFar (Some before) None text = ⊥
IsReadSoFar (Some before) (Some after) text = (replaced : ℕ) × YieldText encode_utf8 before after text replaced

-- the destination is never full
pub block_fits : (old : DecoderState) (n : ℕ) → length old.pending ≤ 3 → n ≤ 1024 → queried max_utf8_length_with_replacement_in old n ≤ 3084
block_fits old n few short = of old.bom
  where
    one : (e : Encoding) → max_utf8_length_with_replacement_in e n (length old.pending) ≤ 3084
    one Utf8 = omega (arith, few, short)
    one Utf16Le = omega (arith, few, short)
    one Utf16Be = omega (arith, few, short)

    of : (b : BomHandling) → queried_in max_utf8_length_with_replacement_in b old.encoding n (length old.pending) ≤ 3084
    of Off = one old.encoding
    of Remove = one old.encoding
    of Sniff = omega (arith, one Utf8, one Utf16Le, one Utf16Be)

module _ (old : DecoderState) (block dst dst' : List ℕ) (last : Bool) (result : CoderResult) (read written replaced : ℕ) (new : DecoderState)
    (call : IsReplacingCall encode_utf8 4 old block dst dst' last result read written replaced new)
    (suffices : SufficesReplacing max_utf8_length_with_replacement_in old block (length dst) last result read written new)
    (room : queried max_utf8_length_with_replacement_in old (length block) ≤ length dst) where
  never_full : (r : CoderResult) → r ≢ OutputFull → EndsReplacing encode_utf8 4 block (length dst) last r read written new → IsAllRead block last read new
  never_full InputEmpty not ends = ends
  never_full OutputFull not ends = absurd (not refl)

  pub all_read : IsAllRead block last read new
  all_read = never_full result (suffices (length block) (omega arith) (λ _. refl) room).0 call.ends

  pub read_more : (start : Option (Encoding × List ℕ)) (known known' : Option (List ℕ)) (text : List ℕ)
      → IsReadSoFar start (option_map (left old) known) text → Consumes known known' block → (last ≡ true → IsAtEnd known')
      → IsReadSoFar start (option_map (left new) known') (text ++ take written dst')
  read_more None known known' text so_far consumed end = tt
  read_more (Some before) None known' text so_far consumed end = absurd so_far
  read_more (Some before) (Some xs) None text so_far consumed end = absurd consumed
  read_more (Some before) (Some xs) (Some ys) text (count, so_far) consumed end = (
    count + replaced,
    subst (λ o. YieldText encode_utf8 before (left new ys) (text ++ o) (count + replaced)) (written_is dst dst' written call.replaces.out call.replaces.writes)
        (YieldText-append encode_utf8 before (left old xs) (left new ys) text call.replaces.out count replaced so_far
        (subst (λ bs. YieldText encode_utf8 (left old bs) (left new ys) call.replaces.out replaced) (sym consumed)
        (subst (λ bs. YieldText encode_utf8 (left old (block ++ ys)) (left new (bs ++ ys)) call.replaces.out replaced)
        (drop_all read block (omega (arith, all_read.0))) (call.replaces.yields ys end)))),
  )

-- at the end
pub all_text : (start : Option (Encoding × List ℕ)) (new : DecoderState) (known : Option (List ℕ)) (text : List ℕ) → new.bom ≡ Off → new.pending ≡ []
    → IsAtEnd known → IsReadSoFar start (option_map (left new) known) text
    → IfSome start (λ before. IsTextOf before text) × IfSome start (λ before. new.encoding ≡ before.0)
all_text None new known text off none end so_far = (tt, tt)
all_text (Some before) new None text off none end so_far = absurd so_far
all_text (Some before) new (Some ys) text off none end (count, so_far) =
    let whole : YieldText encode_utf8 before (new.encoding, []) text count =
    subst (λ x. YieldText encode_utf8 before x text count)
    (λ i. after_mark new.encoding (none i ++ end i) (found_mark (off i) new.encoding (none i ++ end i))) so_far in
    ((count, subst (λ e. YieldText encode_utf8 before (e, []) text count) whole.yields.same whole), whole.yields.same)
