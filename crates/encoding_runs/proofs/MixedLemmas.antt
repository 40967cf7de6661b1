-- Successive calls of any form yield first parts, and calls with the same arguments return the same.
use Rattle.std.proofs.Common.{◌≡◌, ℕ, Bool, true, List, [], ◌∷◌, ◌++◌, length, take, drop, encode_utf8, sym, ap, ◌∙◌, subst, arith}
use Rattle.std.specs.Char.Escape.{encode_utf16}
use Rattle.std.specs.List.{AllZip}
use Rattle.std.proofs.lemmas.List.{drop_all}
use Rattle.encoding_definitions.specs.Sequence.{IsPending}
use Rattle.encoding_definitions.specs.Parts.{Part, StartsWith, Yields}
use Rattle.encoding_text.specs.Decoding.{BorrowedDecodeStep}
use Rattle.encoding_text.proofs.CallLemmas.{decoded_yields}
use Rattle.encoding_text.proofs.BorrowedLemmas.{borrowed_yields, same_piece}
use Rattle.encoding_text.proofs.OneResultLemmas.{one_result}
use Rattle.encoding_runs.specs.Calls.{Call, IsChain, YieldsFirstParts, YieldTheParts}
use Rattle.encoding_runs.specs.MixedCalls.{Form, ToUtf16, ToUtf8, Borrowed, CallResult, Decoded, Handed, MixedDecodeStep}
use Rattle.encoding_runs.specs.MixedCalls.{AreYielded, IsInputEmpty, ResultsAgree, AreAskedTheSame, ReturnTheSame}
use Rattle.encoding_runs.proofs.ChainLemmas.{decoded_empty, yielded_bytes, chain_yields}

-- ---- what calls yield
mixed_yields : (p src : List ℕ) (form : Form) (last : Bool) (answer : CallResult) (read : ℕ) (out q : List ℕ)
    → MixedDecodeStep p src form last answer read out q
    → (parts : List Part) × AreYielded form answer out parts × Yields p src last parts read q
mixed_yields p src (ToUtf16 room) last (Decoded r) read out q call = decoded_yields encode_utf16 2 p src room last r read out q call
mixed_yields p src (ToUtf8 room) last (Decoded r) read out q call = decoded_yields encode_utf8 4 p src room last r read out q call
mixed_yields p src Borrowed last (Handed returned) read out q call = borrowed_yields p src last returned read q call.0
mixed_yields p src (ToUtf16 room) last (Handed returned) read out q call = absurd call
mixed_yields p src (ToUtf8 room) last (Handed returned) read out q call = absurd call
mixed_yields p src Borrowed last (Decoded r) read out q call = absurd call

-- a call marked last that returns `InputEmpty` reads all and leaves nothing pending
mixed_empty : (p src : List ℕ) (form : Form) (last : Bool) (answer : CallResult) (read : ℕ) (out q : List ℕ) → MixedDecodeStep p src form last answer read out q
    → last ≡ true → IsInputEmpty answer → (read ≡ length src) × (q ≡ [])
mixed_empty p src (ToUtf16 room) last (Decoded r) read out q call marked e = decoded_empty encode_utf16 2 p src room last r read out q call marked e
mixed_empty p src (ToUtf8 room) last (Decoded r) read out q call marked e = decoded_empty encode_utf8 4 p src room last r read out q call marked e
mixed_empty p src Borrowed last (Handed returned) read out q call marked e =
    let empty = subst (λ x. BorrowedDecodeStep p src last x read q) e call.0 in
    (empty.answer.0, empty.answer.2 marked)
mixed_empty p src (ToUtf16 room) last (Handed returned) read out q call marked e = absurd call
mixed_empty p src (ToUtf8 room) last (Handed returned) read out q call marked e = absurd call
mixed_empty p src Borrowed last (Decoded r) read out q call marked e = absurd call

pub one_call_yields : (p src : List ℕ) (form : Form) (last : Bool) (answer : CallResult) (read : ℕ) (out q : List ℕ)
    → MixedDecodeStep p src form last answer read out q
    → YieldsFirstParts AreYielded IsInputEmpty p src form last answer read out q
one_call_yields p src form last answer read out q call =
    let (parts, yielded, prefix) = mixed_yields p src form last answer read out q call in
    record {
      parts = parts;
      yielded = yielded;
      prefix = prefix;
      bytes = yielded_bytes p src parts read q prefix.first;
      all = λ marked e.
          let (whole, none) = mixed_empty p src form last answer read out q call marked e in
          let rest : q ++ drop read src ≡ [] = ap (λ xs. xs ++ drop read src) none ∙ drop_all read src (omega (arith, whole)) in
          subst (StartsWith (p ++ src) parts) rest prefix.first;
    }

-- what successive calls yield follows from what each yields
pub mixed_parts : (p b : List ℕ) (calls : List (Call Form CallResult ℕ)) → IsPending p → IsChain MixedDecodeStep p b calls
    → YieldTheParts AreYielded IsInputEmpty p b calls
mixed_parts = chain_yields MixedDecodeStep AreYielded mixed_yields IsInputEmpty mixed_empty

-- ---- the same results
abbrev Agree : CallResult → ℕ → List ℕ → List ℕ → CallResult → ℕ → List ℕ → List ℕ → Type 0
Agree answer read out q answer' read' out' q' = ResultsAgree answer answer' × (read ≡ read') × (out ≡ out') × (q ≡ q')

mixed_agree : (p src : List ℕ) (form : Form) (last : Bool) (answer answer' : CallResult) (read read' : ℕ) (out out' q q' : List ℕ)
    → MixedDecodeStep p src form last answer read out q → MixedDecodeStep p src form last answer' read' out' q' → Agree answer read out q answer' read' out' q'
mixed_agree p src (ToUtf16 room) last (Decoded r) (Decoded r') read read' out out' q q' call call' =
    one_result encode_utf16 2 p src room last r r' read read' out out' q q' call.pending_before call call'
mixed_agree p src (ToUtf16 room) last (Decoded r) (Handed returned) read read' out out' q q' call call' = absurd call'
mixed_agree p src (ToUtf16 room) last (Handed returned) answer' read read' out out' q q' call call' = absurd call
mixed_agree p src (ToUtf8 room) last (Decoded r) (Decoded r') read read' out out' q q' call call' =
    one_result encode_utf8 4 p src room last r r' read read' out out' q q' call.pending_before call call'
mixed_agree p src (ToUtf8 room) last (Decoded r) (Handed returned) read read' out out' q q' call call' = absurd call'
mixed_agree p src (ToUtf8 room) last (Handed returned) answer' read read' out out' q q' call call' = absurd call
mixed_agree p src Borrowed last (Handed returned) (Handed returned') read read' out out' q q' call call' =
    let same = same_piece p src last returned returned' read read' q q' call.0 call'.0 in
    (same.0, same.1, call.1 ∙ sym call'.1, same.2)
mixed_agree p src Borrowed last (Handed returned) (Decoded r) read read' out out' q q' call call' = absurd call'
mixed_agree p src Borrowed last (Decoded r) answer' read read' out out' q q' call call' = absurd call

pub same_results : (p b : List ℕ) (calls others : List (Call Form CallResult ℕ)) → IsChain MixedDecodeStep p b calls → IsChain MixedDecodeStep p b others
    → AllZip AreAskedTheSame calls others → AllZip ReturnTheSame calls others
same_results p b [] [] c d e = tt
same_results p b [] (other ∷ others) c d e = absurd e
same_results p b (call ∷ calls) [] c d e = absurd e
same_results p b (call ∷ calls) (other ∷ others) (does, whole, c) (does', whole', d) ((form, piece, last), e) =
    let asked = rw (sym form, sym piece, sym last) at does' in
    let same =
    mixed_agree p
    (take call.piece b) call.form call.last call.result other.result call.read other.read call.out other.out call.pending other.pending does asked in
    let rest = rw (sym same.3, sym same.1) at d in
    (same, same_results call.pending (drop call.read b) calls others c rest e)
