-- What is written after the text of first parts, if a write fails in the middle of one, and once the engine wrote all
-- of the text due.
use Rattle.std.proofs.Common.{◌≡◌, ℕ, List, [], length, refl, sym, ap, ◌∙◌, arith, subst, ◌+◌, ◌<◌}
use Rattle.std.proofs.Common.{◌≤◌, Bool, false, ◌∷◌, ◌++◌, take, drop, Option, inl, inr, encode_utf8}
use Rattle.std.proofs.lemmas.List.{append-nil, take_all, append_assoc, drop_all, length-drop, take-append-drop}
use Rattle.encoding_definitions.specs.Parts.{Part, StartsWith, ArePartsOf, lossy_utf8, malformed_count}
use Rattle.encoding_definitions.proofs.DecompositionLemmas.{has_final, parts_split, lossy_utf8-append, StartsWith-append, has_parts, lossy_utf8-characters}
use Rattle.encoding_definitions.proofs.DecompositionLemmas.{malformed_count-append, malformed_count-characters, malformed_count-bytes}
use Rattle.encoding_runs.specs.Repairs.{IsLossyDecodeOf, IsFinalText, IsPrefix, HoldsRounds, IsProperPrefix, WritesRepaired, Stops}
use Rattle.std.specs.Io.KnownBytes.{Appends}
use Rattle.std.proofs.KnownBytes.{Appends-trans}
use Rattle.std.specs.Str.{IsUtf8, chars}
use Rattle.std.proofs.lemmas.Str.{encodes-chars}
use lib.Utf8.{encode}
use Rattle.encoding_definitions.specs.Sequence.{IsPending}
use Rattle.encoding_definitions.proofs.SequenceLemmas.{length-IsIncomplete}
use Rattle.encoding_text.specs.Decoding.{BorrowedDecodeStep, AreBorrowed}
use Rattle.encoding_text.specs.declared.decoder.Piece.{Piece}
use Rattle.encoding_text.specs.declared.decoder.Piece.TheVariants.{Text, Char, Malformed, InputEmpty}
use Rattle.encoding_text.proofs.BorrowedLemmas.{borrowed_yields}
use Rattle.encoding_runs.specs.Steps.{text_of, malformed_in, AreFirst, WritesParts, StopsInParts}
use Rattle.encoding_runs.proofs.FinalLemmas.{AreFirst-trans, AreFirst-more}

-- the text of the final parts of all bytes
holds_all : (bs out text : List ℕ) → IsFinalText bs text → IsPrefix text out → (rounds : HoldsRounds bs out) × (rounds.before ≡ length bs)
holds_all bs out text s prefix = (
  record {
    before = length bs;
    within = omega arith;
    one_round = omega arith;
    final_text = text;
    was_final = subst (λ xs. IsFinalText xs text) (sym (take_all (length bs) bs (omega arith))) s;
    whole_rounds = prefix;
  },
  refl,
)

-- the text of the final parts is a prefix of the repaired text
begins_with_final : (bs : List ℕ) (ps : List Part) (rest : List ℕ) (all : List Part) → StartsWith bs ps rest → ArePartsOf bs all
    → IsPrefix (lossy_utf8 ps) (lossy_utf8 all)
begins_with_final bs ps rest all s are =
    let (others, same, more) = parts_split bs ps rest all s are in
    (lossy_utf8 others, ap lossy_utf8 same ∙ lossy_utf8-append ps others)

pub holds_repaired : (bs text : List ℕ) → IsLossyDecodeOf bs text → (rounds : HoldsRounds bs text) × (rounds.before ≡ length bs)
holds_repaired bs text (parts, are, is) =
    let (ps, rest, final_text) = has_final bs in
    holds_all bs text (lossy_utf8 ps) (ps, rest, final_text, refl)
    (subst (IsPrefix (lossy_utf8 ps)) (sym is) (begins_with_final bs ps rest parts final_text.starts are))

pub holds_final : (bs text : List ℕ) → IsFinalText bs text → (rounds : HoldsRounds bs text) × (rounds.before ≡ length bs)
holds_final bs text final_text = holds_all bs text text final_text ([], sym (append-nil text))

-- what a borrowed call yields
pub record YieldsPiece (p src : List ℕ) (last : Bool) (piece : Piece) (read : ℕ) (q : List ℕ) : Type 0 where
  pub parts : List Part
  pub first : AreFirst last (p ++ src) parts (q ++ drop read src)
  pub text : lossy_utf8 parts ≡ text_of piece
  pub malformed : malformed_count parts ≡ malformed_in piece

pub yielded_text : (p src : List ℕ) (last : Bool) (piece : Piece) (read : ℕ) (q : List ℕ) (parts : List Part) → BorrowedDecodeStep p src last piece read q
    → AreBorrowed piece parts
    → (lossy_utf8 parts ≡ text_of piece) × (malformed_count parts ≡ malformed_in piece)
unfolding encode
yielded_text p src last (Text t) read q parts call are =
    let spelled = encodes-chars t.now (subst IsUtf8 (sym call.answer.3) call.answer.4.kind) in
    (ap lossy_utf8 are ∙ lossy_utf8-characters (chars t.now) ∙ spelled, ap malformed_count are ∙ malformed_count-characters (chars t.now))
yielded_text p src last (Char c) read q parts call are = (ap lossy_utf8 are ∙ append-nil (encode_utf8 c), ap malformed_count are)
yielded_text p src last (Malformed k) read q parts call (x, are, size) = (ap lossy_utf8 are, ap malformed_count are)
yielded_text p src last InputEmpty read q parts call are = (ap lossy_utf8 are, ap malformed_count are)

pub piece_yields : (p src : List ℕ) (last : Bool) (piece : Piece) (read : ℕ) (q : List ℕ) → BorrowedDecodeStep p src last piece read q
    → YieldsPiece p src last piece read q
piece_yields p src last piece read q call =
    let (parts, are, g) = borrowed_yields p src last piece read q call in
    let t = yielded_text p src last piece read q parts call are in
    record { parts = parts; first = record { starts = g.first; stable = g.stable }; text = t.0; malformed = t.1 }

-- ---- what is written
-- more parts are written after them
pub wrote_then : (last : Bool) (bs mid rest : List ℕ) (old new now : Option (List ℕ)) (n m : ℕ) → WritesParts last bs mid old new n
    → WritesParts last mid rest new now m → WritesParts last bs rest old now (n + m)
wrote_then last bs mid rest old new now n m w v = record {
  parts = w.parts ++ v.parts;
  first = AreFirst-trans last bs w.parts mid v.parts rest w.first v.first;
  bytes = subst (Appends old now) (sym (lossy_utf8-append w.parts v.parts)) (Appends-trans _ _ _ _ _ w.bytes v.bytes);
  malformed = omega (arith, w.malformed, v.malformed, malformed_count-append w.parts v.parts);
}

-- a proper prefix of the text of more parts
pub prefix_after : (ps qs : List Part) (out : List ℕ) → IsProperPrefix out (lossy_utf8 qs) → IsProperPrefix (lossy_utf8 ps ++ out) (lossy_utf8 (ps ++ qs))
prefix_after ps qs out (left, some, whole) =
    (left, some, lossy_utf8-append ps qs ∙ ap (λ xs. lossy_utf8 ps ++ xs) whole ∙ sym (append_assoc (lossy_utf8 ps) out left))

-- a proper prefix of the text of first parts is written
pub stopped_in : (last : Bool) (bs : List ℕ) (parts : List Part) (rest text : List ℕ) (old new : Option (List ℕ)) (k : ℕ) → AreFirst last bs parts rest
    → text ≡ lossy_utf8 parts → k < length text → Appends old new (take k text)
    → StopsInParts last bs old new
stopped_in last bs parts rest text old new k f e short a = record {
  parts = parts;
  rest = rest;
  first = f;
  out = take k text;
  less = (drop k text, (λ none. omega (arith, ap length none, length-drop k text)), sym e ∙ sym (take-append-drop k text));
  bytes = a;
}

pub stopped_then : (last : Bool) (bs mid : List ℕ) (old new now : Option (List ℕ)) (n : ℕ) → WritesParts last bs mid old new n → StopsInParts last mid new now
    → StopsInParts last bs old now
stopped_then last bs mid old new now n w s = record {
  parts = w.parts ++ s.parts;
  rest = s.rest;
  first = AreFirst-trans last bs w.parts mid s.parts s.rest w.first s.first;
  out = lossy_utf8 w.parts ++ s.out;
  less = prefix_after w.parts s.parts s.out s.less;
  bytes = Appends-trans _ _ _ _ _ w.bytes s.bytes;
}

-- one more piece is written
pub wrote_piece : (last : Bool) (bs p src : List ℕ) (old new now : Option (List ℕ)) (n : ℕ) (piece : Piece) (read : ℕ) (q : List ℕ)
    → WritesParts last bs (p ++ src) old new n
    → BorrowedDecodeStep p src last piece read q → Appends new now (text_of piece) → WritesParts last bs (q ++ drop read src) old now (n + malformed_in piece)
wrote_piece last bs p src old new now n piece read q w call a =
    let g = piece_yields p src last piece read q call in
    wrote_then last bs (p ++ src) (q ++ drop read src) old new now n (malformed_in piece) w
    (record { parts = g.parts; first = g.first; bytes = subst (Appends new now) (sym g.text) a; malformed = sym g.malformed })

-- nothing is pending after a piece
pub nothing_pending : (p src : List ℕ) (last : Bool) (piece : Piece) (read : ℕ) (q : List ℕ) → BorrowedDecodeStep p src last piece read q
    → (piece ≡ InputEmpty → ⊥) → q ≡ []
nothing_pending p src last (Text t) read q call n = call.answer.1
nothing_pending p src last (Char c) read q call n = call.answer.1
nothing_pending p src last (Malformed k) read q call n = call.answer.2
nothing_pending p src last InputEmpty read q call n = absurd (n refl)

-- one more piece is written, and no byte follows it
pub wrote_last : (last : Bool) (bs p src : List ℕ) (old new now : Option (List ℕ)) (n : ℕ) (piece : Piece) (read : ℕ) (q : List ℕ)
    → WritesParts last bs (p ++ src) old new n
    → BorrowedDecodeStep p src last piece read q → (piece ≡ InputEmpty → ⊥) → Appends new now (text_of piece) → length src ≤ read
    → WritesParts last bs q old now (n + malformed_in piece) × (q ≡ [])
wrote_last last bs p src old new now n piece read q w call some a all =
    let rest : q ++ drop read src ≡ q = ap (λ xs. q ++ xs) (drop_all read src all) ∙ append-nil q in (
      subst (λ xs. WritesParts last bs xs old now (n + malformed_in piece)) rest (wrote_piece last bs p src old new now n piece read q w call a),
      nothing_pending p src last piece read q call some,
    )

-- a proper prefix of its text is written
pub stopped_piece : (last : Bool) (bs p src : List ℕ) (old new now : Option (List ℕ)) (n : ℕ) (piece : Piece) (read : ℕ) (q : List ℕ) (k : ℕ)
    → WritesParts last bs (p ++ src) old new n
    → BorrowedDecodeStep p src last piece read q → k < length (text_of piece) → Appends new now (take k (text_of piece)) → StopsInParts last bs old now
stopped_piece last bs p src old new now n piece read q k w call short a =
    let g = piece_yields p src last piece read q call in
    stopped_then last bs (p ++ src) old new now n w (stopped_in last (p ++ src) g.parts (q ++ drop read src) (text_of piece) new now k g.first
    (sym g.text) short a)

-- the count is at most the number of bytes
pub wrote_count : (last : Bool) (bs rest : List ℕ) (old new : Option (List ℕ)) (n : ℕ) → WritesParts last bs rest old new n → n + length rest ≤ length bs
wrote_count last bs rest old new n w = omega (arith, w.malformed, malformed_count-bytes bs w.parts rest w.first.starts)

-- ---- all of the bytes
pub wrote_all : (last : Bool) (bs : List ℕ) (old new : Option (List ℕ)) (n : ℕ) → WritesParts last bs [] old new n → WritesRepaired bs old new n
wrote_all last bs old new n w = (lossy_utf8 w.parts, (w.parts, w.first.starts, refl, w.malformed), w.bytes)

-- a proper prefix of a text is one of any longer text
pub longer_prefix : (out text more : List ℕ) → IsProperPrefix out text → IsProperPrefix out (text ++ more)
longer_prefix out text more (left, some, whole) =
    (left ++ more, (λ none. some (no_items left more none)), ap (λ xs. xs ++ more) whole ∙ append_assoc out left more)
  where
    no_items : (xs ys : List ℕ) → xs ++ ys ≡ [] → xs ≡ []
    no_items [] ys e = refl
    no_items (x ∷ xs) ys e = absurd (omega (arith, ap length e))

pub stopped_all : (last : Bool) (bs : List ℕ) (old new : Option (List ℕ)) → StopsInParts last bs old new → Stops bs old new
stopped_all last bs old new s =
    let others = has_parts s.rest in
    let text = lossy_utf8 (s.parts ++ others.0) in (
      text,
      s.out,
      (s.parts ++ others.0, StartsWith-append bs s.parts s.rest others.0 [] s.first.starts others.1, refl),
      subst (IsProperPrefix s.out) (sym (lossy_utf8-append s.parts others.0)) (longer_prefix s.out (lossy_utf8 s.parts) (lossy_utf8 others.0) s.less),
      s.bytes,
    )

-- ---- more bytes after parts that no continuation changes
pub wrote_after : (last : Bool) (bs mid more rest : List ℕ) (old new now : Option (List ℕ)) (n m : ℕ) → WritesParts false bs mid old new n
    → WritesParts last (mid ++ more) rest new now m → WritesParts last (bs ++ more) rest old now (n + m)
wrote_after last bs mid more rest old new now n m w v = record {
  parts = w.parts ++ v.parts;
  first = AreFirst-more last bs w.parts mid more v.parts rest w.first v.first;
  bytes = subst (Appends old now) (sym (lossy_utf8-append w.parts v.parts)) (Appends-trans _ _ _ _ _ w.bytes v.bytes);
  malformed = omega (arith, w.malformed, v.malformed, malformed_count-append w.parts v.parts);
}

-- at most three bytes are pending
pub pending_length : (p : List ℕ) → IsPending p → length p ≤ 3
pending_length p (inl e) = omega (arith, ap length e)
pending_length p (inr b) = length-IsIncomplete p b
