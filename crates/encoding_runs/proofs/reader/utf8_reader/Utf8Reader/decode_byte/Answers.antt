use Rattle.std.proofs.Common.{◌≡◌, [], length, take, drop, true, ap, sym, ◌∙◌, arith}
use Rattle.std.proofs.lemmas.Bool.{both_ways}
use Rattle.std.proofs.lemmas.List.{drop_all, length-take, length-append}
use Rattle.std.specs.Io.KnownBytes.{IsAtEnd}
use Rattle.encoding_runs.proofs.RepairLemmas.{pending_length}
use Rattle.encoding_runs.proofs.ReaderTextLemmas.{Keeps-yielded, no_text_left}
use Rattle.encoding_runs.proofs.ReaderPieceLemmas.{text_yielded, none_yielded, short_text, one_yielded}
use Rattle.encoding_runs.proofs.ReaderBlockLemmas.{some_length}
use Rattle.encoding_runs.proofs.reader.utf8_reader.Utf8Reader.decode_byte.Goals as goal

pub hold_piece-requires : goal.hold_piece-requires
hold_piece-requires g c =
    short_text _ _ _ _ _ _ c.decode_borrowed_raw-read.ensures (omega (arith, c.min.ensures, length-take c.min.result c.unread-unread.result.now))

pub returns-clause-text : goal.returns-clause-text
returns-clause-text g c =
    let self = c.args.self.now in
    let call = rw c.unread-unread.ensures.value at c.decode_borrowed_raw-read.ensures in
    let (parts, yielded, text) = text_yielded _ _ _ _ _ _ call in
    let known = g.R.Read.remaining self.inner in
    let end : c.args.last ≡ true → (drop c.min.result self.block ≡ []) × IsAtEnd known = λ marked.
    let none = c.requires.ended.0 marked in
    (drop_all c.min.result self.block (omega (arith, ap length none)), c.requires.end none) in
    rw (c.requires.held, c.consume.ensures, c.hold_piece.ensures)
    (Keeps-yielded c.law_parts.ensures.exist c.law_parts.ensures.lossy known _ _ _ _ parts _ _ _ yielded end text)

pub returns-clause-one : goal.returns-clause-one
returns-clause-one g c =
    rw c.hold_piece.ensures (one_yielded c.law_sequences.ensures.each _ _ _ _ _ _ c.decode_borrowed_raw-read.ensures
    (omega (arith, c.min.ensures, length-take c.min.result c.unread-unread.result.now)))

pub returns-clause-end : goal.returns-clause-end
returns-clause-end g c = λ none marked.
    let self = c.args.self.now in
    let (all, same, empty) = none_yielded _ _ _ _ _ _ c.decode_borrowed_raw-read.ensures (sym c.hold_piece.ensures ∙ none) in
    let no_block = c.requires.ended.0 marked in
    let no_rest : c.consume.new.self ≡ [] = c.consume.ensures ∙ drop_all _ self.block (omega (arith, ap length no_block)) in
    rw (none, no_rest, empty marked) (no_text_left c.law_parts.ensures.exist c.law_parts.ensures.lossy _ (c.requires.end no_block))

pub returns-clause-progress : goal.returns-clause-progress
returns-clause-progress g c = λ none unmarked.
    let self = c.args.self.now in
    let call = c.decode_borrowed_raw-read.ensures in
    let (all, same, empty) = none_yielded _ _ _ _ _ _ call (sym c.hold_piece.ensures ∙ none) in
    let some = some_length self.block (λ e. both_ways _ unmarked (c.requires.ended.1 e)) in
    let next = take c.min.result c.unread-unread.result.now in (
      omega (
        arith,
        ap length same,
        length-append self.decoder next,
        length-take c.min.result c.unread-unread.result.now,
        c.min.ensures,
        ap length
            c.unread-unread.ensures.value,
        some,
      ),
      pending_length _ call.pending,
    )
