use Rattle.std.proofs.Common.{◌≡◌, [], length, true, ap, sym, subst, ◌∙◌, arith}
use Rattle.std.proofs.lemmas.Bool.{both_ways}
use Rattle.std.proofs.lemmas.List.{nil_from_length}
use Rattle.std.specs.Str.{IsUtf8}
use Rattle.std.specs.Io.KnownBytes.{Consumes, IsAtEnd}
use Rattle.encoding_definitions.proofs.PrefixesLemmas.{WritesPrefix-length}
use Rattle.encoding_runs.specs.Reading.{text_left}
use Rattle.encoding_runs.proofs.ReaderTextLemmas.{Keeps_then, Keeps-none}
use Rattle.encoding_runs.proofs.ReaderBlockLemmas.{some_length, written_prefix, whole_characters, grows, repaired, repaired_all}
use Rattle.encoding_runs.proofs.reader.utf8_reader.Utf8Reader.decode.Goals.{then-last-via-then-last, then-last-via-else-last+then-repaired-gt0}
use Rattle.encoding_runs.proofs.reader.utf8_reader.Utf8Reader.decode.Goals as goal

pub returns-then-last-clause-bytes : goal.returns-then-last-clause-bytes
returns-then-last-clause-bytes g c =
    let self = c.fill.new.self in
    let (out, writes, repair) = rw c.unread.ensures.value at c.repair_block-repaired.ensures in
    let fill = c.in_ok-last.ensures in
    let held = fill.same.1 ∙ c.loop-last.invariant.held in
    let known = g.R.Read.remaining self.inner in
    let end : c.in_ok-last.last ≡ true → (self.block ≡ []) × IsAtEnd known = λ marked. let none = fill.ended.0 marked in (none, fill.end none) in
    let prefix = written_prefix _ _ _ out writes in (
      subst (Consumes (text_left g.R.Read.remaining c.args.self.now) _) (sym prefix)
          (Keeps_then _ _ _ out c.loop-last.invariant.text
          (Keeps_then _ _ _ out fill.text
          (repaired _ _ _ _ _ _ _ _ repair c.law_parts.ensures.exist c.law_parts.ensures.lossy known _ _ held c.consume.ensures end))),
      λ none room. elim c.then-last.branch [
        | then-last-via-then-last w ↦
            repaired_all _ _ _ _ _ _ _ _ repair c.law_parts.ensures.exist c.law_parts.ensures.lossy known _ _ held c.consume.ensures end w.if-last.true
            c.loop-last.invariant.room (omega (arith, none, writes.count))
        | then-last-via-else-last+then-repaired-gt0 w ↦ absurd (omega (arith, none, w.if-repaired-gt0.true))
      ],
    )

pub returns-then-last-clause-whole : goal.returns-then-last-clause-whole
returns-then-last-clause-whole g c =
    let (out, writes, repair) = c.repair_block-repaired.ensures in
    subst IsUtf8 (sym (written_prefix _ _ _ out writes)) (whole_characters _ _ _ _ _ _ _ _ repair c.law_parts.ensures.repaired)

pub loop-last-smaller : goal.loop-last-smaller
loop-last-smaller g c =
    let (out, writes, repair) = rw c.unread.ensures.value at c.repair_block-repaired.ensures in
    let some = some_length c.fill.new.self.block (λ none. both_ways _ c.if-last.false (c.in_ok-last.ensures.ended.1 none)) in
    let more = grows _ _ _ _ _ _ _ _ repair c.loop-last.invariant.room (omega (arith, writes.count, c.if-repaired-gt0.false)) some in
    omega (arith, more, ap length c.in_ok-last.ensures.same.0)

pub loop-last-preserved : goal.loop-last-preserved
loop-last-preserved g c =
    let self = c.fill.new.self in
    let (out, writes, repair) = rw c.unread.ensures.value at c.repair_block-repaired.ensures in
    let fill = c.in_ok-last.ensures in
    let held = fill.same.1 ∙ c.loop-last.invariant.held in
    let known = g.R.Read.remaining self.inner in
    let none : out ≡ [] = nil_from_length out (omega (arith, writes.count, c.if-repaired-gt0.false)) in
    let end : c.in_ok-last.last ≡ true → (self.block ≡ []) × IsAtEnd known = λ marked. absurd (both_ways _ c.if-last.false marked) in
    record {
      text = Keeps-none _ _ (subst (Consumes (text_left g.R.Read.remaining c.args.self.now) _) none
          (Keeps_then _ _ _ out c.loop-last.invariant.text
          (Keeps_then _ _ _ out fill.text
          (repaired _ _ _ _ _ _ _ _ repair c.law_parts.ensures.exist c.law_parts.ensures.lossy known _ _ held c.consume.ensures end))));
      held = held;
      room = omega (arith, c.loop-last.invariant.room, WritesPrefix-length _ _ _ _ writes);
    }
