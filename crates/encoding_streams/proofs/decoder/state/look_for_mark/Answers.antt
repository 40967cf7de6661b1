use Rattle.std.proofs.Common.{inl, inr, sym, ap, ◌∙◌, arith}
use Rattle.encoding_streams.specs.Marks.{begins_mark, found_mark}
use Rattle.encoding_streams.proofs.SniffLemmas.{sniff_found, sniff_open, sniff_none}
use Rattle.encoding_streams.proofs.decoder.state.look_for_mark.Goals.{else-not-last-via-then-not-last+else-begins_mark, else-not-last-via-else-not-last}
use Rattle.encoding_streams.proofs.decoder.state.look_for_mark.Goals as goal

pub returns-in-Some : goal.returns-in-Some
returns-in-Some c =
    let s = c.args.state.now in
    let found = ap (found_mark s.bom s.encoding) (sym c.followed_by-count.ensures.bytes) ∙ sym c.found_mark.ensures ∙ c.in-Some.is in
    rw c.none-state.ensures (sniff_found s.bom s.encoding s.pending c.args.src.now c.args.last c.in-Some.encoding c.requires.pending found _
    (omega (arith, c.mark_length.ensures, c.len-before.ensures.length)))

pub returns-then-begins_mark : goal.returns-then-begins_mark
returns-then-begins_mark c =
    let s = c.args.state.now in
    let begins = ap (begins_mark s.bom s.encoding) (sym c.followed_by-count.ensures.bytes) ∙ sym c.begins_mark.ensures ∙ c.if-begins_mark.true in
    rw (c.hold-state.ensures, c.followed_by-count.ensures.bytes) (sniff_open s.bom s.encoding s.pending c.args.src.now c.args.last c.if-not-last.true begins)

pub returns : goal.returns
returns c =
    let s = c.args.state.now in
    let bytes = c.followed_by-count.ensures.bytes in
    let none = ap (found_mark s.bom s.encoding) (sym bytes) ∙ sym c.found_mark.ensures ∙ c.in_default.is in
    sniff_none s.bom s.encoding s.pending c.args.src.now c.args.last (omega (arith, c.len-before.ensures.length, c.len-before.ensures.within)) none
    (elim c.else-not-last.branch [
      | else-not-last-via-then-not-last+else-begins_mark w ↦
          inr (ap (begins_mark s.bom s.encoding) (sym bytes) ∙ sym w.begins_mark.ensures ∙ w.if-begins_mark.false)
      | else-not-last-via-else-not-last w ↦ inl w.if-not-last.false
    ])
