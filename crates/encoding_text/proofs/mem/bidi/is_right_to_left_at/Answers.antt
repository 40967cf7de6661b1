use Rattle.std.proofs.Common.{◌+◌, ◌-◌, take, drop, arith, refl, subst}
use Rattle.std.proofs.lemmas.List.{take_rest}
use Rattle.encoding_definitions.specs.Sequence.{IsSequence}
use Rattle.encoding_definitions.proofs.BidiTextLemmas.{character_bidi, bidi_character}
use Rattle.encoding_kernels.proofs.BidiLemmas.{none_from_zero, no_character_stands, stands_spelled, spelled_stands}
use Rattle.encoding_text.proofs.mem.bidi.is_right_to_left_at.Goals as goal

pub returns-then-not-may_start_right_to_left : goal.returns-then-not-may_start_right_to_left
returns-then-not-may_start_right_to_left c =
    (λ e. absurd (cc), λ s. absurd (none_from_zero c.args.bytes.now c.args.at (c.if-not-may_start_right_to_left.ensures refl) s))

pub returns-in_default : goal.returns-in_default
returns-in_default c = (λ e. absurd (cc), λ s. absurd (no_character_stands c.args.bytes.now c.args.at (rw take_rest at c.in_default.ensures.no_character) s))

pub decode_utf8_scalar-requires : goal.decode_utf8_scalar-requires
decode_utf8_scalar-requires c =
    let at = c.args.at in
    let n = c.in-Some.length in
    let found = rw take_rest at c.in-Some.ensures.length in
    record { sequence = subst (λ k. IsSequence (take k (drop at c.args.bytes.now))) {x = n} {y = at + n - at} (omega arith) found.2 }

pub returns : goal.returns
returns c =
    let bs = c.args.bytes.now in
    let at = c.args.at in
    let n = c.in-Some.length in
    let found = rw take_rest at c.in-Some.ensures.length in
    let sequence = subst (λ k. IsSequence (take k (drop at bs))) {x = n} {y = at + n - at} (omega arith) found.2 in
    let scalar = c.decode_utf8_scalar.ensures in (
      λ e. stands_spelled bs at _ sequence (character_bidi _ _ scalar.scalar scalar.spelled (c.is_right_to_left.ensures.0 e)),
      λ s. c.is_right_to_left.ensures.1 (bidi_character _ _ scalar.spelled (spelled_stands bs at _ sequence s)),
    )
