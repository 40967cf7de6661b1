use Rattle.std.proofs.Common.{[], ◌∷◌, inr, refl, arith}
use Rattle.encoding_streams.proofs.Utf16WindowLemmas.{bytes_pending, bytes_unpaired, high_of, one_spelled, one_valid, two_spelled, two_valid}
use Rattle.encoding_streams.proofs.utf16_decoder.window.first_of.Goals as goal

pub returns-then-bytes-lt2 : goal.returns-then-bytes-lt2
returns-then-bytes-lt2 c = bytes_pending c.args.order c.args.bytes.now [] 0 refl refl (omega (arith, c.if-bytes-lt2.true)) tt

pub returns-then-not-is_surrogate : goal.returns-then-not-is_surrogate
returns-then-not-is_surrogate c =
    let u = c.unit_of-first.result in (
      omega arith,
      omega arith,
      omega (arith, c.if-bytes-lt2.false),
      one_valid u (omega (arith, c.unit_of-first.type_inv)) (λ h k. cc ((c.if-not-is_surrogate.ensures {u = tt}).1 (h, k))),
      one_spelled c.args.order c.args.bytes.now u c.unit_of-first.ensures (omega (arith, c.if-bytes-lt2.false)),
    )

pub returns-then-is_low_surrogate : goal.returns-then-is_low_surrogate
returns-then-is_low_surrogate c =
    let u = c.unit_of-first.result in
    bytes_unpaired c.args.order c.args.bytes.now (u ∷ []) 1
    (one_spelled c.args.order c.args.bytes.now u c.unit_of-first.ensures (omega (arith, c.if-bytes-lt2.false))) refl
    (omega (arith, c.if-bytes-lt2.false)) ((c.if-is_low_surrogate.ensures {u = tt}).0 refl)

pub returns-then-bytes-lt-WINDOW : goal.returns-then-bytes-lt-WINDOW
returns-then-bytes-lt-WINDOW c =
    let u = c.unit_of-first.result in
    bytes_pending c.args.order c.args.bytes.now (u ∷ []) 1
    (one_spelled c.args.order c.args.bytes.now u c.unit_of-first.ensures (omega (arith, c.if-bytes-lt2.false))) refl
    (omega (arith, c.if-bytes-lt2.false, c.if-bytes-lt-WINDOW.true))
    (high_of u ((c.if-not-is_surrogate.ensures {u = tt}).0 refl) (λ h. cc ((c.if-is_low_surrogate.ensures {u = tt}).1 h)))

pub returns-then-not-is_low_surrogate : goal.returns-then-not-is_low_surrogate
returns-then-not-is_low_surrogate c =
    let u = c.unit_of-first.result in
    let v = c.unit_of-second.result in
    let high = high_of u ((c.if-not-is_surrogate.ensures {u = tt}).0 refl) (λ h. cc ((c.if-is_low_surrogate.ensures {u = tt}).1 h)) in
    bytes_unpaired c.args.order c.args.bytes.now (u ∷ v ∷ []) 2
    (two_spelled c.args.order c.args.bytes.now u c.unit_of-first.ensures v c.unit_of-second.ensures (omega (arith, c.if-bytes-lt-WINDOW.false))) refl
    (omega (arith, c.if-bytes-lt-WINDOW.false))
    (inr (high, omega (arith, c.unit_of-second.type_inv), λ h. cc ((c.if-not-is_low_surrogate.ensures {u = tt}).1 h)))

pub returns : goal.returns
returns c =
    let u = c.unit_of-first.result in
    let v = c.unit_of-second.result in
    let high = high_of u ((c.if-not-is_surrogate.ensures {u = tt}).0 refl) (λ h. cc ((c.if-is_low_surrogate.ensures {u = tt}).1 h)) in
    let low = (c.if-not-is_low_surrogate.ensures {u = tt}).0 refl in (
      omega arith,
      omega arith,
      omega (arith, c.if-bytes-lt-WINDOW.false),
      two_valid u v (high.0, omega (arith, high.1), low.0, omega (arith, low.1)),
      two_spelled c.args.order c.args.bytes.now u c.unit_of-first.ensures v c.unit_of-second.ensures (omega (arith, c.if-bytes-lt-WINDOW.false)),
    )
