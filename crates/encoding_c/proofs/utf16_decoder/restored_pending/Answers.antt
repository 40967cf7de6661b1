use Rattle.std.proofs.Common.{◌≡◌, ◌≤◌, ◌∙◌, List, ℕ, take, arith, subst, sym, ap}
use Rattle.std.proofs.lemmas.List.{length-take, take-take}
use Rattle.encoding_streams.specs.Utf16Parts.{IsPendingUtf16}
use Rattle.encoding_c.specs.States.{IsByteOrder}
use Rattle.encoding_streams.proofs.Utf16ByteLemmas.{length-pending}
use Rattle.encoding_c.proofs.utf16_decoder.restored_pending.Goals as goal

-- up to three bytes of the four are those of the three
same_bytes : (n m : ℕ) (three four : List ℕ) → n ≡ m → m ≤ 3 → take 3 four ≡ three → take n four ≡ take m three
same_bytes n m three four e within f = ap (λ k. take k four) e ∙ sym (take-take m 3 four within) ∙ ap (take m) f

pub returns : goal.returns
returns c =
    let d = c.from_pending.ensures in
    let order = c.byte_order-order.result in
    let four = c.padded.result in
    let same = λ (within : c.args.state.count ≤ 3).
    same_bytes c.from-count.result c.args.state.count c.args.state.pending four c.from-count.ensures within c.padded.ensures.bytes in
    record {
      order = subst (IsByteOrder c.args.state.big_endian) (sym d.order) c.byte_order-order.ensures;
      left = λ valid.
          let pending = subst (λ o. IsPendingUtf16 o (take c.args.state.count c.args.state.pending)) d.order valid.1 in
          d.held (subst (IsPendingUtf16 order) (sym (same valid.0)) pending) ∙ same valid.0;
      other = λ invalid. d.other
          (λ pending.
          let within : c.args.state.count ≤ 3 = omega (
            arith,
            length-pending order (take c.from-count.result four) pending,
            length-take c.from-count.result four,
            c.padded.ensures.count,
            c.from-count.ensures,
          ) in
          let left = subst (IsPendingUtf16 order) (same within) pending in
          invalid (within, subst (λ o. IsPendingUtf16 o (take c.args.state.count c.args.state.pending)) (sym d.order) left));
    }
