-- The decoder that is made of the storage's numbers is the one that the storage represents.
use Rattle.std.proofs.Common.{◌≡◌, ℕ, ◌≤◌, List, [], take, sym, ◌∙◌, ap, subst, arith}
use Rattle.encoding_streams.specs.declared.encoding.Encoding.{Encoding}
use Rattle.encoding_streams.specs.declared.encoding.BomHandling.{BomHandling}
use Rattle.encoding_streams.specs.Decoders.{DecoderState}
use Rattle.encoding_streams.specs.ExactCalls.{IsPendingOf}
use Rattle.encoding_c.specs.declared.stream_decoder.EncodingDecoder.{EncodingDecoder}
use Rattle.encoding_c.specs.DecoderStates.{IsEncodingNumber, IsBomNumber, RepresentsDecoder}

pub represented : (state : EncodingDecoder) (e : Encoding) (b : BomHandling) (made : DecoderState) (n : ℕ) → n ≡ state.count → n ≤ 3
    → IsEncodingNumber state.encoding e → IsBomNumber state.bom b → made.encoding ≡ e → made.bom ≡ b
    → (IsPendingOf b e (take n state.pending) → made.pending ≡ take n state.pending)
    → ((IsPendingOf b e (take n state.pending) → ⊥) → made.pending ≡ [])
    → RepresentsDecoder state made
represented state e b made n count few is_encoding is_bom same_encoding same_bom valid other = record {
  encoding = subst (IsEncodingNumber state.encoding) (sym same_encoding) is_encoding;
  bom = subst (IsBomNumber state.bom) (sym same_bom) is_bom;
  left = λ all. valid (of_numbers all.1) ∙ ap (λ k. take k state.pending) count;
  other = λ invalid. other (λ p. invalid (omega (arith, count, few), of_storage p));
}
  where
    of_numbers : IsPendingOf made.bom made.encoding (take state.count state.pending) → IsPendingOf b e (take n state.pending)
    of_numbers p =
        subst (λ k. IsPendingOf b e (take k state.pending)) (sym count)
        (subst (λ x. IsPendingOf b x (take state.count state.pending)) same_encoding
        (subst (λ x. IsPendingOf x made.encoding (take state.count state.pending)) same_bom p))

    of_storage : IsPendingOf b e (take n state.pending) → IsPendingOf made.bom made.encoding (take state.count state.pending)
    of_storage p =
        subst (λ k. IsPendingOf made.bom made.encoding (take k state.pending)) count
        (subst (λ x. IsPendingOf made.bom x (take n state.pending)) (sym same_encoding)
        (subst (λ x. IsPendingOf x e (take n state.pending)) (sym same_bom) p))
