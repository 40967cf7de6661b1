use Rattle.std.proofs.Common.{sym, subst}
use Rattle.encoding_streams.specs.ExactCalls.{IsPendingOf}
use Rattle.encoding_c.specs.DecoderStates.{IsBomNumber, IsEncodingNumber}
use Rattle.encoding_c.proofs.StateLemmas.{first_three}
use Rattle.encoding_c.proofs.stream_decoder.stored.Goals as goal

pub returns : goal.returns
returns c =
    let p = c.pending-count.ensures in
    let s = c.args.decoder.now in
    let same = first_three c.pending-count.result.0 s.pending c.pending-count.result.1 p.count p.within p.bytes in
    record {
      encoding = subst (IsEncodingNumber c.encoding_number.result) c.encoding.ensures c.encoding_number.ensures.number;
      bom = subst (IsBomNumber c.bom_number.result) c.bom_handling.ensures c.bom_number.ensures;
      left = λ _. sym same;
      other = λ n. absurd (n (p.within, subst (IsPendingOf s.bom s.encoding) (sym same) p.pending));
    }
