use Rattle.std.proofs.Common.{ap, subst, encode_utf8}
use Rattle.encoding_streams.specs.Utf16Decoding.{Utf16State, DecodeUtf16StepInto}
use Rattle.encoding_streams.proofs.Utf16RoomLemmas.{utf8_progress, utf8_suffices, utf8_suffices_replacing}
use Rattle.encoding_streams.proofs.utf16_decoder.Utf16Decoder.decode_to_utf8_raw.Goals as goal

pub returns : goal.returns
returns c =
    let call = subst
    (λ (s : Utf16State). DecodeUtf16StepInto s.order encode_utf8 4 s.pending c.args.src.now c.args.dst.now c.decode.new.dst c.args.last c.decode.result.0
    c.decode.result.1 c.decode.result.2 c.decode.new.pending) c.self.view_is c.decode.ensures in
    record {
      order = ap (λ (s : Utf16State). s.order) c.self.view_is;
      call = call;
      progress = utf8_progress call;
      suffices = utf8_suffices call;
      suffices_replacing = utf8_suffices_replacing call;
    }
