use Rattle.std.proofs.Common.{ap, subst}
use Rattle.std.specs.Char.Escape.{encode_utf16}
use Rattle.encoding_streams.specs.Utf16Decoding.{Utf16State, DecodeUtf16StepInto}
use Rattle.encoding_streams.proofs.Utf16RoomLemmas.{utf16_progress, utf16_suffices, utf16_suffices_replacing}
use Rattle.encoding_streams.proofs.utf16_decoder.Utf16Decoder.decode_to_utf16_raw.Goals as goal

pub returns : goal.returns
returns c =
    let call = subst
    (λ (s : Utf16State). DecodeUtf16StepInto s.order encode_utf16 2 s.pending c.args.src.now c.args.dst.now c.decode.new.dst c.args.last c.decode.result.0
    c.decode.result.1 c.decode.result.2 c.decode.new.pending) c.self.view_is c.decode.ensures in
    record {
      order = ap (λ (s : Utf16State). s.order) c.self.view_is;
      call = call;
      progress = utf16_progress call;
      suffices = utf16_suffices call;
      suffices_replacing = utf16_suffices_replacing call;
    }
