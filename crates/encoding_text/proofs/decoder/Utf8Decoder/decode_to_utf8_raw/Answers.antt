use Rattle.encoding_text.proofs.RoomLemmas.{progress, utf8_suffices, utf8_suffices_between_reports, utf8_suffices_replacing}
use Rattle.encoding_text.proofs.decoder.Utf8Decoder.decode_to_utf8_raw.Goals as goal

pub returns : goal.returns
returns c =
    let call = rw c.self.view_is at c.decode.ensures in
    record {
      call = call;
      progress = progress _ call.2;
      suffices = utf8_suffices call;
      suffices_between_reports = utf8_suffices_between_reports call;
      suffices_replacing = utf8_suffices_replacing call;
    }
