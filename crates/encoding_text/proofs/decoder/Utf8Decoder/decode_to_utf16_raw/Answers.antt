use Rattle.encoding_text.proofs.RoomLemmas.{progress, utf16_suffices, utf16_suffices_replacing}
use Rattle.encoding_text.proofs.decoder.Utf8Decoder.decode_to_utf16_raw.Goals as goal

pub returns : goal.returns
returns c =
    let call = rw c.self.view_is at c.decode.ensures in
    record { call = call; progress = progress _ call.2; suffices = utf16_suffices call; suffices_replacing = utf16_suffices_replacing call }
