use Rattle.encoding_streams.proofs.decoder.inner.U8Output.write_replacement.Goals as goal

pub put-requires : goal.put-requires
unfolding lib.Utf8.encode
put-requires c = record { fits = c.requires.fits }

pub returns : goal.returns
unfolding lib.Utf8.encode
returns c = c.put.ensures
