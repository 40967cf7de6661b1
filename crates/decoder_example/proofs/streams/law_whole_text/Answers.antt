use Rattle.std.proofs.Common.{inl, [], encode_utf8, encode_utf8_all, refl}
use Rattle.std.specs.Char.Escape.{encode_utf16}
use Rattle.decoder_example.proofs.YieldedLemmas.{takes_whole}
use Rattle.decoder_example.proofs.streams.law_whole_text.Goals as goal

pub returns : goal.returns
returns c = record {
  utf16 = λ cs out q room read last result scalars fits.
      takes_whole encode_utf16 2 cs out q room read last result scalars fits (c.law_mixed_calls.ensures.one_utf16 [] (encode_utf8_all cs) room last (inl refl));
  utf8 = λ cs out q room read last result scalars fits.
      takes_whole encode_utf8 4 cs out q room read last result scalars fits (c.law_mixed_calls.ensures.one_utf8 [] (encode_utf8_all cs) room last (inl refl));
}
