use Rattle.std.proofs.Common.{ap, true, false}
use Rattle.encoding_text.proofs.Utf16BytesLemmas.{is_big}
use Rattle.encoding_streams.proofs.Utf16PairedLemmas.{valid_units_of}
use Rattle.encoding_streams.proofs.utf16_decoder.units.valid_units.Goals as goal

pub returns-in-LittleEndian-clause-within : goal.returns-in-LittleEndian-clause-within
returns-in-LittleEndian-clause-within c =
    (valid_units_of c.args.order false (ap is_big c.in-LittleEndian.is) c.args.src.now _ c.as_chunks.ensures.front (λ k. (c.type_inv.src k).fits) _
    c.valid_prefix.ensures.within c.valid_prefix.ensures.valid).0

pub returns-in-LittleEndian-clause-valid : goal.returns-in-LittleEndian-clause-valid
returns-in-LittleEndian-clause-valid c = (
  _,
  (valid_units_of c.args.order false (ap is_big c.in-LittleEndian.is) c.args.src.now _ c.as_chunks.ensures.front (λ k. (c.type_inv.src k).fits) _
      c.valid_prefix.ensures.within c.valid_prefix.ensures.valid).1,
)

pub returns-in-BigEndian-clause-within : goal.returns-in-BigEndian-clause-within
returns-in-BigEndian-clause-within c =
    (valid_units_of c.args.order true (ap is_big c.in-BigEndian.is) c.args.src.now _ c.as_chunks.ensures.front (λ k. (c.type_inv.src k).fits) _
    c.valid_prefix-in-BigEndian.ensures.within c.valid_prefix-in-BigEndian.ensures.valid).0

pub returns-in-BigEndian-clause-valid : goal.returns-in-BigEndian-clause-valid
returns-in-BigEndian-clause-valid c = (
  _,
  (valid_units_of c.args.order true (ap is_big c.in-BigEndian.is) c.args.src.now _ c.as_chunks.ensures.front (λ k. (c.type_inv.src k).fits) _
      c.valid_prefix-in-BigEndian.ensures.within c.valid_prefix-in-BigEndian.ensures.valid).1,
)
