use Rattle.std.proofs.Common.{◌≡◌, length}
use Rattle.reader_example.proofs.WellFormedLemmas.{NoneMalformed}
use Rattle.reader_example.proofs.well_formed.is_well_formed.Given as goal

abbrev pub invariant-loop : goal.invariant-loop
invariant-loop g l = record {
  none : NoneMalformed (g.R.Read.remaining l.fn.reader) l.decoder (g.R.Read.remaining l.reader);
  block : length l.block ≡ 1024;
  room : length l.text ≡ 1034;
}
