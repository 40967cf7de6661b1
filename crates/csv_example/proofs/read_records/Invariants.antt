use Rattle.std.specs.Prelude.{◌≡◌, ◌<◌, map}
use Rattle.std.specs.List.{All}
use Rattle.csv.specs.Reading.{Ready, default_config, source_of}
use Rattle.csv.specs.Records.{AllText, fields_of}
use Rattle.csv.specs.declared.reader.Trim.TheVariants as trim
use Rattle.encoding_runs.specs.Reading.{text_left}
use Rattle.csv_example.proofs.RecordLemmas.{AreFirst}
use Rattle.csv_example.proofs.read_records.Given as goal

abbrev pub invariant-loop-record : goal.invariant-loop-record
invariant-loop-record g l = record {
  trim : l.record-iterator.rdr.trim ≡ trim.None;
  ready : Ready l.record-iterator.rdr;
  left : 0 < l.record-iterator.left;
  config : l.record-iterator.rdr.config ≡ default_config;
  text : All (λ r. AllText (fields_of r)) l.records.items;
  first : AreFirst (g.R.Read.remaining l.fn.inner) (map fields_of l.records.items) l.record-iterator.rdr.state
      (source_of (text_left g.R.Read.remaining) l.record-iterator.rdr);
}
