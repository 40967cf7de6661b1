use Rattle.std.proofs.Common.{◌≡◌, ◌∙◌, ◌∷◌, [], rules, inl, inr, true}
use Rattle.std.specs.Result.{is_ok}
use Rattle.std.proofs.lemmas.List.{map-append}
use Rattle.std.proofs.lemmas.List.Elements.{All-nil, All-push}
use Rattle.csv.specs.Records.{AllText, fields_of}
use Rattle.encoding_runs.specs.Reading.{text_left}
use Rattle.csv_example.proofs.RecordLemmas.{start, more, all}
use Rattle.csv_example.proofs.read_records.Goals as goal

pub loop-record-init : goal.loop-record-init
loop-record-init g c =
    let made = c.from_reader-reader.ensures in
    let asked = c.has_headers.ensures in
    rw (c.into_iter-record-iterator.ensures.into_iter_gives, c.into_records-record-items.ensures.rdr, c.new-records.ensures.items) record {
      trim = rw asked at made.trim ∙ c.new.ensures.trim;
      ready = inr (inr (rw asked at made.has_headers, made.headers));
      left = c.into_records-record-items.ensures.left;
      config = rw asked at made.config ∙ c.new.ensures.config;
      text = All-nil _;
      first = rw made.state (start _ _ _ c.new-2.ensures.text made.source);
    }

pub loop-record-preserved : goal.loop-record-preserved
loop-record-preserved g c =
    let so_far = c.loop-record.invariant in
    let step = rw (c.in-Some.is, c.in_ok-record.was) at ((c.next.ensures.steps so_far.left so_far.trim).0 so_far.ready) in
    let pushed : is_ok c.push.result ≡ true = search rules in
    let first = more (text_left g.R.Read.remaining) c.loop-record.record-iterator.rdr c.next.new.self.rdr (g.R.Read.remaining c.args.inner) _
    (fields_of c.in_ok-record.field-0) so_far.config so_far.first step.0 in
    rw (rw pushed at c.push.ensures.items, map-append fields_of c.loop-record.records.items (c.in_ok-record.field-0 ∷ [])) record {
      trim = step.0.3 ∙ so_far.trim;
      ready = inl step.1;
      left = step.3;
      config = step.0.2 ∙ so_far.config;
      text = All-push (λ r. AllText (fields_of r)) _ _ so_far.text step.2;
      first = first;
    }

pub returns-clause-records : goal.returns-clause-records
returns-clause-records g c =
    let so_far = c.loop-record.invariant in
    let step = rw c.in-None.is at ((c.next.ensures.steps so_far.left so_far.trim).0 so_far.ready) in
    all (text_left g.R.Read.remaining) c.loop-record.record-iterator.rdr c.next.new.self.rdr (g.R.Read.remaining c.args.inner) _ so_far.config so_far.first step

pub returns-clause-text : goal.returns-clause-text
returns-clause-text g c = c.loop-record.invariant.text
