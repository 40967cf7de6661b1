use Rattle.std.proofs.Common.{◌≡◌, arith, ap, take, length}
use Rattle.std.proofs.lemmas.List.{length-take}
use Rattle.encoding_definitions.proofs.PrefixesLemmas.{WritesPrefix-same}
use Rattle.encoding_text.proofs.WholePrefixesLemmas.{other_at}
use Rattle.encoding_kernels.proofs.UpToSurrogateLemmas.{written_within}
use Rattle.encoding_text.proofs.utf_8.from_utf16.copy_ascii.Goals as goal

pub returns-in-Some-clause-stops : goal.returns-in-Some-clause-stops
returns-in-Some-clause-stops c l m =
    let room = c.saturating_sub-room.result in
    other_at c.args.src.now (length (take room c.args.dst.now)) c.in-Some.field-0-0 c.in-Some.place c.in-Some.ensures.found l
    (omega (arith, m, c.saturating_sub-room.ensures, length-take room c.args.dst.now))

pub returns-in-Some-clause-copied : goal.returns-in-Some-clause-copied
returns-in-Some-clause-copied c = written_within c.args.dst.now c.basic_latin_to_ascii.new.dst c.saturating_sub-room.result _ _ c.in-Some.ensures.copied

pub returns-in-None-clause-copied : goal.returns-in-None-clause-copied
returns-in-None-clause-copied c =
    let room = c.saturating_sub-room.result in
    let all = written_within c.args.dst.now c.basic_latin_to_ascii.new.dst room _ _ c.in-None.ensures.copied in
    let same : length (take (length (take room c.args.dst.now)) c.args.src.now) ≡ c.min.result =
    omega (
      arith,
      c.min.ensures,
      c.saturating_sub-room.ensures,
      length-take room c.args.dst.now,
      length-take
          (length (take room c.args.dst.now)) c.args.src.now,
    ) in
    WritesPrefix-same _ _ _ _ _ _ all same (ap (λ n. take n c.args.src.now) same)
