-- What the calls of a run yield in sequence: the first parts of the bytes, written and reported.
use Rattle.std.proofs.Common.{◌≡◌, ℕ, ◌+◌, List, [], ◌∷◌, ◌++◌, length, map, refl, sym, ap, ◌∙◌, arith, subst}
use Rattle.std.specs.List.{flat_map}
use Rattle.std.proofs.lemmas.Grind.{flat_map-append}
use Rattle.std.proofs.lemmas.List.{append-nil, length-append}
use Rattle.encoding_definitions.specs.Sequence.{IsPending}
use Rattle.encoding_definitions.specs.Parts.{Part, Character, IllFormed, characters_of}
use Rattle.encoding_text.specs.Decoding.{DecodeStep, AreDecoded, IsReported}
use Rattle.encoding_text.specs.declared.decoder.DecoderResult.{DecoderResult}
use Rattle.encoding_text.specs.declared.decoder.DecoderResult.TheVariants.{InputEmpty, OutputFull, Malformed}
use Rattle.encoding_text.proofs.CallLemmas.{decoded_yields}
use Rattle.encoding_definitions.proofs.PrefixesLemmas.{WritesPrefix-same}
use Rattle.encoding_runs.specs.declared.run.turns.Turn.{Turn}
use Rattle.encoding_runs.specs.declared.run.decoding.Report.{Report}
use Rattle.encoding_runs.specs.declared.run.decoding.Outcome.{Outcome}
use Rattle.encoding_runs.specs.Calls.{Call, output_of, AreYieldedInSequence}
use Rattle.encoding_runs.specs.Runs.{reports_of, Delivers}
use Rattle.encoding_runs.specs.Steps.{report_of, reports_of_calls, IsReportedRun}
use Rattle.encoding_runs.proofs.ChainLemmas.{decoded_empty, chain_yields}
use Rattle.encoding_runs.proofs.RepairLemmas.{pending_length}

-- ---- the characters and the reports of parts
characters_of-append : (ps qs : List Part) → characters_of (ps ++ qs) ≡ characters_of ps ++ characters_of qs
characters_of-append [] qs = refl
characters_of-append (Character c ∷ ps) qs = ap (λ xs. c ∷ xs) (characters_of-append ps qs)
characters_of-append (IllFormed x ∷ ps) qs = characters_of-append ps qs

characters_of-characters : (cs : List ℕ) → characters_of (map Character cs) ≡ cs
characters_of-characters [] = refl
characters_of-characters (c ∷ cs) = ap (λ xs. c ∷ xs) (characters_of-characters cs)

no_characters_reported : (answer : DecoderResult) (reported : List Part) → IsReported answer reported → characters_of reported ≡ []
no_characters_reported InputEmpty reported e = ap characters_of e
no_characters_reported OutputFull reported e = ap characters_of e
no_characters_reported (Malformed k second) reported (x, e, size) = ap characters_of e

module _ {A : Type 0} (encode : ℕ → List A) where
  reports_of-append : (place : ℕ) (ps qs : List Part)
      → reports_of encode place (ps ++ qs) ≡ reports_of encode place ps ++ reports_of encode (place + length (flat_map encode (characters_of ps))) qs
  reports_of-append place [] qs = ap (λ n. reports_of encode n qs) (omega arith)
  reports_of-append place (Character c ∷ ps) qs =
      let size : place + length (encode c) + length (flat_map encode (characters_of ps)) ≡ place + length (encode c ++ flat_map encode (characters_of ps)) =
      omega (arith, length-append (encode c) (flat_map encode (characters_of ps))) in
      reports_of-append (place + length (encode c)) ps qs
      ∙ ap (λ n. reports_of encode (place + length (encode c)) ps ++ reports_of encode n qs) size
  reports_of-append place (IllFormed x ∷ ps) qs = ap (λ rs. record { place = place; length = length x } ∷ rs) (reports_of-append place ps qs)

  reports_of-characters : (place : ℕ) (cs : List ℕ) → reports_of encode place (map Character cs) ≡ []
  reports_of-characters place [] = refl
  reports_of-characters place (c ∷ cs) = reports_of-characters (place + length (encode c)) cs

  reports_of-reported : (place : ℕ) (answer : DecoderResult) (reported : List Part) → IsReported answer reported
      → reports_of encode place reported ≡ report_of answer place
  reports_of-reported place InputEmpty reported e = ap (reports_of encode place) e
  reports_of-reported place OutputFull reported e = ap (reports_of encode place) e
  reports_of-reported place (Malformed k second) reported (x, e, size) = ap (reports_of encode place) e
      ∙ ap (λ n. record { place = place; length = n } ∷ []) size

  -- ---- what a call yields
  yielded_characters : (cs : List ℕ) (answer : DecoderResult) (reported : List Part) → IsReported answer reported
      → characters_of (map Character cs ++ reported) ≡ cs
  yielded_characters cs answer reported r =
      characters_of-append (map Character cs) reported ∙ ap (λ xs. xs ++ characters_of reported) (characters_of-characters cs)
      ∙ ap (λ xs. cs ++ xs) (no_characters_reported answer reported r) ∙ append-nil cs

  yielded_reports : (place : ℕ) (cs : List ℕ) (answer : DecoderResult) (reported : List Part) → IsReported answer reported
      → reports_of encode place (map Character cs ++ reported) ≡ report_of answer (place + length (flat_map encode cs))
  yielded_reports place cs answer reported r =
      reports_of-append place (map Character cs) reported
      ∙ ap (λ rs. rs ++ reports_of encode (place + length (flat_map encode (characters_of (map Character cs)))) reported) (reports_of-characters place cs)
      ∙ ap (λ xs. reports_of encode (place + length (flat_map encode xs)) reported) (characters_of-characters cs)
      ∙ reports_of-reported (place + length (flat_map encode cs)) answer reported r

  -- ---- what calls yield in sequence
  abbrev Decoded : ℕ → DecoderResult → List A → List Part → Type 0
  Decoded room = AreDecoded encode

  yielded_output : (calls : List (Call ℕ DecoderResult A)) (parts : List Part) → AreYieldedInSequence Decoded calls parts
      → output_of calls ≡ flat_map encode (characters_of parts)
  yielded_output [] parts e = sym (ap (λ xs. flat_map encode (characters_of xs)) e)
  yielded_output (call ∷ calls) parts (first, others, (cs, reported, scalars, out, is, e), yielded, whole) =
      let here : call.out ≡ flat_map encode (characters_of first) =
      out ∙ ap (flat_map encode) (sym (ap characters_of e ∙ yielded_characters cs call.result reported is)) in
      (λ i. here i ++ yielded_output calls others yielded i) ∙ sym (flat_map-append encode (characters_of first) (characters_of others))
      ∙ ap (flat_map encode) (sym (ap characters_of whole ∙ characters_of-append first others))

  yielded_places : (place : ℕ) (calls : List (Call ℕ DecoderResult A)) (parts : List Part) → AreYieldedInSequence Decoded calls parts
      → reports_of_calls place calls ≡ reports_of encode place parts
  yielded_places place [] parts e = sym (ap (reports_of encode place) e)
  yielded_places place (call ∷ calls) parts (first, others, (cs, reported, scalars, out, is, e), yielded, whole) =
      let there = place + length call.out in
      let here : call.out ≡ flat_map encode (characters_of first) =
      out ∙ ap (flat_map encode) (sym (ap characters_of e ∙ yielded_characters cs call.result reported is)) in
      let one : report_of call.result there ≡ reports_of encode place first =
      ap (λ xs. report_of call.result (place + length xs)) out ∙ sym (ap (reports_of encode place) e ∙ yielded_reports place cs call.result reported is) in
      (λ i. one i ++ yielded_places there calls others yielded i)
      ∙ ap (λ xs. reports_of encode place first ++ reports_of encode (place + length xs) others) here
      ∙ sym (ap (reports_of encode place) whole ∙ reports_of-append place first others)

  -- ---- what a run delivers
  pub delivers : (need : ℕ) (p src : List ℕ) (turns : List Turn) (old new : List A) (old_reports new_reports : List Report) (outcome : Outcome)
      (q : List ℕ) → IsPending p
      → IsReportedRun encode need p src turns old new old_reports new_reports outcome q
      → Delivers encode need p src turns old new old_reports new_reports outcome q
  delivers need p src turns old new old_reports new_reports outcome q h reported =
      let run = reported.run in
      let yielded = chain_yields (DecodeStep encode need) Decoded (decoded_yields encode need) (λ result. result ≡ InputEmpty)
      (decoded_empty encode need) p src run.calls h run.chain in
      record {
        run = run;
        yielded = yielded;
        characters = WritesPrefix-same _ _ _ _ _ _ run.writes refl (yielded_output run.calls yielded.parts yielded.in_sequence);
        malformed = WritesPrefix-same _ _ _ _ _ _ reported.reports refl (yielded_places 0 run.calls yielded.parts yielded.in_sequence);
        at_most_three = pending_length q (subst IsPending (sym run.leaves) yielded.prefix.pending);
      }
