use Rattle.std.proofs.Common.{◌∙◌, sym, subst, true, map, [], ◌++◌}
use Rattle.std.proofs.lemmas.List.{append-nil}
use Rattle.encoding_text.specs.Parts.{Character}
use Rattle.encoding_text.specs.Utf16Bytes.{bytes_of_scalars}
use Rattle.encoding_streams.specs.Utf16Parts.{StartsWithUtf16}
use Rattle.encoding_streams.proofs.Utf16LossyLemmas.{bytes_lossy}
use Rattle.encoding_streams.proofs.Utf16PartLemmas.{has_parts, same_parts, starts_bytes, starts_characters, starts_stay, parts_split, has_final}
use Rattle.encoding_streams.proofs.laws.law_utf16_parts.Goals as goal

pub returns-clause-exist : goal.returns-clause-exist
returns-clause-exist c = has_parts

pub returns-clause-one : goal.returns-clause-one
returns-clause-one c = same_parts

pub returns-clause-joined : goal.returns-clause-joined
returns-clause-joined c = λ order bs parts s. sym (starts_bytes order true bs parts [] s ∙ append-nil _)

pub returns-clause-characters : goal.returns-clause-characters
returns-clause-characters c = λ order cs h.
    subst (λ xs. StartsWithUtf16 order true xs (map Character cs) []) (append-nil (bytes_of_scalars order cs)) (starts_characters order true cs [] h)

pub returns-clause-final_exist : goal.returns-clause-final_exist
returns-clause-final_exist c = has_final

pub returns-clause-final_stay : goal.returns-clause-final_stay
returns-clause-final_stay c = λ order bs rest more parts all s h.
    let split = parts_split order true (bs ++ more) parts (rest ++ more) all (starts_stay order bs parts rest more true s) h in
    (split.0, split.1)

pub returns-clause-lossy : goal.returns-clause-lossy
returns-clause-lossy c = bytes_lossy
