use Rattle.std.specs.Char.Escape.{encode_utf16}
use Rattle.std.proofs.Common.{encode_utf8}
use Rattle.encoding_streams.proofs.Utf16ChainLemmas.{chain_yields}
use Rattle.encoding_streams.proofs.Utf16OneResultLemmas.{one_result}
use Rattle.encoding_streams.proofs.laws.law_utf16_calls.Goals as goal

pub returns-clause-utf16 : goal.returns-clause-utf16
returns-clause-utf16 c = λ order p b calls h k. chain_yields order encode_utf16 2 p b calls h k

pub returns-clause-utf8 : goal.returns-clause-utf8
returns-clause-utf8 c = λ order p b calls h k. chain_yields order encode_utf8 4 p b calls h k

pub returns-clause-one_utf16 : goal.returns-clause-one_utf16
returns-clause-one_utf16 c = λ order p src out other q after room read more last answer outcome h k.
    one_result order encode_utf16 2 p src last answer outcome read more out other q after h k

pub returns-clause-one_utf8 : goal.returns-clause-one_utf8
returns-clause-one_utf8 c = λ order p src out other q after room read more last answer outcome h k.
    one_result order encode_utf8 4 p src last answer outcome read more out other q after h k
