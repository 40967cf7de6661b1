use Rattle.encoding_c.proofs.LengthLemmas.{latin1_fits_all}
use Rattle.encoding_c.proofs.latin1.encoding_text_mem_decode_latin1.Goals as goal

pub returns-clause-written : goal.returns-clause-written
returns-clause-written c fits =
    let call = c.convert_latin1_to_utf8_partial-written in
    let whole = latin1_fits_all c.args.src.now _ call.result.0 _ fits call.ensures.prefix in
    rw whole at call.ensures.written
