use Rattle.encoding_definitions.proofs.Latin1Lemmas.{latin1_text_prefix}
use Rattle.encoding_text.proofs.mem.checks.str_latin1_up_to.Goals as goal

pub returns : goal.returns
returns c =
    let value = c.as_bytes-bytes.ensures.value in
    let run = rw value at c.prefix_len_below.ensures in
    latin1_text_prefix c.args.buffer.now c.prefix_len_below.result c.utf8.buffer run.within run.below run.stops
