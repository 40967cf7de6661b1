use Rattle.std.proofs.Common.{◌+◌, ◌*◌, ap, get_or}
use Rattle.encoding_kernels.proofs.SignedLemmas.{same_comparison}
use Rattle.encoding_kernels.proofs.UniformLemmas.{respell, words_by, words_spell}
use Rattle.encoding_kernels.proofs.VectorLemmas.{bytes_of_sixteen}
use Rattle.encoding_kernels.proofs.utf16_to_utf8.two_byte.both_bytes.Goals as goal

pub returns-clause-bytes : goal.returns-clause-bytes
returns-clause-bytes c k l =
    let us = c.args.units in
    let same = same_comparison us c.fits-units.0 c.requires in
    respell (get_or us k 0) (ap (λ m. get_or (bytes_of_sixteen (words_by m us)) (2 * k) 0) same)
    (ap (λ m. get_or (bytes_of_sixteen (words_by m us)) (2 * k + 1) 0) same) (words_spell us c.fits-units.0 c.requires k l)
