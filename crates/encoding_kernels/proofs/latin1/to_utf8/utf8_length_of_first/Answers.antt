use Rattle.std.proofs.Common.{◌*◌, ◌≤◌, sym, subst}
use Rattle.encoding_kernels.proofs.CodeUnitLemmas.{bytes_below}
use Rattle.encoding_kernels.proofs.Latin1ToUtf8Lemmas.{latin_first_long, latin_first_most}
use Rattle.encoding_kernels.proofs.latin1.to_utf8.utf8_length_of_first.Goals as goal

pub returns : goal.returns
returns c =
    let long = c.fits-block.0 in
    let small = bytes_below c.args.block long c.fits-block.1 in
    let count = latin_first_long c.args.block c.mask_of_others.result c.args.count long small c.mask_of_others.ensures c.requires in
    record {
      out_length = count;
      length_bound = subst (λ n. n ≤ 2 * c.args.count) (sym count) (latin_first_most c.args.block c.args.count long small c.requires);
    }
