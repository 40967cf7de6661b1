use Rattle.std.proofs.Common.{◌≡◌, ◌*◌}
use Rattle.encoding_text.proofs.WholePrefixesLemmas.{AreOwn}
use Rattle.encoding_text.proofs.ascii.iso_2022_jp_ascii_valid_up_to.Given as goal

abbrev pub invariant-loop-stride : goal.invariant-loop-stride
invariant-loop-stride l = record { place : l.at ≡ l.stride-index * 16; own : AreOwn l.bytes l.at }

abbrev pub invariant-loop-i : goal.invariant-loop-i
invariant-loop-i l = AreOwn l.bytes l.i
