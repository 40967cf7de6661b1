use Rattle.std.proofs.Common.{◌≡◌, ◌+◌, ◌<◌, ◌^◌, ◌++◌, drop, length}
use Rattle.std.specs.Fmt.{decimal}
use Rattle.utf8_check_library.proofs.line.decimal_of.Given as goal

abbrev pub invariant-loop-rest : goal.invariant-loop-rest
invariant-loop-rest l = record {
  digits : decimal l.rest ++ drop (l.start + 1) l.text ≡ decimal l.number;
  within : l.start < 20;
  small : l.rest < 2 ^ 64;
  long : length l.text ≡ 20;
}

abbrev pub decreases-loop-rest : goal.decreases-loop-rest
decreases-loop-rest l = l.rest
