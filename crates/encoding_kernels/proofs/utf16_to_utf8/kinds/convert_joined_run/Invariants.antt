use Rattle.std.proofs.Common.{◌≡◌, ℕ, ◌-◌, ◌<◌, length, take, drop}
use Rattle.encoding_kernels.specs.Utf8Output.{ConvertsDue}
use Rattle.encoding_kernels.proofs.utf16_to_utf8.kinds.convert_joined_run.Given as goal

abbrev pub invariant-loop-read : goal.invariant-loop-read
invariant-loop-read g l = record {
  converted : (s : ℕ) × ConvertsDue (g.S.CodeUnits.units l.src) l.initial.dst l.dst l.due l.read l.written s;
  room : l.read < l.end;
  loaded : l.units ≡ take 16 (drop l.read (g.S.CodeUnits.units l.src));
  kind : g.T.Block.takes_all l.units;
}

abbrev pub decreases-loop-read : goal.decreases-loop-read
decreases-loop-read g l = length (g.S.CodeUnits.units l.src) - l.read
