use Rattle.std.proofs.Common.{◌≡◌, ◌-◌, length}
use Rattle.std.specs.Prelude.{IsTrue}
use denote.Param.{number}
use Rattle.encoding_kernels.specs.Utf8Output.{ConvertsDue}
use Rattle.encoding_kernels.specs.contracts.utf16_to_utf8.text.by_kinds.{RESTORES-type}
use Rattle.encoding_kernels.proofs.utf16_to_utf8.text.by_kinds.Given as goal

abbrev pub invariant-loop-read : goal.invariant-loop-read
invariant-loop-read g l = record {
  converted : ConvertsDue (g.S.CodeUnits.units l.src) l.initial.dst l.dst l.due l.read l.written l.spilled;
  restored : IsTrue (RESTORES-type (number g.row.RESTORES) (number g.row.RESTORES)) → l.due ≡ 0 → l.spilled ≡ 0;
}

abbrev pub decreases-loop-read : goal.decreases-loop-read
decreases-loop-read g l = length (g.S.CodeUnits.units l.src) - l.read
