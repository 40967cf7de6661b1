use Rattle.std.proofs.Common.{◌-◌, ◌≤◌, take, length}
use Rattle.encoding_definitions.specs.Prefixes.{WritesPrefix}
use Rattle.encoding_kernels.specs.Scans.{BelowUpTo}
use Rattle.encoding_kernels.specs.UnitBytes.{units_of}
use Rattle.encoding_kernels.proofs.UnitBytesLemmas.{Copied}
use Rattle.encoding_kernels.proofs.utf16.bytes.copy_ascii_units.Given as goal

abbrev pub invariant-loop-dst : goal.invariant-loop-dst
invariant-loop-dst l = record {
  within : l.at ≤ length l.dst;
  below : BelowUpTo 0x80 (units_of l.big l.src) l.at;
  copied : Copied l.fn.dst l.dst (units_of l.big l.src) l.at;
}

abbrev pub decreases-loop-dst : goal.decreases-loop-dst
decreases-loop-dst l = length l.dst - l.at

abbrev pub invariant-loop-dst-2 : goal.invariant-loop-dst-2
invariant-loop-dst-2 l = record {
  within : l.at ≤ length l.dst;
  below : BelowUpTo 0x80 (units_of l.big l.src) l.at;
  copied : Copied l.fn.dst l.dst (units_of l.big l.src) l.at;
}

abbrev pub decreases-loop-dst-2 : goal.decreases-loop-dst-2
decreases-loop-dst-2 l = length l.dst - l.at

abbrev pub invariant-loop-at : goal.invariant-loop-at
invariant-loop-at l = record {
  within : l.at ≤ length l.dst;
  below : BelowUpTo 0x80 (units_of l.big l.src) l.at;
  copied : WritesPrefix l.fn.dst l.dst l.at (take l.at (units_of l.big l.src));
}

abbrev pub decreases-loop-at : goal.decreases-loop-at
decreases-loop-at l = length l.dst - l.at
