use Prim.Native.Nat.{◌*◌, ◌≤◌}
use Rattle.octets.specs.Octets.{part}
use Rattle.reference.specs.Writer.{tap_size}
use Rattle.survey.specs.ByTable.{used_in}
use Rattle.faults.proofs.Going.{Summing}
use Rattle.faults.proofs.taps_size.Given as goal

-- `faults::taps_size` meets its contract. What is summed and what is left make the whole. Assumes nothing.
abbrev pub invariant-loop-i : goal.invariant-loop-i
invariant-loop-i l = (l.i ≤ l.count) × (l.total ≤ l.i * 0x200000000) × Summing tap_size (part (used_in l.t).taps l.first l.count) l.total l.i
