use Prim.Native.Nat.{ℕ, ◌≤◌}
use Rattle.reference.specs.Refusals.{Check}
use Rattle.table.specs.Region.{listed}
use Rattle.faults.specs.Each.{Tells}
use Rattle.faults.proofs.Going.{Checking}
use Rattle.faults.proofs.check_each.Given as goal

-- `faults::check_each` meets its contract. What has passed and what is left make the whole. Assumes nothing.
abbrev pub invariant-loop-i : goal.invariant-loop-i
invariant-loop-i g l = (l.i ≤ l.count) × ((f : ℕ → Check) → Tells (goal.F-post g l.check) l.count f → Checking f (listed l.count (λ i. i)) l.i)
