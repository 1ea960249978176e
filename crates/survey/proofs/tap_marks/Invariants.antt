use Prim.Native.Nat.{◌≤◌}
use mathlib.Core.Path.{◌≡◌}
use Rattle.table.specs.Flat.{tap_region}
use Rattle.survey.specs.Exact.{taps_exact}
use Rattle.survey.specs.Seen.{holds}
use Rattle.survey.proofs.tap_marks.Given as goal

-- `survey::tap_marks` meets its contract. Assumes nothing.
abbrev pub invariant-loop-i : goal.invariant-loop-i
invariant-loop-i l = (l.i ≤ l.count) × (l.count ≤ tap_region.size) × (holds l.fields ≡ taps_exact l.t l.i)
