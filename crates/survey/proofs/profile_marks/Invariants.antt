use Prim.Native.Nat.{◌≤◌}
use mathlib.Core.Path.{◌≡◌}
use Rattle.table.specs.Flat.{profile_region}
use Rattle.survey.specs.Exact.{profiles_exact}
use Rattle.survey.specs.Seen.{holds}
use Rattle.survey.proofs.profile_marks.Given as goal

-- `survey::profile_marks` meets its contract. Assumes nothing.
abbrev pub invariant-loop-i : goal.invariant-loop-i
invariant-loop-i l = (l.i ≤ l.count) × (l.count ≤ profile_region.size) × (holds l.fields ≡ profiles_exact l.t l.i)
