use Prim.Native.Nat.{◌*◌, ◌≤◌}
use mathlib.Core.Path.{◌≡◌}
use Rattle.table.specs.Flat.{profile_region, profiles_used}
use Rattle.faults.proofs.Short.{Passed}
use Rattle.faults.proofs.check_sizes.Given as goal

-- `faults::check_sizes` meets its contract. The profiles that have passed and those that are left make the whole. Assumes nothing.
abbrev pub invariant-loop-i : goal.invariant-loop-i
invariant-loop-i l = (l.i ≤ l.used) × (l.used ≡ profiles_used l.t) × (l.used ≤ profile_region.size) × (l.tap ≤ l.i * 0x100000000) × (l.extra ≤ l.i * 0x100000000) × Passed l.t l.tap l.extra l.i
