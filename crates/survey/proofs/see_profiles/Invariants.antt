use Prim.Native.Nat.{◌≤◌}
use Rattle.table.specs.Flat.{profile_region}
use Rattle.table.specs.Region.{entry}
use Rattle.survey.specs.Seen.{profile_seen}
use Rattle.survey.proofs.Seeing.{Seeing}
use Rattle.survey.proofs.see_profiles.Given as goal

-- `survey::see_profiles` meets its contract. Assumes nothing.
abbrev pub invariant-loop-i : goal.invariant-loop-i
invariant-loop-i l = (l.i ≤ l.used) × (l.used ≤ profile_region.size) × Seeing (λ k. profile_seen l.n l.t (entry profile_region k)) l.initial.all l.all l.i
