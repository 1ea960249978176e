use mathlib.Core.Path.{◌≡◌}
use Prim.Native.Nat.{◌≤◌}
use lib.ListN.{length}
use Rattle.reference.specs.Layout.{layout_profile}
use Rattle.reference.specs.Used.{owned_of}
use Rattle.reference.specs.Today.{profile_of}
use Rattle.reference.specs.Writer.{own_size}
use Rattle.table.specs.Flat.{tables_from}
use Rattle.survey.specs.ByTable.{used_in}
use Rattle.write_parts.proofs.Left.{Left}
use Rattle.write_bodies.specs.Own.{OwnSound}
use Rattle.writing.proofs.Walked.{left_at, Walked}
use Rattle.writing.proofs.write_profiles.Given as goal

-- what is left to put, profile by profile
abbrev pub invariant-loop-i : goal.invariant-loop-i
invariant-loop-i l =
    (l.i ≤ l.used) × (l.used ≡ (tables_from l.t).profiles_used) × Walked l.t l.i l.first
    × Left (profile_of l.src) layout_profile own_size (OwnSound (length l.src)) l.initial.out l.at (owned_of (used_in l.t)) (left_at l.t l.i l.first) l.out l.pos
