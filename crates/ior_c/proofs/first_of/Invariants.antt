use Rattle.table.specs.Flat.{tables_from, profile_region, profiles_used}
use Rattle.reference.specs.Questions.{first_from, first_biop}
use Prim.Native.Nat.{◌≤◌}
use Rattle.ior_c.proofs.Answers.{left}
use mathlib.Core.Path.{◌≡◌}
use Rattle.std.specs.Prelude.{Ok}
use Rattle.ior_c.proofs.first_of.Given as goal

-- `ior_c::first_of` meets its contract. The invariant: what is left of the used profiles has the same first BIOP profile as all of them. Assumes nothing.
abbrev pub invariant-loop-i : goal.invariant-loop-i
invariant-loop-i l = (l.i ≤ l.used) × (l.used ≡ profiles_used l.table) × (l.used ≤ profile_region.size) × (first_biop (tables_from l.table) ≡ Ok (first_from l.i (left l.table l.i)))
