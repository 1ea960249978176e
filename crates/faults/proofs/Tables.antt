-- The used entries of a lent table, list by list; and what its used counts promise, once they pass. Assumes nothing.
use Prim.Native.Nat.{ℕ, ◌≤◌}
use mathlib.Core.Path.{◌≡◌}
use mathlib.Core.List.{List}
use Rattle.std.specs.Prelude.{Ok}
use Rattle.reference.specs.Writer.{counts_check}
use Rattle.reference.proofs.Agreeing as Counts
use Rattle.table.specs.Flat.{tables_from, tap_of_table, name_of_table, extra_of_table, profile_region, tap_region, name_region, extra_region, profiles_used, taps_used, names_used, extras_used, profile_of_table}
use Rattle.survey.specs.ByTable.{used_in}
use Rattle.faults.proofs.Listed.{Listed, first_listed}

module _ (t : List ℕ) where
  pub profiles_listed : profiles_used t ≤ profile_region.size → Listed (used_in t).profiles (profile_of_table t) (profiles_used t)
  unfolding tables_from
  profiles_listed h = first_listed (profile_of_table t) profile_region.size (profiles_used t) h

  pub taps_listed : taps_used t ≤ tap_region.size → Listed (used_in t).taps (tap_of_table t) (taps_used t)
  unfolding tables_from
  taps_listed h = first_listed (tap_of_table t) tap_region.size (taps_used t) h

  pub names_listed : names_used t ≤ name_region.size → Listed (used_in t).names (name_of_table t) (names_used t)
  unfolding tables_from
  names_listed h = first_listed (name_of_table t) name_region.size (names_used t) h

  pub extras_listed : extras_used t ≤ extra_region.size → Listed (used_in t).extras (extra_of_table t) (extras_used t)
  unfolding tables_from
  extras_listed h = first_listed (extra_of_table t) extra_region.size (extras_used t) h

-- used counts within the sizes, and equal to the sums
abbrev pub Agreeing : List ℕ → Type 0
Agreeing t = Counts.Agreeing (used_in t).profiles (profiles_used t) (taps_used t) (names_used t) (extras_used t)

pub agreeing : (t : List ℕ) → counts_check (tables_from t) ≡ Ok tt → Agreeing t
unfolding tables_from
agreeing t h = Counts.agreeing (tables_from t) h
