-- The tables that a lent table tells, entry by entry: how many there are, and entry k. Assumes nothing.
use Prim.Native.Nat.{ℕ, ◌<◌}
use mathlib.Core.Path.{◌≡◌, refl}
use mathlib.Core.List.{List}
use lib.ListN.{length, get_or}
use Rattle.reference.specs.Tabled.{no_profile, no_tap, no_name, no_extra}
use Rattle.table.specs.Flat.{view_from, profile_region, tap_region, name_region, extra_region, profiles_used, profile_of_table, tap_of_table, name_of_table, extra_of_table, tables_from}
use Rattle.table.proofs.Listed.{listed_length, listed_get}

module _ (t : List ℕ) where
  pub profiles_length : length (tables_from t).profiles ≡ profile_region.size
  unfolding tables_from
  profiles_length = listed_length _ (profile_of_table t)

  pub taps_length_lem : length (tables_from t).taps ≡ tap_region.size
  unfolding tables_from
  taps_length_lem = listed_length _ (tap_of_table t)

  pub names_length : length (tables_from t).names ≡ name_region.size
  unfolding tables_from
  names_length = listed_length _ (name_of_table t)

  pub extras_length : length (tables_from t).extras ≡ extra_region.size
  unfolding tables_from
  extras_length = listed_length _ (extra_of_table t)

  module _ (k : ℕ) where
    pub profile_entry : k < profile_region.size → get_or (tables_from t).profiles k no_profile ≡ profile_of_table t k
    unfolding tables_from
    profile_entry h = listed_get _ (profile_of_table t) k no_profile h

    pub tap_entry : k < tap_region.size → get_or (tables_from t).taps k no_tap ≡ tap_of_table t k
    unfolding tables_from
    tap_entry h = listed_get _ (tap_of_table t) k no_tap h

    pub name_entry : k < name_region.size → get_or (tables_from t).names k no_name ≡ name_of_table t k
    unfolding tables_from
    name_entry h = listed_get _ (name_of_table t) k no_name h

    pub extra_entry : k < extra_region.size → get_or (tables_from t).extras k no_extra ≡ extra_of_table t k
    unfolding tables_from
    extra_entry h = listed_get _ (extra_of_table t) k no_extra h

  -- the six numbers at the front
  pub type_id_entry : (tables_from t).type_id ≡ view_from t 0
  unfolding tables_from
  type_id_entry = refl

  pub profiles_used_lem : (tables_from t).profiles_used ≡ profiles_used t
  unfolding tables_from
  profiles_used_lem = refl
