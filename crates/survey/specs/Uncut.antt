-- What it means that no number of a lent table is cut: the entry that a row of numbers tells has these very numbers. Assumes nothing.
use Rattle.std.specs.Prelude.{ℕ, ◌<◌, min, ◌≡◌, cond, List, eqb, take, get_or}
use Rattle.octets.specs.Octets.{part}
use Rattle.table.specs.Flat.{tap_numbers, body_numbers, body_from, profile_region, tap_region, profiles_used, taps_used, tap_of_table}
use Rattle.table.specs.Region.{entry}

-- how many of a profile's numbers its sort names
abbrev pub named : ℕ → ℕ
named s = cond (eqb s 1) 9 (cond (eqb s 2) 10 4)

abbrev pub ProfileUncut : List ℕ → ℕ → Type 0
ProfileUncut t i =
    let k = entry profile_region i in
    let n = named (get_or t k 0) in
    take n (body_numbers (body_from t k)) ≡ part t k n

abbrev pub TapUncut : List ℕ → ℕ → Type 0
TapUncut t i = tap_numbers (tap_of_table t i) ≡ part t (entry tap_region i) tap_region.width

-- Each used profile, as far as its sort names numbers, and each used tap; views, tags and counts are as wide as the table's numbers, and so names and
-- extras are never cut.
pub record Uncut (t : List ℕ) : Type 0 where
  pub profiles : (i : ℕ) → i < min (profiles_used t) profile_region.size → ProfileUncut t i
  pub taps : (i : ℕ) → i < min (taps_used t) tap_region.size → TapUncut t i
