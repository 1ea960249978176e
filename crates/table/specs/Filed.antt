-- What stands in a lent table after a reading: the entries of some profiles, behind those that stood there, and the six numbers at the front.
-- What stands behind the entries is kept. Assumes nothing.
use Rattle.std.specs.Prelude.{ℕ, ◌+◌, ◌≡◌, List, [], ◌∷◌, ◌++◌, map, length, take, drop}
use Rattle.octets.specs.Octets.{splice}
use Rattle.reference.specs.declared.TypeIdRule.{TypeIdRule}
use Rattle.reference.specs.declared.Tap.{Tap}
use Rattle.reference.specs.declared.NameComponent.{NameComponent}
use Rattle.reference.specs.declared.LiteComponent.{LiteComponent}
use Rattle.reference.specs.declared.TaggedProfile.{TaggedProfile}
use Rattle.reference.specs.Meaning.{Profile, Reference, taps_of, names_of, extras_of, sum}
use Rattle.reference.specs.Layout.{layout_profile}
use Rattle.reference.specs.Used.{Used}
use Rattle.reference.specs.Placed.{placed, gathered, body_at, taps_at, names_at, extras_at, view, profiles_at}
use Rattle.table.specs.declared.Counts.{Counts}
use Rattle.table.specs.Region.{stored, rows}
use Rattle.table.specs.Flat.{profile_region, tap_region, name_region, extra_region, body_numbers, tap_numbers, name_numbers, extra_numbers, front_numbers, profiles_used, taps_used, names_used, extras_used}

-- entries of all sorts, of which the first profile is profile i, stored in the order of the regions
abbrev pub filed : List ℕ → ℕ → Counts → List TaggedProfile → List Tap → List NameComponent → List LiteComponent → List ℕ
filed t i u ps ts ns es = stored extra_region (stored name_region (stored tap_region (stored profile_region t i ps) u.taps ts) u.names ns) u.extras es

-- the counts after a profile
abbrev pub counts_after : Counts → Profile → Counts
counts_after u p = record { taps = u.taps + taps_of p; names = u.names + names_of p; extras = u.extras + extras_of p }

-- the entries of a profile, and of profiles, whose layout stands at an offset
abbrev pub profile_filed : ℕ → List ℕ → ℕ → Counts → Profile → List ℕ
profile_filed at t i u p = filed t i u (body_at at p ∷ []) (taps_at at p) (names_at at p) (extras_at at p)

abbrev pub profiles_filed : ℕ → List ℕ → ℕ → Counts → List Profile → List ℕ
profiles_filed at t i u l =
    filed t i u (placed body_at layout_profile at l) (gathered taps_at layout_profile at l) (gathered names_at layout_profile at l) (gathered extras_at layout_profile at l)

abbrev pub no_counts : Counts
no_counts = record { taps = 0; names = 0; extras = 0 }

-- a reference, read under the rule into the table t: its entries, then the six numbers at the front
abbrev pub reference_filed : TypeIdRule → List ℕ → Reference → List ℕ
reference_filed rule t m =
    splice (profiles_filed (profiles_at rule m) t 0 no_counts m.profiles) 0
    (front_numbers (view 4 m.type_id) (length m.profiles) (sum taps_of m.profiles) (sum names_of m.profiles) (sum extras_of m.profiles))

-- Of a table that held t, into which the entries u were filed, and that then held e: the six numbers at the front are the type id's view and how many
-- entries there are of each sort; the first entries of each region have the numbers of u's; and every other entry has the numbers that it had before.
pub record Files (t e : List ℕ) (u : Used) : Type 0 where
  pub front : take 6 e ≡ front_numbers u.type_id (length u.profiles) (length u.taps) (length u.names) (length u.extras)
  pub profiles : rows profile_region e ≡ map (λ p. body_numbers p.body) u.profiles ++ drop (length u.profiles) (rows profile_region t)
  pub taps : rows tap_region e ≡ map tap_numbers u.taps ++ drop (length u.taps) (rows tap_region t)
  pub names : rows name_region e ≡ map name_numbers u.names ++ drop (length u.names) (rows name_region t)
  pub extras : rows extra_region e ≡ map extra_numbers u.extras ++ drop (length u.extras) (rows extra_region t)

-- Two tables with the same six numbers at the front, and the same numbers in their used entries.
pub record SameEntries (t t' : List ℕ) : Type 0 where
  pub front : take 6 t ≡ take 6 t'
  pub profiles : take (profiles_used t) (rows profile_region t) ≡ take (profiles_used t) (rows profile_region t')
  pub taps : take (taps_used t) (rows tap_region t) ≡ take (taps_used t) (rows tap_region t')
  pub names : take (names_used t) (rows name_region t) ≡ take (names_used t) (rows name_region t')
  pub extras : take (extras_used t) (rows extra_region t) ≡ take (extras_used t) (rows extra_region t')
