-- A table of numbers whose used entries hold no number wider than its field, and no unknown sort. Views, counts, tags and carousels are as wide as
-- the table's numbers and always fit. A profile and a tap are told by the index of their first number. Assumes nothing.
use Rattle.std.specs.Prelude.{ℕ, zero, suc, min, Bool, true, ◌&&◌, List, ltb, eqb}
use Rattle.reference.specs.Steps.{pick}
use Rattle.table.specs.Region.{entry}
use Rattle.table.specs.Flat.{sort_at, module_at, major_at, minor_at, specifier_at, transport_at, network_at, service_at, tap_id_at, tap_use_at, association_at, profile_region, tap_region, profiles_used, taps_used}

-- a BIOP profile: module below 2^16, major and minor version below 2^8
abbrev pub location_exact : List ℕ → ℕ → Bool
location_exact t k = ltb (module_at t k) 65536 && ltb (major_at t k) 256 && ltb (minor_at t k) 256

-- a LiteOptions profile: specifier below 2^24, transport stream, network and service below 2^16
abbrev pub address_exact : List ℕ → ℕ → Bool
address_exact t k =
    ltb (specifier_at t k) 16777216 && ltb (transport_at t k) 65536 && ltb (network_at t k) 65536 && ltb (service_at t k) 65536

-- a profile: its sort is 0, 1 or 2
unfoldable pub profile_exact : List ℕ → ℕ → Bool
profile_exact t k = pick (eqb (sort_at t k) 1) (location_exact t k) (pick (eqb (sort_at t k) 2) (address_exact t k) (eqb (sort_at t k) 0))

-- a tap: id, use and association below 2^16
abbrev pub tap_exact : List ℕ → ℕ → Bool
tap_exact t k = ltb (tap_id_at t k) 65536 && ltb (tap_use_at t k) 65536 && ltb (association_at t k) 65536

-- all entries before n
unfoldable pub every : (ℕ → Bool) → ℕ → Bool
every f zero = true
every f (suc n) = every f n && f n

abbrev pub profiles_exact : List ℕ → ℕ → Bool
profiles_exact t n = every (λ i. profile_exact t (entry profile_region i)) n

abbrev pub taps_exact : List ℕ → ℕ → Bool
taps_exact t n = every (λ i. tap_exact t (entry tap_region i)) n

-- the used profiles and taps, at most as many as the tables hold
unfoldable pub exact : List ℕ → Bool
exact t = profiles_exact t (min (profiles_used t) profile_region.size) && taps_exact t (min (taps_used t) tap_region.size)
