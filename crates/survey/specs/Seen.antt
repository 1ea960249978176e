-- What one pass over a lent table finds. A mark is a number that stays below 65536 exactly if something holds. Assumes nothing.
use Rattle.std.specs.Prelude.{ℕ, zero, suc, ◌+◌, ◌-◌, ◌*◌, ◌/◌, ◌≤◌, min, ◌≡◌, Bool, true, false, List, ltb, eqb, Ok, Err}
use Rattle.std.specs.Int.Bits.{bit_or}
use Rattle.reference.specs.Refusals.{Check}
use Rattle.reference.specs.Steps.{pick}
use Rattle.reference.specs.Used.{taps_in, names_in, extras_in}
use Rattle.reference.specs.Writer.{counted, views_check}
use Rattle.table.specs.Flat.{view_from, sort_at, module_at, major_at, minor_at, key_at, biop_taps_at, biop_extras_at, specifier_at, transport_at, network_at, service_at, lite_names_at, context_at, lite_extras_at, data_at, tap_id_at, tap_use_at, association_at, selector_at, profile_region, tap_region, name_region, extra_region, profiles_used, taps_used, names_used, extras_used}
use Rattle.table.specs.Region.{entry}
use Rattle.survey.specs.declared.Survey.{Survey}
use Rattle.survey.specs.Exact.{exact}
use Rattle.survey.specs.ByTable.{front_fixed, tap_fixed, name_fixed, extra_fixed, opaque_fixed, biop_fixed, lite_fixed, used_in, octets_in}

-- what a mark marks holds; a check passes
abbrev pub holds : ℕ → Bool
holds mark = ltb mark 65536

abbrev pub passing : Check → Bool
passing (Ok _) = true
passing (Err r) = false

-- ---- what an entry adds, with a view at .. at + len over a source of n octets

-- a view by itself, and a tap, without their fixed fields
abbrev pub view_adds : (at len n : ℕ) → Survey
view_adds at len n = record { taps = 0; names = 0; extras = 0; octets = len; fields = 0; ends = at + len + (65535 - n) }

abbrev pub tap_adds : (id uses association at len n : ℕ) → Survey
tap_adds id uses association at len n =
    record { taps = 0; names = 0; extras = 0; octets = len; fields = bit_or (bit_or id uses) association; ends = at + len + (65535 - n) }

abbrev pub opaque_adds : (sort at len n : ℕ) → Survey
opaque_adds sort at len n = record { taps = 0; names = 0; extras = 0; octets = opaque_fixed + len; fields = sort * 65536; ends = at + len + (65535 - n) }

abbrev pub biop_adds : (module_id major minor at len taps extras n : ℕ) → Survey
biop_adds module_id major minor at len taps extras n =
    record {
      taps = taps;
      names = 0;
      extras = extras;
      octets = biop_fixed + len;
      fields = bit_or (bit_or module_id (major * 256)) (minor * 256);
      ends = at + len + (65535 - n);
    }

abbrev pub lite_adds : (specifier transport network service names at len extras n : ℕ) → Survey
lite_adds specifier transport network service names at len extras n =
    record {
      taps = 0;
      names = names;
      extras = extras;
      octets = lite_fixed + len;
      fields = bit_or (bit_or (bit_or (specifier / 256) transport) network) service;
      ends = at + len + (65535 - n);
    }

-- ---- .. whose numbers stand from k on

abbrev pub view_seen : ℕ → List ℕ → ℕ → Survey
view_seen n t k = view_adds (view_from t k).at (view_from t k).len n

abbrev pub tap_seen : ℕ → List ℕ → ℕ → Survey
tap_seen n t k = tap_adds (tap_id_at t k) (tap_use_at t k) (association_at t k) (selector_at t k).at (selector_at t k).len n

abbrev pub opaque_seen : ℕ → List ℕ → ℕ → Survey
opaque_seen n t k = opaque_adds (sort_at t k) (data_at t k).at (data_at t k).len n

abbrev pub biop_seen : ℕ → List ℕ → ℕ → Survey
biop_seen n t k = biop_adds (module_at t k) (major_at t k) (minor_at t k) (key_at t k).at (key_at t k).len (biop_taps_at t k) (biop_extras_at t k) n

abbrev pub lite_seen : ℕ → List ℕ → ℕ → Survey
lite_seen n t k =
    lite_adds (specifier_at t k) (transport_at t k) (network_at t k) (service_at t k) (lite_names_at t k) (context_at t k).at (context_at t k).len
    (lite_extras_at t k) n

unfoldable pub profile_seen : ℕ → List ℕ → ℕ → Survey
profile_seen n t k = pick (eqb (sort_at t k) 1) (biop_seen n t k) (pick (eqb (sort_at t k) 2) (lite_seen n t k) (opaque_seen n t k))

-- ---- together

-- where the first views of names and extras stand
abbrev pub name_view : ℕ
name_view = name_region.start

abbrev pub extra_view : ℕ
extra_view = extra_region.start + 1

abbrev pub added : Survey → Survey → Survey
added a b =
    record {
      taps = a.taps + b.taps;
      names = a.names + b.names;
      extras = a.extras + b.extras;
      octets = a.octets + b.octets;
      fields = bit_or a.fields b.fields;
      ends = bit_or a.ends b.ends;
    }

-- s, and then f 0, f 1, .., n of them
unfoldable pub all_seen : (ℕ → Survey) → ℕ → Survey → Survey
all_seen f zero s = s
all_seen f (suc n) s = added (all_seen f n s) (f n)

-- s, and the fixed fields of all entries of a table
abbrev pub with_fixed : Survey → ℕ → Survey
with_fixed s k =
    record { taps = s.taps; names = s.names; extras = s.extras; octets = s.octets + k; fields = s.fields; ends = s.ends }

-- the used entries of each table, with their fixed fields, behind s; a name has two views, one behind the other
abbrev pub profiles_seen : ℕ → List ℕ → Survey → Survey
profiles_seen n t s = all_seen (λ i. profile_seen n t (entry profile_region i)) (min (profiles_used t) profile_region.size) s

abbrev pub taps_seen : ℕ → List ℕ → Survey → Survey
taps_seen n t s = let used = min (taps_used t) tap_region.size in all_seen (λ i. tap_seen n t (entry tap_region i)) used (with_fixed s (tap_fixed * used))

abbrev pub names_seen : ℕ → List ℕ → Survey → Survey
names_seen n t s = let used = min (names_used t) name_region.size in all_seen (λ i. view_seen n t (name_view + 2 * i)) (2 * used) (with_fixed s (name_fixed * used))

abbrev pub extras_seen : ℕ → List ℕ → Survey → Survey
extras_seen n t s =
    let used = min (extras_used t) extra_region.size in
    all_seen (λ i. view_seen n t (extra_view + extra_region.width * i)) used (with_fixed s (extra_fixed * used))

-- all of them, behind the front
abbrev pub table_seen : ℕ → List ℕ → Survey
table_seen n t = extras_seen n t (names_seen n t (taps_seen n t (profiles_seen n t (with_fixed (view_seen n t 0) front_fixed))))

-- at most k entries, and at most k more than a: no sum comes near 2^64
abbrev pub Bounded : ℕ → Survey → Type 0
Bounded k s = (s.taps ≤ k * 0x200000000) × (s.names ≤ k * 0x200000000) × (s.extras ≤ k * 0x200000000) × (s.octets ≤ k * 0x200000000)

abbrev pub Grown : ℕ → Survey → Survey → Type 0
Grown k a s =
    (s.taps ≤ a.taps + k * 0x200000000) × (s.names ≤ a.names + k * 0x200000000) × (s.extras ≤ a.extras + k * 0x200000000)
    × (s.octets ≤ a.octets + k * 0x200000000)

-- the whole table: the sums of the used profiles' counts, the octets of the image's parts, far from 2^64, whether all fields fit and all views end within n octets
pub record Surveyed (n : ℕ) (t : List ℕ) (r : Survey) : Type 0 where
  pub taps : r.taps ≡ counted taps_in (used_in t).profiles
  pub names : r.names ≡ counted names_in (used_in t).profiles
  pub extras : r.extras ≡ counted extras_in (used_in t).profiles
  pub octets : r.octets ≡ octets_in (used_in t)
  pub bounded : r.octets ≤ 500 * 0x200000000
  pub fields : holds r.fields ≡ exact t
  pub ends : holds r.ends ≡ passing (views_check n (used_in t))
