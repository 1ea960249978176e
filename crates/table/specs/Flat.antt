-- The flat table: tables as 490 numbers (what firmware exchanges with the library), both ways. 0, 1 are the type id's view; 2 to 5 the used
-- counts; profiles from 6 on, 10 numbers each, the first its sort; taps from 86, 5 each; names from 266, 4 each; extras from 394, 3 each.
-- Which number is what stands here and nowhere else. Assumes nothing.
use Rattle.std.specs.Prelude.{ℕ, ◌+◌, ◌*◌, ◌/◌, ◌%◌, ◌≡◌, refl, List, [], ◌∷◌, map, eqb, length, get_or}
use Rattle.octets.specs.Octets.{joined}
use Rattle.reference.specs.declared.View.{View}
use Rattle.reference.specs.declared.Tap.{Tap}
use Rattle.reference.specs.declared.NameComponent.{NameComponent}
use Rattle.reference.specs.declared.LiteComponent.{LiteComponent}
use Rattle.reference.specs.declared.ObjectLocation.{ObjectLocation}
use Rattle.reference.specs.declared.NsapAddress.{NsapAddress}
use Rattle.reference.specs.declared.TaggedProfile.{TaggedProfile}
use Rattle.reference.specs.declared.TaggedProfile.TheVariants as Sort
use Rattle.reference.specs.declared.Profile.{Profile}
use Rattle.reference.specs.declared.Tables.{Tables}
use Rattle.reference.specs.Steps.{pick}
use Rattle.table.specs.Region.{Region, entry, past, listed}

-- ---- the numbers of each sort of entry

abbrev pub tap_numbers : Tap → List ℕ
tap_numbers t = t.id ∷ t.use_ ∷ t.association ∷ t.selector.at ∷ t.selector.len ∷ []

abbrev pub name_numbers : NameComponent → List ℕ
name_numbers n = n.id.at ∷ n.id.len ∷ n.kind.at ∷ n.kind.len ∷ []

abbrev pub extra_numbers : LiteComponent → List ℕ
extra_numbers e = e.tag ∷ e.«data».at ∷ e.«data».len ∷ []

-- a profile: its sort first (0 opaque, 1 BIOP, 2 LiteOptions); what is not named is 0
abbrev pub body_numbers : TaggedProfile → List ℕ
body_numbers (Sort.Opaque t v) = 0 ∷ t ∷ v.at ∷ v.len ∷ 0 ∷ 0 ∷ 0 ∷ 0 ∷ 0 ∷ 0 ∷ []
body_numbers (Sort.Biop l nt ne) =
    1 ∷ l.carousel ∷ l.«module» ∷ l.version_major ∷ l.version_minor ∷ l.key.at ∷ l.key.len ∷ nt ∷ ne ∷ 0 ∷ []
body_numbers (Sort.LiteOptions a nn c ne) =
    2 ∷ a.carousel ∷ (a.specifier0 * 65536 + a.specifier1 * 256 + a.specifier2) ∷ a.transport_stream ∷ a.original_network ∷ a.service ∷ nn ∷ c.at ∷ c.len ∷ ne ∷ []

pub body_wide : (b : TaggedProfile) → length (body_numbers b) ≡ 10
body_wide (Sort.Opaque t v) = refl
body_wide (Sort.Biop l nt ne) = refl
body_wide (Sort.LiteOptions a nn c ne) = refl

-- ---- where they stand: behind the front, sort by sort

abbrev pub profile_region : Region TaggedProfile
profile_region = record { start = 6; width = 10; size = 8; numbers = body_numbers; wide = body_wide }

abbrev pub tap_region : Region Tap
tap_region = record { start = past profile_region; width = 5; size = 36; numbers = tap_numbers; wide = λ x. refl }

abbrev pub name_region : Region NameComponent
name_region = record { start = past tap_region; width = 4; size = 32; numbers = name_numbers; wide = λ x. refl }

abbrev pub extra_region : Region LiteComponent
extra_region = record { start = past name_region; width = 3; size = 32; numbers = extra_numbers; wide = λ x. refl }

-- a table that is lent
abbrev pub table_size : ℕ
table_size = past extra_region

abbrev pub Lent : List ℕ → Type 0
Lent t = length t ≡ table_size

-- the used counts
abbrev pub profiles_used : List ℕ → ℕ
profiles_used t = get_or t 2 0

abbrev pub taps_used : List ℕ → ℕ
taps_used t = get_or t 3 0

abbrev pub names_used : List ℕ → ℕ
names_used t = get_or t 4 0

abbrev pub extras_used : List ℕ → ℕ
extras_used t = get_or t 5 0

-- ---- the numbers of the entry that stands from k on

-- the view whose two numbers stand at i and j
abbrev pub view_at : List ℕ → ℕ → ℕ → View
view_at t i j = record { at = get_or t i 0; len = get_or t j 0 }

abbrev pub view_from : List ℕ → ℕ → View
view_from t k = view_at t k (k + 1)

-- a tap
abbrev pub tap_id_at : List ℕ → ℕ → ℕ
tap_id_at t k = get_or t k 0

abbrev pub tap_use_at : List ℕ → ℕ → ℕ
tap_use_at t k = get_or t (k + 1) 0

abbrev pub association_at : List ℕ → ℕ → ℕ
association_at t k = get_or t (k + 2) 0

abbrev pub selector_at : List ℕ → ℕ → View
selector_at t k = view_at t (k + 3) (k + 4)

-- a profile, whose other numbers are named by its sort
abbrev pub sort_at : List ℕ → ℕ → ℕ
sort_at t k = get_or t k 0

abbrev pub carousel_at : List ℕ → ℕ → ℕ
carousel_at t k = get_or t (k + 1) 0

-- .. of BIOP
abbrev pub module_at : List ℕ → ℕ → ℕ
module_at t k = get_or t (k + 2) 0

abbrev pub major_at : List ℕ → ℕ → ℕ
major_at t k = get_or t (k + 3) 0

abbrev pub minor_at : List ℕ → ℕ → ℕ
minor_at t k = get_or t (k + 4) 0

abbrev pub key_at : List ℕ → ℕ → View
key_at t k = view_at t (k + 5) (k + 6)

abbrev pub biop_taps_at : List ℕ → ℕ → ℕ
biop_taps_at t k = get_or t (k + 7) 0

abbrev pub biop_extras_at : List ℕ → ℕ → ℕ
biop_extras_at t k = get_or t (k + 8) 0

-- .. of LiteOptions
abbrev pub specifier_at : List ℕ → ℕ → ℕ
specifier_at t k = get_or t (k + 2) 0

abbrev pub transport_at : List ℕ → ℕ → ℕ
transport_at t k = get_or t (k + 3) 0

abbrev pub network_at : List ℕ → ℕ → ℕ
network_at t k = get_or t (k + 4) 0

abbrev pub service_at : List ℕ → ℕ → ℕ
service_at t k = get_or t (k + 5) 0

abbrev pub lite_names_at : List ℕ → ℕ → ℕ
lite_names_at t k = get_or t (k + 6) 0

abbrev pub context_at : List ℕ → ℕ → View
context_at t k = view_at t (k + 7) (k + 8)

abbrev pub lite_extras_at : List ℕ → ℕ → ℕ
lite_extras_at t k = get_or t (k + 9) 0

-- .. of an opaque one
abbrev pub tag_at : List ℕ → ℕ → ℕ
tag_at t k = get_or t (k + 1) 0

abbrev pub data_at : List ℕ → ℕ → View
data_at t k = view_at t (k + 2) (k + 3)

-- ---- the entry that they tell; of a number wider than its field the low bits count

abbrev pub tap_from : List ℕ → ℕ → Tap
tap_from t k =
    record { id = tap_id_at t k % 65536; use_ = tap_use_at t k % 65536; association = association_at t k % 65536; selector = selector_at t k }

abbrev pub name_from : List ℕ → ℕ → NameComponent
name_from t k = record { id = view_at t k (k + 1); kind = view_at t (k + 2) (k + 3) }

abbrev pub extra_from : List ℕ → ℕ → LiteComponent
extra_from t k = record { tag = get_or t k 0; «data» = view_at t (k + 1) (k + 2) }

abbrev pub location_from : List ℕ → ℕ → ObjectLocation
location_from t k =
    record {
      carousel = carousel_at t k;
      «module» = module_at t k % 65536;
      version_major = major_at t k % 256;
      version_minor = minor_at t k % 256;
      key = key_at t k;
    }

abbrev pub address_from : List ℕ → ℕ → NsapAddress
address_from t k =
    record {
      carousel = carousel_at t k;
      specifier0 = specifier_at t k / 65536 % 256;
      specifier1 = specifier_at t k / 256 % 256;
      specifier2 = specifier_at t k % 256;
      transport_stream = transport_at t k % 65536;
      original_network = network_at t k % 65536;
      service = service_at t k % 65536;
    }

abbrev pub biop_from : List ℕ → ℕ → TaggedProfile
biop_from t k = Sort.Biop (location_from t k) (biop_taps_at t k) (biop_extras_at t k)

abbrev pub lite_from : List ℕ → ℕ → TaggedProfile
lite_from t k = Sort.LiteOptions (address_from t k) (lite_names_at t k) (context_at t k) (lite_extras_at t k)

abbrev pub opaque_from : List ℕ → ℕ → TaggedProfile
opaque_from t k = Sort.Opaque (tag_at t k) (data_at t k)

-- any sort but 1 and 2 is opaque
unfoldable pub body_from : List ℕ → ℕ → TaggedProfile
body_from t k = pick (eqb (sort_at t k) 1) (biop_from t k) (pick (eqb (sort_at t k) 2) (lite_from t k) (opaque_from t k))

abbrev pub profile_from : List ℕ → ℕ → Profile
profile_from t k = record { body = body_from t k }

-- ---- entry i of a table

abbrev pub body_of_table : List ℕ → ℕ → TaggedProfile
body_of_table t i = body_from t (entry profile_region i)

abbrev pub profile_of_table : List ℕ → ℕ → Profile
profile_of_table t i = profile_from t (entry profile_region i)

abbrev pub tap_of_table : List ℕ → ℕ → Tap
tap_of_table t i = tap_from t (entry tap_region i)

abbrev pub name_of_table : List ℕ → ℕ → NameComponent
name_of_table t i = name_from t (entry name_region i)

abbrev pub extra_of_table : List ℕ → ℕ → LiteComponent
extra_of_table t i = extra_from t (entry extra_region i)

-- ---- the whole table, both ways

unfoldable pub tables_from : List ℕ → Tables
tables_from t =
    record {
      type_id = view_from t 0;
      profiles_used = profiles_used t;
      taps_used = taps_used t;
      names_used = names_used t;
      extras_used = extras_used t;
      profiles = listed profile_region.size (profile_of_table t);
      taps = listed tap_region.size (tap_of_table t);
      names = listed name_region.size (name_of_table t);
      extras = listed extra_region.size (extra_of_table t);
    }

-- what is stored of profiles
abbrev pub bodies : List Profile → List TaggedProfile
bodies l = map (λ p. p.body) l

-- the six numbers at the front
abbrev pub front_numbers : View → ℕ → ℕ → ℕ → ℕ → List ℕ
front_numbers v np nt nn ne = v.at ∷ v.len ∷ np ∷ nt ∷ nn ∷ ne ∷ []

unfoldable pub flat : Tables → List ℕ
flat t =
    joined
    (front_numbers t.type_id t.profiles_used t.taps_used t.names_used t.extras_used
    ∷ joined (map (λ p. body_numbers p.body) t.profiles)
    ∷ joined (map tap_numbers t.taps)
    ∷ joined (map name_numbers t.names)
    ∷ joined (map extra_numbers t.extras)
    ∷ [])
