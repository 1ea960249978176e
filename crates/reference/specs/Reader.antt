-- What a reading answers, as a function on lists (document 01, "Refusals by number" and "Places"): the readers of each part, put together from
-- steps and nested as 01 nests the parts, with the Rust's checks in their order. The rule for type ids (document 02, No. 11) enters in `read_reference`
-- alone. 6 comes first; in the whole-slice reading leftover octets come last; then 7. Inside profile data the first two figures count from the start of
-- that data; the third, the offset in the caller's slice, is made by the steps, and no reader names it. Assumes nothing.
use Rattle.std.specs.Prelude.{ℕ, ◌+◌, ◌-◌, List, ltb, leb, eqb, length, Ok, Err}
use Rattle.octets.specs.Octets.{be}
use Rattle.reference.specs.declared.TypeIdRule.{TypeIdRule}
use Rattle.reference.specs.declared.Reading.{Reading}
use Rattle.reference.specs.Meaning.{Tap, Location, Extra, Biop, Address, Name, Service, Lite, Profile, biop, lite, opaque, Reference, taps_of, names_of, extras_of, sum}
use Rattle.reference.specs.Layout.{allowed, gap_length, gap, tag_biop, tag_lite, tag_location, tag_binder, tag_service}
use Rattle.reference.specs.Places.{place_reference_fixed, place_profile_count, place_profile_header, place_reference_leftover, place_biop_fixed, place_location_header, place_location_fixed, place_location_leftover, place_binder_header, place_tap_count, place_tap_fixed, place_binder_leftover, place_biop_extra, place_biop_leftover, place_lite_fixed, place_service_header, place_address_length, place_address, place_name_count, place_id_length, place_kind_length, place_context_length, place_service_leftover, place_lite_extra, place_lite_leftover, place_biop_order, place_location_tag, place_binder_tag, place_lite_order, place_service_tag, place_type_id_length, place_biop_components, place_lite_components, place_address_size, place_profiles, place_taps, place_names, place_extras, place_gap_value, place_gap}
use Rattle.reference.specs.Refusals.{refusal}
use Rattle.reference.specs.Steps.{Answer, ok, refused, Reader, pick, followed, done, need, number, checked, run, rest, choose, ending, within, fits, apart, many, after}
use Rattle.reference.specs.Tabled.{tabled, no_tables}
use Rattle.reference.specs.Placed.{tables_of}

-- ---- what the parts share

-- a count of w octets
unfoldable pub read_count : ℕ → ℕ → Reader ℕ
read_count w place = need w place (number w λ n. done n)

-- a length of w octets, and so many octets
unfoldable pub read_run : ℕ → ℕ → Reader (List ℕ)
read_run w place = need w place (number w λ n. run n λ s. done s)

-- a name whose lengths have w octets
unfoldable pub read_named : ℕ → ℕ → ℕ → Reader Name
read_named w id_place kind_place = after (read_run w id_place) λ i. after (read_run w kind_place) λ k. done (record { id = i; kind = k })

-- a component that bears the tag, or 3, and whose length has w octets; r reads its data, which ends where the length says
unfoldable pub component : {A : Type 0} → ℕ → ℕ → ℕ → ℕ → Reader A → Reader A
component w tag header wrong r = need (4 + w) header (checked 4 (λ t. eqb t tag) 3 wrong λ t. number w λ n. within n r)

-- order octet 00 and component count, at least so many
unfoldable pub read_fixed : ℕ → ℕ → ℕ → ℕ → Reader ℕ
read_fixed least place order range = need (1 + 1) place (checked 1 (λ o. eqb o 0) 3 order λ o. checked 1 (leb least) 4 range λ c. done c)

unfoldable pub read_extra : ℕ → Reader Extra
read_extra place = need (4 + 1) place (number 4 λ t. number 1 λ n. run n λ s. done (record { tag = t; bytes = s }))

-- ---- BIOP data

unfoldable pub read_tap : Reader Tap
read_tap =
    need (2 + 2 + 2 + 1) place_tap_fixed
    (number 2 λ i. number 2 λ u. number 2 λ a. number 1 λ n. run n λ s.
    done (record { id = i; uses = u; association = a; selector = s }))

unfoldable pub read_location : Reader Location
read_location =
    need (4 + 2 + 1 + 1 + 1) place_location_fixed
    (number 4 λ c. number 2 λ m. number 1 λ j. number 1 λ i. number 1 λ n. run n λ k.
    done (record { carousel = c; module_id = m; major = j; minor = i; key = k }))

unfoldable pub read_object_location : Reader Location
read_object_location = component 1 tag_location place_location_header place_location_tag (ending place_location_leftover read_location)

-- so many taps, which end their component
abbrev pub read_taps : ℕ → Reader (List Tap)
read_taps n = ending place_binder_leftover (many n read_tap)

unfoldable pub read_binder : Reader (List Tap)
read_binder = after (read_count 1 place_tap_count) λ n. read_taps n

abbrev pub read_biop_fixed : Reader ℕ
read_biop_fixed = read_fixed 2 place_biop_fixed place_biop_order place_biop_components

-- so many extras, which end the data
abbrev pub read_biop_extras : ℕ → Reader (List Extra)
read_biop_extras n = ending place_biop_leftover (many n (read_extra place_biop_extra))

unfoldable pub read_biop : Reader Biop
read_biop =
    after read_biop_fixed λ c.
    after read_object_location λ l.
    after (component 1 tag_binder place_binder_header place_binder_tag read_binder) λ t.
    after (read_biop_extras (c - 2)) λ e.
    done (record { location = l; taps = t; extras = e })

-- ---- LiteOptions data

unfoldable pub read_address : Reader Address
read_address =
    need (1 + 1 + 4 + 1 + 3 + 2 + 2 + 2 + 4) place_address
    (number 1 λ f. number 1 λ k. number 4 λ c. number 1 λ p. number 1 λ q. number 1 λ q1. number 1 λ q2. number 2 λ t. number 2 λ o. number 2 λ s. number 4 λ z.
    done (record { afi = f; kind = k; carousel = c; specifier_type = p; specifier0 = q; specifier1 = q1; specifier2 = q2; transport = t; network = o; service = s; reserved = z }))

unfoldable pub read_name : Reader Name
read_name = read_named 4 place_id_length place_kind_length

-- the context, which ends a ServiceLocation
unfoldable pub read_context : Reader (List ℕ)
read_context = ending place_service_leftover (read_run 4 place_context_length)

unfoldable pub read_service : Reader Service
read_service =
    need 1 place_address_length
    (checked 1 (λ n. eqb n 0x14) 4 place_address_size λ n.
    after read_address λ a.
    after (read_count 4 place_name_count) λ c.
    after (many c read_name) λ l.
    after read_context λ x.
    done (record { address = a; names = l; context = x }))

abbrev pub read_lite_fixed : Reader ℕ
read_lite_fixed = read_fixed 1 place_lite_fixed place_lite_order place_lite_components

abbrev pub read_lite_extras : ℕ → Reader (List Extra)
read_lite_extras n = ending place_lite_leftover (many n (read_extra place_lite_extra))

unfoldable pub read_lite : Reader Lite
read_lite =
    after read_lite_fixed λ c.
    after (component 4 tag_service place_service_header place_service_tag read_service) λ s.
    after (read_lite_extras (c - 1)) λ e.
    done (record { service = s; extras = e })

-- ---- a profile, whose data is a list of its own, and a reference

unfoldable pub read_body : ℕ → Reader Profile
read_body t =
    choose (eqb t tag_biop) (after read_biop λ b. done (biop b))
    (choose (eqb t tag_lite) (after read_lite λ l. done (lite l)) (rest λ s. done (opaque t s)))

unfoldable pub read_profile : Reader Profile
read_profile = need (4 + 4) place_profile_header (number 4 λ t. number 4 λ n. fits n (apart n (read_body t)))

-- ---- a reference

-- the gap behind a type id of n octets is one field: it must be there, or 1, and hold the number that octets FF write, or 3
unfoldable pub read_gap : TypeIdRule → ℕ → Reader ℕ
read_gap rule n = need (gap_length rule n) place_gap (checked (gap_length rule n) (λ v. eqb v (be (gap rule n))) 3 place_gap_value λ v. done v)

unfoldable pub read_reference : TypeIdRule → Reader Reference
read_reference rule =
    need (4 + 4) place_reference_fixed
    (checked 4 (allowed rule) 4 place_type_id_length λ n.
    run n λ i.
    after (read_gap rule n) λ g.
    after (read_count 4 place_profile_count) λ c.
    after (many c read_profile) λ l.
    done (record { type_id = i; profiles = l }))

-- ---- the whole: 6 first, 7 last

abbrev pub limit : {A : Type 0} → ℕ → ℕ → ℕ → Answer A → Answer A
limit size place n x = pick (ltb size n) (refused (refusal 7 place n size)) x

abbrev pub roomy : Reference → ℕ → Answer Reference
roomy m next =
    limit 8 place_profiles (length m.profiles)
    (limit 36 place_taps (sum taps_of m.profiles)
    (limit 32 place_names (sum names_of m.profiles)
    (limit 32 place_extras (sum extras_of m.profiles) (ok m next))))

-- 6 is for a list that is too long
abbrev pub small : {A : Type 0} → List ℕ → Answer A → Answer A
small d x = pick (ltb 65535 (length d)) (refused (refusal 6 0 (length d) 65535)) x

abbrev pub sized : List ℕ → Reader Reference → Answer Reference
sized d r = small d (followed (r d 0 (length d)) roomy)

-- a leading reference, and a whole slice, under the rule
unfoldable pub read_leading : TypeIdRule → List ℕ → Answer Reference
read_leading rule d = sized d (read_reference rule)

unfoldable pub read_whole : TypeIdRule → List ℕ → Answer Reference
read_whole rule d = sized d (ending place_reference_leftover (read_reference rule))

-- ---- what a reading answers: its tables, or the empty ones

abbrev pub answered : TypeIdRule → Answer Reference → Reading
answered rule (ok m n) = record { answer = Ok n; tables = tabled (tables_of rule m) }
answered rule (refused x) = record { answer = Err x; tables = no_tables }
