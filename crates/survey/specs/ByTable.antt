-- The octets of an image table by table, as one pass sums them: what a profile's entry stands for by itself, without its taps, names and extras.
-- Assumes nothing.
use Rattle.std.specs.Prelude.{ℕ, ◌+◌, List}
use Rattle.reference.specs.declared.TaggedProfile.{TaggedProfile}
use Rattle.reference.specs.declared.TaggedProfile.TheVariants as Sort
use Rattle.reference.specs.declared.Profile.{Profile as Entry}
use Rattle.reference.specs.Used.{Used, body_view}
use Rattle.reference.specs.Tabled.{used_of}
use Rattle.reference.specs.Meaning.{sum}
use Rattle.reference.specs.Writer.{tap_size, name_size, extra_size}
use Rattle.table.specs.Flat.{tables_from}

-- the octets of the fixed fields: the type id's length and the profile count; a tap's id, use, association and selector length; both lengths of a
-- name; an extra's tag and length
abbrev pub front_fixed : ℕ
front_fixed = 4 + 4

abbrev pub tap_fixed : ℕ
tap_fixed = 2 + 2 + 2 + 1

abbrev pub name_fixed : ℕ
name_fixed = 4 + 4

abbrev pub extra_fixed : ℕ
extra_fixed = 4 + 1

-- a profile's header; of BIOP also order octet and component count, ObjectLocation up to its key, ConnBinder up to its taps; of LiteOptions order octet
-- and component count, ServiceLocation's header, the address behind its length, name count and context length
abbrev pub opaque_fixed : ℕ
opaque_fixed = 4 + 4

abbrev pub biop_fixed : ℕ
biop_fixed = 8 + 2 + (5 + 4 + 2 + 2 + 1) + (5 + 1)

abbrev pub lite_fixed : ℕ
lite_fixed = 8 + 2 + 8 + (1 + 20) + 4 + 4

abbrev pub fixed_size : TaggedProfile → ℕ
fixed_size (Sort.Opaque t v) = opaque_fixed
fixed_size (Sort.Biop l nt ne) = biop_fixed
fixed_size (Sort.LiteOptions a nn c ne) = lite_fixed

-- .. with its key, its context or its data
abbrev pub body_octets : TaggedProfile → ℕ
body_octets b = fixed_size b + (body_view b).len

abbrev pub entry_size : Entry → ℕ
entry_size p = body_octets p.body

-- the used entries of a lent table
abbrev pub used_in : List ℕ → Used
used_in t = used_of (tables_from t)

-- the front, and then each table
abbrev pub octets_in : Used → ℕ
octets_in u =
    front_fixed + u.type_id.len + sum entry_size u.profiles + sum tap_size u.taps + sum name_size u.names + sum extra_size u.extras
