-- Where a reading broke (document 02, No. 3 and No. 11): what is promised of the third figure of a refusal. The theorems stand in proofs/. Assumes nothing.
use Rattle.std.specs.Prelude.{ℕ, ◌+◌, ◌≤◌, ◌≡◌, Bool, true, not, List, [], ◌∷◌, length, take, T, leb, eqb}
use Rattle.octets.specs.Octets.{part, be}
use Rattle.reference.specs.declared.TypeIdRule.{TypeIdRule}
use Rattle.reference.specs.declared.Refusal.{Refusal}
use Rattle.reference.specs.Layout.{allowed, gap_length, gap, tag_location, tag_binder, tag_service}
use Rattle.reference.specs.Places.{place_biop_order, place_location_tag, place_binder_tag, place_lite_order, place_service_tag, place_type_id_length, place_biop_components, place_lite_components, place_address_size, place_gap_value}
use Rattle.reference.specs.Steps.{pick}
use Rattle.reference.specs.Checks.{Among}

-- a field whose value can be wrong (3, 4): how many octets it has, and what the number that they write must be
pub record Field : Type 0 where
  pub width : ℕ
  pub must : ℕ → Bool

-- the nine of 01, in its order of places, and the rule's gap, behind a type id of n octets
abbrev pub fields : TypeIdRule → ℕ → List (ℕ × Field)
fields rule n =
    (place_biop_order, record { width = 1; must = λ v. eqb v 0 })
    ∷ (place_location_tag, record { width = 4; must = λ v. eqb v tag_location })
    ∷ (place_binder_tag, record { width = 4; must = λ v. eqb v tag_binder })
    ∷ (place_lite_order, record { width = 1; must = λ v. eqb v 0 })
    ∷ (place_service_tag, record { width = 4; must = λ v. eqb v tag_service })
    ∷ (place_type_id_length, record { width = 4; must = allowed rule })
    ∷ (place_biop_components, record { width = 1; must = leb 2 })
    ∷ (place_lite_components, record { width = 1; must = leb 1 })
    ∷ (place_address_size, record { width = 1; must = λ v. eqb v 0x14 })
    ∷ (place_gap_value, record { width = gap_length rule n; must = λ v. eqb v (be (gap rule n)) })
    ∷ []

-- the one that a place names; any other place names no octet, and no number is wrong there
abbrev pub field_among : List (ℕ × Field) → ℕ → Field
field_among [] place = record { width = 0; must = λ v. true }
field_among ((p, f) ∷ rest) place = pick (eqb place p) f (field_among rest place)

-- in d, whose first four octets are the length of its type id
abbrev pub field_in : TypeIdRule → List ℕ → ℕ → Field
field_in rule d = field_among (fields rule (be (part d 0 4)))

abbrev pub width_in : TypeIdRule → List ℕ → ℕ → ℕ
width_in rule d place = (field_in rule d place).width

-- The third figure of a reading of d under the rule that is refused with x: an octet of d, or its end. Where a value is wrong, the whole field lies within
-- d, and the number that stands there is not what it must be. 6 and 7 name no octet.
pub record Points (rule : TypeIdRule) (d : List ℕ) (x : Refusal) : Type 0 where
  pub inside : x.offset ≤ length d
  pub field : Among x.number (3 ∷ 4 ∷ []) → x.offset + width_in rule d x.place ≤ length d
  pub wrong : Among x.number (3 ∷ 4 ∷ []) → T (not ((field_in rule d x.place).must (be (part d x.offset (width_in rule d x.place)))))
  pub none : Among x.number (6 ∷ 7 ∷ []) → x.offset ≡ 0

-- e is a slice, not shorter than d, that agrees with d up to the end of the field that x blames.
pub record Alike (rule : TypeIdRule) (d e : List ℕ) (x : Refusal) : Type 0 where
  pub long : length d ≤ length e
  pub small : length e ≤ 65535
  pub same : take (x.offset + width_in rule d x.place) e ≡ take (x.offset + width_in rule d x.place) d
