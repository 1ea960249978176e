-- What a writer asks of an entry over a source of n octets, a run of octets behind its length, and a type id with its gap. Assumes nothing.
use Rattle.std.specs.Prelude.{ℕ, ◌+◌, ◌≤◌, List, [], ◌∷◌, length}
use Rattle.octets.specs.Octets.{octets, joined}
use Rattle.reference.specs.declared.TypeIdRule.{TypeIdRule}
use Rattle.reference.specs.declared.View.{View}
use Rattle.reference.specs.declared.Tap.{Tap}
use Rattle.reference.specs.declared.NameComponent.{NameComponent}
use Rattle.reference.specs.declared.LiteComponent.{LiteComponent}
use Rattle.reference.specs.declared.ObjectLocation.{ObjectLocation}
use Rattle.reference.specs.Layout.{gap}
use Rattle.reference.specs.Writer.{location_size}

-- octets behind their length, which has w octets
abbrev pub prefixed : ℕ → List ℕ → List ℕ
prefixed w l = joined (octets w (length l) ∷ l ∷ [])

-- a type id behind its length, with the rule's gap
abbrev pub gapped : TypeIdRule → List ℕ → List ℕ
gapped rule l = joined (octets 4 (length l) ∷ l ∷ gap rule (length l) ∷ [])

-- the view lies within the source
abbrev pub Within : ℕ → View → Type 0
Within n v = v.at + v.len ≤ n

-- what has a length of one octet fits it
pub record TapSound (n : ℕ) (t : Tap) : Type 0 where
  pub within : Within n t.selector
  pub short : t.selector.len ≤ 255

pub record NameSound (n : ℕ) (x : NameComponent) : Type 0 where
  pub id : Within n x.id
  pub kind : Within n x.kind

pub record ExtraSound (n : ℕ) (e : LiteComponent) : Type 0 where
  pub within : Within n e.«data»
  pub short : e.«data».len ≤ 255

pub record LocationSound (n : ℕ) (l : ObjectLocation) : Type 0 where
  pub within : Within n l.key
  pub short : location_size l ≤ 255
