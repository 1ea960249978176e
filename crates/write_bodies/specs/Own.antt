-- The profiles of a lent table with their own entries, what their writers ask of them over a source of n octets, and what they put. Assumes nothing.
use Rattle.std.specs.Prelude.{ℕ, ◌≤◌, List, [], map}
use Rattle.octets.specs.Octets.{Each, part, joined}
use Rattle.octets.specs.Put.{Put}
use Rattle.reference.specs.declared.View.{View}
use Rattle.reference.specs.declared.Tap.{Tap}
use Rattle.reference.specs.declared.NameComponent.{NameComponent}
use Rattle.reference.specs.declared.LiteComponent.{LiteComponent}
use Rattle.reference.specs.declared.ObjectLocation.{ObjectLocation}
use Rattle.reference.specs.declared.NsapAddress.{NsapAddress}
use Rattle.reference.specs.declared.TaggedProfile.{TaggedProfile}
use Rattle.reference.specs.declared.TaggedProfile.TheVariants as Sort
use Rattle.reference.specs.Meaning.{Service, sum}
use Rattle.reference.specs.Layout.{data_of, layout_profile}
use Rattle.reference.specs.Used.{Own}
use Rattle.reference.specs.Contents.{shown, name_of}
use Rattle.reference.specs.Today.{address_of, profile_of}
use Rattle.reference.specs.Writer.{binder_size, body_size, own_size}
use Rattle.table.specs.Region.{Region, listed}
use Rattle.table.specs.Flat.{tables_from}
use Rattle.write_parts.specs.Sound.{Within, TapSound, NameSound, ExtraSound, LocationSound}

-- ---- the n entries of a table from a on

-- .. of the sort that stands in region g; `told` gives entry i
abbrev pub entries_on : {E : Type 0} → Region E → (List ℕ → ℕ → E) → List ℕ → ℕ → ℕ → List E
entries_on g told t a n = part (listed g.size (told t)) a n

abbrev pub taps_on : List ℕ → ℕ → ℕ → List Tap
taps_on t a n = part (tables_from t).taps a n

abbrev pub names_on : List ℕ → ℕ → ℕ → List NameComponent
names_on t a n = part (tables_from t).names a n

abbrev pub extras_on : List ℕ → ℕ → ℕ → List LiteComponent
extras_on t a n = part (tables_from t).extras a n

-- ---- a profile whose entries stand in the table t: nt taps from a on, nn names from a on, ne extras from b on

abbrev pub biop_on : List ℕ → ObjectLocation → ℕ → ℕ → ℕ → ℕ → Own
biop_on t l a nt b ne = record { body = Sort.Biop l nt ne; taps = taps_on t a nt; names = []; extras = extras_on t b ne }

abbrev pub lite_on : List ℕ → NsapAddress → View → ℕ → ℕ → ℕ → ℕ → Own
lite_on t x c a nn b ne = record { body = Sort.LiteOptions x nn c ne; taps = []; names = names_on t a nn; extras = extras_on t b ne }

abbrev pub opaque_on : ℕ → View → Own
opaque_on tag v = record { body = Sort.Opaque tag v; taps = []; names = []; extras = [] }

-- the ServiceLocation that the source s says
abbrev pub service_on : List ℕ → List ℕ → NsapAddress → View → ℕ → ℕ → Service
service_on s t x c a nn = record { address = address_of x; names = map (name_of s) (names_on t a nn); context = shown s c }

-- the octets of a profile's data
abbrev pub data_size : Own → ℕ
data_size o = body_size o.body o.taps o.names o.extras

-- ---- what the writers ask

pub record BinderSound (n : ℕ) (ts : List Tap) : Type 0 where
  pub taps : Each (TapSound n) ts
  pub short : binder_size ts ≤ 255

pub record BiopSound (n : ℕ) (l : ObjectLocation) (ts : List Tap) (es : List LiteComponent) : Type 0 where
  pub location : LocationSound n l
  pub binder : BinderSound n ts
  pub extras : Each (ExtraSound n) es

pub record ServiceSound (n : ℕ) (ns : List NameComponent) (c : View) : Type 0 where
  pub names : Each (NameSound n) ns
  pub context : Within n c

pub record LiteSound (n : ℕ) (ns : List NameComponent) (c : View) (es : List LiteComponent) : Type 0 where
  pub service : ServiceSound n ns c
  pub extras : Each (ExtraSound n) es

abbrev pub BodySound : ℕ → TaggedProfile → List Tap → List NameComponent → List LiteComponent → Type 0
BodySound n (Sort.Opaque t v) ts ns es = Within n v
BodySound n (Sort.Biop l nt ne) ts ns es = BiopSound n l ts es
BodySound n (Sort.LiteOptions a nn c ne) ts ns es = LiteSound n ns c es

pub record OwnSound (n : ℕ) (o : Own) : Type 0 where
  pub body : BodySound n o.body o.taps o.names o.extras
  pub small : data_size o ≤ 65535

-- ---- what was put into d from index at on, which gave e, up to r

-- the entries xs, which mean f; lay is what a meaning looks like, and g an entry's size
abbrev pub PutAll : {A B : Type 0} → (A → B) → (B → List ℕ) → (A → ℕ) → List ℕ → ℕ → List A → List ℕ → ℕ → Type 0
PutAll f lay g d at xs e r = Put d at (sum g xs) (joined (map lay (map f xs))) e r

-- the data of the profile o over the source s, and the whole profile
abbrev pub PutData : List ℕ → ℕ → List ℕ → Own → List ℕ → ℕ → Type 0
PutData d at s o e r = Put d at (data_size o) (data_of (profile_of s o)) e r

abbrev pub PutOwn : List ℕ → ℕ → List ℕ → Own → List ℕ → ℕ → Type 0
PutOwn d at s o e r = Put d at (own_size o) (layout_profile (profile_of s o)) e r
