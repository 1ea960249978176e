-- What the readers' code tells, in the definition's words, and what they leave in a lent table. Of a refused reading the table is open: the
-- public reading clears it. Assumes nothing.
use Rattle.std.specs.Prelude.{ℕ, ◌≡◌, ◌+◌, ◌≤◌, List, length, Result, Ok, Err}
use Rattle.reference.specs.declared.NameComponent.{NameComponent}
use Rattle.reference.specs.declared.Refusal.{Refusal}
use Rattle.reference.specs.Refusals.{Told}
use Rattle.reference.specs.Meaning.{Tap, Name, Extra, Profile}
use Rattle.reference.specs.Layout.{layout_tap, layout_name, layout_extra}
use Rattle.reference.specs.Steps.{Answer, Reader, ok, refused, followed}
use Rattle.reference.specs.Placed.{view, placed, tap_at, name_at, extra_at}
use Rattle.table.specs.declared.Counts.{Counts}
use Rattle.table.specs.Region.{Region, stored}
use Rattle.table.specs.Flat.{tap_region, name_region, extra_region}
use Rattle.table.specs.Filed.{profile_filed, counts_after}

abbrev pub fixed_told : Told → Answer ℕ
fixed_told (Ok count) = ok count 2
fixed_told (Err x) = refused x

-- a component's header at pos, whose length has w octets: its data ends where it says
abbrev pub part_told : ℕ → ℕ → Told → Answer ℕ
part_told w pos (Ok stop) = ok stop (pos + (4 + w))
part_told w pos (Err x) = refused x

-- the views of a name at offset at, whose lengths have w octets
abbrev pub named_at : ℕ → ℕ → Name → NameComponent
named_at w at n = record { id = view (at + w) n.id; kind = view (at + (w + length n.id + w)) n.kind }

-- ---- a run of entries

-- an entry that is read ends behind its octets, and before the end
abbrev pub Moves : {A : Type 0} → Reader A → (A → List ℕ) → List ℕ → ℕ → ℕ → Type 0
Moves {A} r lay d pos end = (a : A) (next : ℕ) → r d pos end ≡ ok a next → (next ≤ end) × (next ≡ pos + length (lay a))

-- the table that is left, and how it ended
abbrev pub ended : {S : Type 0} → S → Told → Answer S
ended s (Ok next) = ok s next
ended s (Err x) = refused x

-- what is read is stored from entry k on, each with the offset where it stands
abbrev pub kept : {A E : Type 0} → Region E → (ℕ → A → E) → (A → List ℕ) → ℕ → List ℕ → ℕ → Answer (List A) → Answer (List ℕ)
kept g f lay at t k x = followed x (λ l next. ok (stored g t k (placed f lay at l)) next)

-- A reading x of entries was stored into t from entry k on, the first from offset at: that left e, and ended as v. A record, so that a
-- caller's proof has nothing to write out.
pub record Stores {A E : Type 0} (g : Region E) (f : ℕ → A → E) (lay : A → List ℕ) (at : ℕ) (t : List ℕ) (k : ℕ) (x : Answer (List A)) (e : List ℕ) (v : Told) : Type 0 where
  pub told : ended e v ≡ kept g f lay at t k x

abbrev pub StoresTaps : ℕ → List ℕ → ℕ → Answer (List Tap) → List ℕ → Told → Type 0
StoresTaps = Stores tap_region tap_at layout_tap

abbrev pub StoresNames : ℕ → List ℕ → ℕ → Answer (List Name) → List ℕ → Told → Type 0
StoresNames = Stores name_region name_at layout_name

abbrev pub StoresExtras : ℕ → List ℕ → ℕ → Answer (List Extra) → List ℕ → Told → Type 0
StoresExtras = Stores extra_region extra_at layout_extra

-- ---- a profile's body

-- the table, and how many entries of each sort are used
pub record Filled : Type 0 where
  pub table : List ℕ
  pub counts : Counts

-- n is where the data ends
abbrev pub body_told : ℕ → List ℕ → Result Counts Refusal → Answer Filled
body_told n e (Ok u) = ok (record { table = e; counts = u }) n
body_told n e (Err x) = refused x

-- the profile that was read becomes profile i of t; its header stands at offset at
abbrev pub body_kept : ℕ → List ℕ → ℕ → Counts → Answer Profile → Answer Filled
body_kept at t i u x = followed x (λ p next. ok (record { table = profile_filed at t i u p; counts = counts_after u p }) next)

-- A reading x of a profile's data, of n octets, was stored into t as profile i: that left e, and ended as v.
pub record StoresBody (at : ℕ) (t : List ℕ) (i : ℕ) (u : Counts) (x : Answer Profile) (n : ℕ) (e : List ℕ) (v : Result Counts Refusal) : Type 0 where
  pub told : body_told n e v ≡ body_kept at t i u x
