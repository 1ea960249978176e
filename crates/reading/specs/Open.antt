-- What the code of a reading tells, in the definition's words: a profile's header; what stands before the profiles, its type id's length and gap first;
-- what is checked behind them.
-- Assumes nothing.
use Rattle.std.specs.Prelude.{ℕ, ◌+◌, ◌-◌, ◌≤◌, ◌≡◌, Bool, true, false, List, eqb, length, Result, Ok, Err}
use Rattle.reference.specs.declared.TypeIdRule.{TypeIdRule}
use Rattle.reference.specs.declared.View.{View}
use Rattle.reference.specs.declared.Refusal.{Refusal}
use Rattle.reference.specs.Refusals.{Told, Check}
use Rattle.reference.specs.Meaning.{Reference}
use Rattle.octets.specs.Octets.{be, part}
use Rattle.reference.specs.Layout.{allowed, gap_length, gap}
use Rattle.reference.specs.Places.{place_reference_leftover, place_profiles, place_taps, place_names, place_extras}
use Rattle.reference.specs.Refusals.{left_at}
use Rattle.reference.specs.Steps.{Answer, ok, refused, pick}
use Rattle.reference.specs.Reader.{small, limit, read_gap, read_leading, read_whole}
use Rattle.reference.specs.Heads.{Header, Head, read_head}
use Rattle.reference.specs.Placed.{view}
use Rattle.reading.specs.declared.Opening.{Opening}

-- the header of a profile, which stands at pos
abbrev pub header_told : ℕ → Result (ℕ × ℕ) Refusal → Answer Header
header_told pos (Ok h) = ok (record { tag = h.0; size = h.1 }) (pos + 8)
header_told pos (Err x) = refused x

-- ---- what stands before the profiles: the type id, and how many profiles follow; 6 comes first

abbrev pub opening : TypeIdRule → List ℕ → Answer Head
opening rule d = small d (read_head rule d 0 (length d))

-- its type id has n octets, which the rule allows and d holds
pub record LengthKnown (rule : TypeIdRule) (d : List ℕ) (n : ℕ) : Type 0 where
  pub small : length d ≤ 65535
  pub room : 8 ≤ length d
  pub size : n ≡ be (part d 0 4)
  pub allowed : allowed rule n ≡ true
  pub fits : n ≤ length d - 4

abbrev pub LengthIn : TypeIdRule → List ℕ → Told → Type 0
LengthIn rule d (Ok n) = LengthKnown rule d n
LengthIn rule d (Err x) = opening rule d ≡ refused x

-- the gap at offset at, behind a type id of n octets
abbrev pub GapIn : TypeIdRule → ℕ → List ℕ → ℕ → Check → Type 0
GapIn rule n d at (Ok _) = (read_gap rule n d at (length d) ≡ ok (be (gap rule n)) (at + gap_length rule n)) × (at + gap_length rule n ≤ length d)
GapIn rule n d at (Err x) = read_gap rule n d at (length d) ≡ refused x

-- it was read from d under the rule: v shows the type id, and the profiles stand behind it and its gap, inside d
pub record Opens (rule : TypeIdRule) (d : List ℕ) (v : View) (count next : ℕ) : Type 0 where
  pub small : length d ≤ 65535
  pub inside : next ≤ length d
  pub id : List ℕ
  pub read : opening rule d ≡ ok (record { type_id = id; count = count }) next
  pub shown : v ≡ view 4 id
  pub behind : next ≡ 4 + length id + gap_length rule (length id) + 4

abbrev pub HeadIn : TypeIdRule → List ℕ → Result Opening Refusal → Type 0
HeadIn rule d (Ok o) = Opens rule d o.type_id o.count o.next
HeadIn rule d (Err x) = opening rule d ≡ refused x

-- ---- what is checked behind the profiles, before an answer: leftover octets, if the whole slice is read, and then 7 for the first table that is too
-- small

abbrev pub rooms : {A : Type 0} → ℕ → ℕ → ℕ → ℕ → Answer A → Answer A
rooms profiles taps names extras x = limit 8 place_profiles profiles (limit 36 place_taps taps (limit 32 place_names names (limit 32 place_extras extras x)))

unfoldable pub ends : {A : Type 0} → Bool → ℕ → ℕ → ℕ → ℕ → ℕ → ℕ → Answer A → Answer A
ends true next end profiles taps names extras x = pick (eqb next end) (rooms profiles taps names extras x) (refused (left_at place_reference_leftover next end))
ends false next end profiles taps names extras x = rooms profiles taps names extras x

-- a check that passes hands the answer on
abbrev pub passing : Check → {A : Type 0} → Answer A → Answer A
passing (Ok _) x = x
passing (Err y) x = refused y

-- ---- the two readings in one

abbrev pub read_as : TypeIdRule → Bool → List ℕ → Answer Reference
read_as rule true d = read_whole rule d
read_as rule false d = read_leading rule d
