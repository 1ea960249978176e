-- A type id as a number; and the first BIOP profile, found by the first numbers of a table's profiles.
-- Assumes nothing.
use Prim.Native.Nat.{ℕ, ◌+◌, ◌-◌, ◌<◌, ◌≤◌}
use mathlib.Core.Path.{◌≡◌, refl, sym, ap, ◌∙◌}
use mathlib.Core.Bool.{Bool, true, false}
use mathlib.Core.Logic.{◌≢◌}
use mathlib.Core.List.{List, ◌∷◌}
use native.Mathlib.Nat.{sub-zero}
use native.Mathlib.Numerals.{add-one}
use native.Mathlib.Omega.{arith}
use borrow.Author.Tests.{eq-eqb, ne_eqb}
use lib.Dec.{eqb}
use lib.ListN.{length, take, get_or}
use lib.Seq.{take_all}
use Rattle.octets.specs.Octets.{part, be}
use Rattle.octets.proofs.Part.{part_cons}
use Rattle.reference.specs.declared.Profile.{Profile as Entry}
use Rattle.reference.specs.Steps.{pick}
use Rattle.reference.specs.Refusals.{refusal}
use Rattle.reference.specs.Tabled.{no_profile}
use Rattle.std.specs.Prelude.{Some, None, Ok, Err}
use Rattle.reference.specs.Questions.{is_biop, first_from, first_biop}
use Rattle.reference.proofs.Asked.{picks_first, picks_second}
use Rattle.table.specs.Region.{entry}
use Rattle.table.specs.Flat.{tables_from, body_from, profile_region, profiles_used, profile_of_table, biop_from, lite_from, opaque_from}
use Rattle.table.proofs.Entries.{profiles_length, profile_entry}
use Rattle.table_entries.proofs.Sorts.{body_biop}
use Rattle.questions.proofs.Cases.{first_over, first_within}
use Rattle.ior_c.specs.Said.{type_number}

-- ---- a type id as a number

pub type_four : (l : List ℕ) → length l ≡ 4 → type_number l ≡ be (part l 0 4)
unfolding type_number
type_four l e = picks_first (eqb (length l) 4) (be l) 0 (eq-eqb (length l) 4 e) ∙ ap be (sym (take_all 4 l (omega arith)))

pub type_other : (l : List ℕ) → length l ≢ 4 → type_number l ≡ 0
unfolding type_number
type_other l h = picks_second (eqb (length l) 4) (be l) 0 (ne_eqb (length l) 4 h)

-- ---- the first BIOP profile

-- of the n used entries of l those from i on: a loop goes by what is left
module _ (l : List Entry) (n : ℕ) where
  abbrev pub ahead : ℕ → List Entry
  ahead i = part l i (n - i)

  first_start : first_from 0 (ahead 0) ≡ first_from 0 (take n l)
  first_start = ap (λ (k : ℕ). first_from 0 (take k l)) (sub-zero n)

  module _ (i : ℕ) where
    first_end : n ≤ i → first_from i (ahead i) ≡ None
    unfolding first_from
    first_end h = let e : n - i ≡ 0 = omega arith in ap (λ (k : ℕ). first_from i (part l i k)) e

    module _ (h : i < n) (k : n ≤ length l) where
      opens : ahead i ≡ get_or l i no_profile ∷ ahead (i + 1)
      opens = let e : n - i ≡ n - (i + 1) + 1 = omega arith in ap (part l i) e ∙ part_cons l i (n - (i + 1)) no_profile (omega arith)

      first_here : is_biop (get_or l i no_profile).body ≡ true → first_from i (ahead i) ≡ Some i
      unfolding first_from
      first_here e = ap (first_from i) opens ∙ picks_first _ _ _ e

      first_later : is_biop (get_or l i no_profile).body ≡ false → first_from i (ahead i) ≡ first_from (i + 1) (ahead (i + 1))
      unfolding first_from
      first_later e = ap (first_from i) opens ∙ picks_second _ _ _ e ∙ ap (λ (j : ℕ). first_from j (ahead (i + 1))) (sym (add-one i))

-- an entry is BIOP exactly if its first number is 1
not_biop_lem : (t : List ℕ) (k : ℕ) → get_or t k 0 ≢ 1 → is_biop (body_from t k) ≡ false
unfolding body_from
not_biop_lem t k h =
    ap (λ (b : Bool). is_biop (pick b (biop_from t k) (pick (eqb (get_or t k 0) 2) (lite_from t k) (opaque_from t k)))) (ne_eqb (get_or t k 0) 1 h) ∙ go (eqb (get_or t k 0) 2)
  where
    go : (b : Bool) → is_biop (pick b (lite_from t k) (opaque_from t k)) ≡ false
    go true = refl
    go false = refl

module _ (t : List ℕ) where
  -- a table's profiles
  abbrev profiles : List Entry
  profiles = (tables_from t).profiles

  -- what is left of the used ones at profile i
  abbrev pub left : ℕ → List Entry
  left i = ahead profiles (profiles_used t) i

  pub too_many : profile_region.size < profiles_used t → first_biop (tables_from t) ≡ Err (refusal 8 40 0 0)
  unfolding tables_from
  too_many h = first_over (tables_from t) h

  pub starts : profiles_used t ≤ profile_region.size → first_biop (tables_from t) ≡ Ok (first_from 0 (left 0))
  unfolding tables_from
  starts h = first_within (tables_from t) h ∙ ap Ok (sym (first_start profiles (profiles_used t)))

  module _ (i : ℕ) where
    pub ends : profiles_used t ≤ i → first_from i (left i) ≡ None
    ends h = first_end profiles (profiles_used t) i h

    module _ (h : i < profiles_used t) (k : profiles_used t ≤ profile_region.size) where
      long : profiles_used t ≤ length profiles
      long = omega (arith, profiles_length t)

      here : get_or profiles i no_profile ≡ profile_of_table t i
      here = profile_entry t i (omega arith)

      pub found : get_or t (entry profile_region i) 0 ≡ 1 → first_from i (left i) ≡ Some i
      found e = first_here profiles (profiles_used t) i h long (ap (λ (p : Entry). is_biop p.body) here ∙ ap is_biop (body_biop t _ e))

      pub passed : get_or t (entry profile_region i) 0 ≢ 1 → first_from i (left i) ≡ first_from (i + 1) (left (i + 1))
      passed n = first_later profiles (profiles_used t) i h long (ap (λ (p : Entry). is_biop p.body) here ∙ not_biop_lem t _ n)
