-- What the questions answer, for code to cite: a number's kind and the first BIOP profile, one equation for each case; and a DVB address, by its five
-- fields. Assumes nothing.
use Prim.Native.Nat.{ℕ, zero, suc, ◌+◌, ◌<◌, ◌≤◌}
use mathlib.Core.Path.{◌≡◌, refl, ap, ◌∙◌}
use mathlib.Core.Bool.{Bool, true, false, ◌&&◌, cond}
use mathlib.Core.List.{List, [], ◌∷◌, map}
use mathlib.Core.Logic.{◌≢◌}
use native.Mathlib.Numerals.{add-one}
use native.Mathlib.Omega.{arith}
use borrow.Author.Tests.{le-leb, lt-leb, eq-eqb, ne_eqb}
use Rattle.std.specs.Prelude.{Some, None, Ok, Err}
use Rattle.std.specs.List.{position_from}
use lib.Dec.{eqb}
use lib.ListN.{get_or-map, length, take, drop, get_or}
use lib.Seq.{drop-cons, take_all}
use Rattle.octets.specs.Octets.{part, be}
use Rattle.reference.specs.declared.Profile.{Profile as Entry}
use Rattle.reference.specs.declared.Tables.{Tables}
use Rattle.reference.specs.Places.{place_profiles}
use Rattle.reference.specs.Steps.{pick}
use Rattle.reference.specs.Refusals.{refusal}
use Rattle.reference.specs.declared.ObjectKind.{ObjectKind}
use Rattle.reference.specs.declared.ObjectKind.TheVariants.{Unknown}
use Rattle.reference.specs.Questions.{kinds, kind_among, tap_numbers_of, is_biop, first_from, first_biop, dvb_address}
use Rattle.reference.proofs.Asked.{picks_first, picks_second}

-- ---- the kind of a number

-- the octets of row i, as code has them in a table of octets alone
abbrev pub octets_at : List (List ℕ × ObjectKind) → ℕ → List ℕ
octets_at l i = get_or (map (λ r. r.0) l) i []

-- of a table of kinds the rows from i on: a search goes by what is left
module _ (l : List (List ℕ × ObjectKind)) (i n : ℕ) (h : i < length l) where
  opened : kind_among (drop i l) n ≡ pick (eqb n (be (octets_at l i))) (get_or l i ([], Unknown 0)).1 (kind_among (drop (i + 1) l) n)
  opened = rw (add-one, drop-cons l i ([], Unknown 0), get_or-map (λ r. r.0) l i ([], Unknown 0))

  pub kind_here : eqb n (be (octets_at l i)) ≡ true → kind_among (drop i l) n ≡ (get_or l i ([], Unknown 0)).1
  kind_here e = opened ∙ picks_first _ _ _ e

  pub kind_later : eqb n (be (octets_at l i)) ≡ false → kind_among (drop i l) n ≡ kind_among (drop (i + 1) l) n
  kind_later e = opened ∙ picks_second _ _ _ e

-- each of the five has four octets
pub fours : (d : List ℕ × ObjectKind) (i : ℕ) → i < 5 → length (get_or kinds i d).0 ≡ 4
fours d zero h = refl
fours d (suc zero) h = refl
fours d (suc (suc zero)) h = refl
fours d (suc (suc (suc zero))) h = refl
fours d (suc (suc (suc (suc zero)))) h = refl
fours d (suc (suc (suc (suc (suc i))))) h = absurd (omega arith)

-- of a table of kinds the rows from i on, each of four octets: a search goes by what is left
module _ (l : List (List ℕ × ObjectKind)) (d : List ℕ × ObjectKind) (i n : ℕ) (h : i < length l) (four : length (get_or l i d).0 ≡ 4) where
  abbrev row : List ℕ × ObjectKind
  row = get_or l i d

  row_opened : kind_among (drop i l) n ≡ pick (eqb n (be (part row.0 0 4))) row.1 (kind_among (drop (i + 1) l) n)
  row_opened = rw (add-one, drop-cons l i d, take_all 4 row.0 (omega arith))

  pub row_here : n ≡ be (part row.0 0 4) → kind_among (drop i l) n ≡ row.1
  row_here e = row_opened ∙ picks_first _ _ _ (eq-eqb _ _ e)

  pub row_later : n ≢ be (part row.0 0 4) → kind_among (drop i l) n ≡ kind_among (drop (i + 1) l) n
  row_later e = row_opened ∙ picks_second _ _ _ (ne_eqb _ _ e)

-- ---- the first BIOP profile

pub first_over : (t : Tables) → 8 < t.profiles_used → first_biop t ≡ Err (refusal 8 place_profiles 0 0)
unfolding first_biop
first_over t h = picks_second _ _ _ (lt-leb _ _ h)

pub first_within : (t : Tables) → t.profiles_used ≤ 8 → first_biop t ≡ Ok (first_from 0 (take t.profiles_used t.profiles))
unfolding first_biop
first_within t h = picks_first _ _ _ (le-leb _ _ h)

-- the first of a list by its place, as a search of the code tells it
abbrev pub biop : Entry → Bool
biop p = is_biop p.body

pub first_is : (l : List Entry) (i : ℕ) → position_from biop i l ≡ first_from i l
unfolding first_from
first_is [] i = refl
first_is (p ∷ l) i = go (biop p) (Some i) (first_is l (i + 1) ∙ ap (λ (j : ℕ). first_from j l) (add-one i))
  where
    go : {A : Type 0} (b : Bool) (x : A) {y z : A} → y ≡ z → cond b x y ≡ pick b x z
    go true x e = refl
    go false x e = e

-- ---- a tap's two numbers

module _ (uses : ℕ) (selector : List ℕ) where
  pub numbers_other : uses ≢ 0x16 → None ≡ tap_numbers_of uses selector
  unfolding tap_numbers_of
  numbers_other h = rw (ne_eqb _ _ h)

  pub numbers_short : uses ≡ 0x16 → length selector < 10 → None ≡ tap_numbers_of uses selector
  unfolding tap_numbers_of
  numbers_short e h = rw (eq-eqb _ _ e, lt-leb _ _ h)

  pub numbers_told : uses ≡ 0x16 → 10 ≤ length selector → {x y : ℕ} → x ≡ be (part selector 2 4) → y ≡ be (part selector 6 4)
      → Some (record { transaction = x; timeout = y }) ≡ tap_numbers_of uses selector
  unfolding tap_numbers_of
  numbers_told e h p q = rw (p, q, eq-eqb _ _ e, le-leb _ _ h)

-- ---- a DVB address

-- AFI, type, specifier type, specifier data and the reserved four, as they stand, and an answer that tests them
pub dvb_fields : (a : List ℕ) {f k p q z : ℕ} {r : Bool} → f ≡ be (part a 0 1) → k ≡ be (part a 1 1) → p ≡ be (part a 6 1) → q ≡ be (part a 7 3) → z ≡ be (part a 16 4)
    → r ≡ (eqb f 0x00 && (eqb k 0x00 && (eqb p 0x01 && (eqb q 0x00015A && eqb z 0xFFFFFFFF)))) → r ≡ dvb_address a
unfolding dvb_address
dvb_fields a ef ek ep eq ez er = er ∙ rw (ef, ek, ep, eq, ez)
