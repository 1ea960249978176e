-- Tables with the same front and the same numbers in their used entries tell the same used counts and used entries. Assumes nothing.
use Prim.Native.Nat.{ℕ, zero, suc, ◌<◌}
use mathlib.Core.Path.{◌≡◌, refl, sym, ap, ap₂, ◌∙◌}
use mathlib.Core.List.{List, [], ◌∷◌, map}
use native.Mathlib.Omega.{arith}
use lib.ListN.{take, get_or}
use lib.Seq.{get_or-take}
use Rattle.octets.specs.Octets.{part}
use Rattle.reference.specs.Promises.{SameUsed}
use Rattle.table.specs.Region.{Region, entry, listed, rows}
use Rattle.table.specs.Flat.{profile_region, tap_region, name_region, extra_region, tap_from, name_from, extra_from, tables_from, profile_from}
use Rattle.table.specs.Filed.{SameEntries}
use Rattle.table.proofs.Near.{tap_near, name_near, extra_near, profile_near}
use Rattle.table.proofs.Rows.{told_rows}

take_map : {A B : Type 0} (f : A → B) (k : ℕ) (l : List A) → take k (map f l) ≡ map f (take k l)
take_map f zero l = refl
take_map f (suc k) [] = refl
take_map {B = B} f (suc k) (x ∷ l) = ap (λ (r : List B). f x ∷ r) (take_map f k l)

module _ (t t' : List ℕ) (h : SameEntries t t') where
  -- number k of the front
  pub same_front : (k : ℕ) → k < 6 → get_or t k 0 ≡ get_or t' k 0
  same_front k l = sym (get_or-take 6 t k 0 l) ∙ ap (λ (x : List ℕ). get_or x k 0) h.front ∙ get_or-take 6 t' k 0 l

  -- the used entries of a region, told of their numbers
  told_alike : {E F : Type 0} (g : Region E) (from : List ℕ → ℕ → F) → ((t : List ℕ) (k : ℕ) → from (part t k g.width) 0 ≡ from t k)
      → (n n' : ℕ) → n ≡ n' → take n (rows g t) ≡ take n (rows g t') → take n (listed g.size (λ i. from t (entry g i))) ≡ take n' (listed g.size (λ i. from t' (entry g i)))
  told_alike {F = F} g from near n n' same e =
      let told : List ℕ → F = λ r. from r 0 in
      ap (take n) (told_rows g from near t)
      ∙ take_map told n (rows g t)
      ∙ ap (map told) e
      ∙ sym (take_map told n (rows g t'))
      ∙ ap₂ (λ (k : ℕ) (l : List F). take k l) same (sym (told_rows g from near t'))

  pub same_used : SameUsed (tables_from t) (tables_from t')
  unfolding tables_from
  same_used =
      let at0 = same_front 0 (omega arith) in
      let at1 = same_front 1 (omega arith) in
      let np = same_front 2 (omega arith) in
      let nt = same_front 3 (omega arith) in
      let nn = same_front 4 (omega arith) in
      let ne = same_front 5 (omega arith) in
      let p = told_alike profile_region profile_from profile_near _ _ np h.profiles in
      let a = told_alike tap_region tap_from tap_near _ _ nt h.taps in
      let n = told_alike name_region name_from name_near _ _ nn h.names in
      let x = told_alike extra_region extra_from extra_near _ _ ne h.extras in
      record {
        profiles = np;
        taps = nt;
        names = nn;
        extras = ne;
        entries = λ j. record { type_id = record { at = at0 j; len = at1 j }; profiles = p j; taps = a j; names = n j; extras = x j };
      }
