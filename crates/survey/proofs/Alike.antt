-- Tables with the same front and the same numbers in their used entries are exact alike. Assumes nothing.
use Prim.Native.Nat.{ℕ, zero, suc, ◌<◌, min}
use mathlib.Core.Path.{◌≡◌, refl, sym, ap, ap₂, ◌∙◌}
use mathlib.Core.Bool.{Bool, ◌&&◌}
use mathlib.Core.List.{List, []}
use native.Mathlib.Nat.{min-le_left, min-le_right}
use native.Mathlib.Omega.{arith}
use lib.ListN.{take, get_or}
use lib.Seq.{get_or-take}
use Rattle.octets.specs.Octets.{part}
use Rattle.table.specs.Region.{Region, entry, rows}
use Rattle.table.specs.Flat.{profile_region, tap_region}
use Rattle.table.specs.Filed.{SameEntries}
use Rattle.table.proofs.Listed.{listed_get}
use Rattle.table.proofs.Alike.{same_front}
use Rattle.survey.specs.Exact.{profile_exact, tap_exact, every, exact}
use Rattle.survey.proofs.Sorts.{tap_near, profile_near}

every_alike : (f g : ℕ → Bool) (n : ℕ) → ((i : ℕ) → i < n → f i ≡ g i) → every f n ≡ every g n
unfolding every
every_alike f g zero h = refl
every_alike f g (suc n) h = ap₂ (λ (a b : Bool). a && b) (every_alike f g n (λ i k. h i (omega arith))) (h n (omega arith))

module _ (t t' : List ℕ) where
  -- row i of a region, where the rows before n are the same
  row_alike : {E : Type 0} (g : Region E) (n i : ℕ) → i < min n g.size → take n (rows g t) ≡ take n (rows g t') → part t (entry g i) g.width ≡ part t' (entry g i) g.width
  unfolding rows
  row_alike g n i h e =
      let l : i < n = omega (arith, min-le_left n g.size) in
      let small : i < g.size = omega (arith, min-le_right n g.size) in
      sym (listed_get g.size (λ j. part t (entry g j) g.width) i [] small)
      ∙ sym (get_or-take n (rows g t) i [] l)
      ∙ ap (λ (x : List (List ℕ)). get_or x i []) e
      ∙ get_or-take n (rows g t') i [] l
      ∙ listed_get g.size (λ j. part t' (entry g j) g.width) i [] small

  -- what the numbers of each entry tell
  told_alike : {E : Type 0} (g : Region E) (f : List ℕ → ℕ → Bool) → ((t : List ℕ) (k : ℕ) → f (part t k g.width) 0 ≡ f t k) → (n n' : ℕ) → n ≡ n'
      → take n (rows g t) ≡ take n (rows g t') → every (λ i. f t (entry g i)) (min n g.size) ≡ every (λ i. f t' (entry g i)) (min n' g.size)
  told_alike g f near n n' same e =
      every_alike (λ i. f t (entry g i)) (λ i. f t' (entry g i)) (min n g.size)
      (λ i k. sym (near t (entry g i)) ∙ ap (λ (r : List ℕ). f r 0) (row_alike g n i k e) ∙ near t' (entry g i))
      ∙ ap (λ (m : ℕ). every (λ i. f t' (entry g i)) (min m g.size)) same

  pub same_exact : SameEntries t t' → exact t ≡ exact t'
  unfolding exact
  same_exact h =
      ap₂ (λ (a b : Bool). a && b) (told_alike profile_region profile_exact profile_near _ _ (same_front t t' h 2 (omega arith)) h.profiles)
      (told_alike tap_region tap_exact tap_near _ _ (same_front t t' h 3 (omega arith)) h.taps)
