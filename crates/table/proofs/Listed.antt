-- The laws of `listed`: how many elements, which, and a list of which the first ones changed. Assumes nothing.
use Prim.Native.Nat.{ℕ, zero, suc, ◌<◌, ◌≤◌}
use mathlib.Core.Path.{◌≡◌, refl, ap}
use mathlib.Core.List.{List, [], ◌∷◌, ◌++◌, map}
use native.Mathlib.Omega.{arith}
use lib.ListN.{length, drop, get_or}
use Rattle.octets.specs.Octets.{Each}
use Rattle.table.specs.Region.{listed}

module _ {E : Type 0} where
  pub listed_length : (n : ℕ) (f : ℕ → E) → length (listed n f) ≡ n
  unfolding listed
  listed_length zero f = refl
  listed_length (suc n) f = ap suc (listed_length n (λ i. f (suc i)))

  pub listed_get : (n : ℕ) (f : ℕ → E) (k : ℕ) (z : E) → k < n → get_or (listed n f) k z ≡ f k
  unfolding listed
  listed_get zero f k z h = absurd (omega arith)
  listed_get (suc n) f zero z h = refl
  listed_get (suc n) f (suc k) z h = listed_get n (λ i. f (suc i)) k z (omega arith)

  pub listed_each : (P : E → Type 0) (n : ℕ) (f : ℕ → E) → ((i : ℕ) → P (f i)) → Each P (listed n f)
  unfolding listed
  listed_each P zero f h = tt
  listed_each P (suc n) f h = (h 0, listed_each P n (λ i. f (suc i)) (λ i. h (suc i)))

  -- xs first, and then the same elements
  pub listed_over : (xs : List E) (n : ℕ) (f g : ℕ → E) → length xs ≤ n → ((i : ℕ) (z : E) → i < length xs → f i ≡ get_or xs i z)
      → ((i : ℕ) → length xs ≤ i → i < n → f i ≡ g i) → listed n f ≡ xs ++ drop (length xs) (listed n g)
  unfolding listed
  listed_over [] zero f g h first then = refl
  listed_over [] (suc n) f g h first then =
      let p = then 0 (omega arith) (omega arith) in
      let q = listed_over [] n (λ i. f (suc i)) (λ i. g (suc i)) (omega arith) (λ i z k. absurd (omega arith)) (λ i k l. then (suc i) (omega arith) (omega arith)) in
      λ j. p j ∷ q j
  listed_over (x ∷ xs) zero f g h first then = absurd (omega arith)
  listed_over (x ∷ xs) (suc n) f g h first then =
      let p = first 0 x (omega arith) in
      let q = listed_over xs n (λ i. f (suc i)) (λ i. g (suc i)) (omega arith) (λ i z k. first (suc i) z (omega arith)) (λ i k l. then (suc i) (omega arith) (omega arith)) in
      λ j. p j ∷ q j

  pub listed_alike : (n : ℕ) (f g : ℕ → E) → ((i : ℕ) → i < n → f i ≡ g i) → listed n f ≡ listed n g
  listed_alike n f g h = listed_over [] n f g (omega arith) (λ i z k. absurd (omega arith)) (λ i k l. h i l)

pub listed_map : {E F : Type 0} (h : E → F) (n : ℕ) (f : ℕ → E) → map h (listed n f) ≡ listed n (λ i. h (f i))
unfolding listed
listed_map h zero f = refl
listed_map {F = F} h (suc n) f = ap (λ (r : List F). h (f 0) ∷ r) (listed_map h n (λ i. f (suc i)))

-- a list that has these elements
pub listed_whole : {E : Type 0} (n : ℕ) (f : ℕ → E) (xs : List E) → length xs ≡ n → ((i : ℕ) (z : E) → i < n → get_or xs i z ≡ f i) → xs ≡ listed n f
unfolding listed
listed_whole zero f [] h at = refl
listed_whole zero f (x ∷ xs) h at = absurd (omega arith)
listed_whole (suc n) f [] h at = absurd (omega arith)
listed_whole (suc n) f (x ∷ xs) h at =
    let p = at 0 x (omega arith) in
    let q = listed_whole n (λ i. f (suc i)) xs (omega arith) (λ i z k. at (suc i) z (omega arith)) in
    λ j. p j ∷ q j
