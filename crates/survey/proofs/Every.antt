-- Whether every entry before n passes: all of them, and each of those that pass. Assumes nothing.
use Prim.Native.Nat.{ℕ, zero, suc, ◌<◌, ◌≤◌}
use mathlib.Core.Path.{◌≡◌, refl, ap, ap₂, ◌∙◌}
use mathlib.Core.Bool.{Bool, true, false, ◌&&◌}
use native.Mathlib.Omega.{arith}
use lib.Dec.{ltb}
use borrow.Author.Tests.{ltb-true, ltb-false}
use Rattle.survey.specs.Exact.{every}

-- both halves of what passes, and both together
pub and_left : (a b : Bool) → (a && b) ≡ true → a ≡ true
and_left true b e = refl
and_left false b e = e

pub and_right : (a b : Bool) → (a && b) ≡ true → b ≡ true
and_right true b e = e
and_right false b e = let z : ◌≡◌ {A = ℕ} 0 1 = cc in absurd (omega arith)

pub and_both : {a b : Bool} → a ≡ true → b ≡ true → (a && b) ≡ true
and_both p q = ap₂ (λ (a b : Bool). a && b) p q

module _ (f : ℕ → Bool) where
  pub all_every : (n : ℕ) → ((i : ℕ) → i < n → f i ≡ true) → every f n ≡ true
  unfolding every
  all_every zero h = refl
  all_every (suc n) h = and_both (all_every n (λ i k. h i (omega arith))) (h n (omega arith))

  passes : (i n : ℕ) (b : Bool) → ltb i n ≡ b → i < suc n → every f (suc n) ≡ true → f i ≡ true
  unfolding every
  passes i zero b e h all = let z : i ≡ 0 = omega arith in ap f z ∙ all
  passes i (suc n) true e h all = passes i n (ltb i n) refl (ltb-true i (suc n) e) (and_left (every f (suc n)) (f (suc n)) all)
  passes i (suc n) false e h all =
      let l : suc n ≤ i = ltb-false i (suc n) e in
      let z : i ≡ suc n = omega arith in
      ap f z ∙ and_right (every f (suc n)) (f (suc n)) all

  pub every_at : (i n : ℕ) → i < n → every f n ≡ true → f i ≡ true
  every_at i zero h all = absurd (omega arith)
  every_at i (suc n) h all = passes i n (ltb i n) refl h all
