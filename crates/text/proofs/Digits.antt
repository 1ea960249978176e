-- The decimal digits of a number: one, or those of its tenth and one more; and how many there are at most. Assumes nothing.
use Prim.Native.Nat.{ℕ, zero, suc, ◌+◌, ◌*◌, ◌/◌, ◌%◌, ◌^◌, ◌<◌, ◌≤◌}
use mathlib.Core.Path.{◌≡◌, refl, ap, ◌∙◌}
use mathlib.Core.Bool.{Bool, true, false}
use mathlib.Core.List.{List, [], ◌∷◌, ◌++◌}
use native.Mathlib.Nat.{pow-suc}
use native.Mathlib.Omega.{arith}
use lib.Dec.{ltb}
use lib.ListN.{length, length-append}
use borrow.Author.Tests.{lt-ltb, le-ltb, ltb-true, ltb-false}
use Rattle.text.specs.Text.{digits_in, decimal}

-- steps that are not needed change nothing
enough : (j k n : ℕ) (b : Bool) → ltb n 10 ≡ b → n < j → n < k → digits_in j n ≡ digits_in k n
unfolding digits_in
enough zero k n b e h l = absurd (omega arith)
enough (suc j) zero n b e h l = absurd (omega arith)
enough (suc j) (suc k) n true e h l = simp e
enough (suc j) (suc k) n false e h l =
    let ten : 10 ≤ n = ltb-false n 10 e in
    rw e (ap (λ (x : List ℕ). x ++ ((48 + n % 10) ∷ [])) (enough j k (n / 10) (ltb (n / 10) 10) refl (omega arith) (omega arith)))

pub decimal_one : (n : ℕ) → n < 10 → decimal n ≡ (48 + n) ∷ []
unfolding decimal digits_in
decimal_one n h = simp (lt-ltb n 10 h)

pub decimal_more : (n : ℕ) → 10 ≤ n → decimal n ≡ decimal (n / 10) ++ ((48 + n % 10) ∷ [])
unfolding decimal digits_in
decimal_more n h =
    rw (le-ltb n 10 h) (ap (λ (x : List ℕ). x ++ ((48 + n % 10) ∷ [])) (enough n (suc (n / 10)) (n / 10) (ltb (n / 10) 10) refl (omega arith) (omega arith)))

-- how many digits there are; a number below a power of ten has at most so many
pub decimal_length : (n : ℕ) → 10 ≤ n → length (decimal n) ≡ length (decimal (n / 10)) + 1
decimal_length n h = ap length (decimal_more n h) ∙ length-append (decimal (n / 10)) ((48 + n % 10) ∷ [])

longer : (k n : ℕ) (b : Bool) → ltb n 10 ≡ b → length (decimal (n / 10)) ≤ suc k → length (decimal n) ≤ suc (suc k)
longer k n true e h = let one : length (decimal n) ≡ 1 = ap length (decimal_one n (ltb-true n 10 e)) in omega arith
longer k n false e h = omega (arith, decimal_length n (ltb-false n 10 e))

pub decimal_short : (k n : ℕ) → n < 10 ^ suc k → length (decimal n) ≤ suc k
decimal_short zero n h = let one : length (decimal n) ≡ 1 = ap length (decimal_one n (omega arith)) in omega arith
decimal_short (suc k) n h =
    let p : 10 ^ suc (suc k) ≡ 10 ^ suc k * 10 = pow-suc 10 (suc k) in
    longer k n (ltb n 10) refl (decimal_short k (n / 10) (omega arith))
