-- What a loop over entries goes by: what it has checked and summed, and what is left, make the whole. Assumes nothing.
use Prim.Native.Nat.{ℕ, zero, suc, ◌+◌, ◌<◌, ◌≤◌}
use mathlib.Core.Path.{◌≡◌, refl, sym, ap, ap₂, ◌∙◌}
use mathlib.Core.List.{List}
use native.Mathlib.Omega.{arith}
use lib.ListN.{drop}
use Rattle.reference.specs.declared.Refusal.{Refusal}
use Rattle.reference.specs.Refusals.{Check}
use Rattle.std.specs.Prelude.{Ok, Err, IsErrAnd}
use Rattle.reference.specs.Checks.{both, each}
use Rattle.reference.specs.Meaning.{sum}
use Rattle.reference.proofs.Checks.{stop, go}
use Rattle.reference.proofs.Steps.{passed_on}
use Rattle.table.specs.Region.{listed}
use Rattle.faults.specs.Each.{Tells, EachBy}
use Rattle.faults.proofs.Listed.{Listed, opens, ends, all_listed}

-- the sizes of the first i are summed
pub record Summing {E : Type 0} (g : E → ℕ) (xs : List E) (total i : ℕ) : Type 0 where
  pub left : total + sum g (drop i xs) ≡ sum g xs

-- the first i have passed
pub record Checking {E : Type 0} (f : E → Check) (xs : List E) (i : ℕ) : Type 0 where
  pub left : each f (drop i xs) ≡ each f xs

module _ {E : Type 0} {g : E → ℕ} {xs : List E} where
  module _ {total i : ℕ} (s : Summing g xs total i) {e : ℕ → E} {n : ℕ} (l : Listed xs e n) where
    pub sum_turn : i < n → (x : E) → x ≡ e i → (size : ℕ) → size ≡ g x → Summing g xs (total + size) (i + 1)
    sum_turn h x q size k = record { left = omega (arith, s.left, ap (sum g) (opens l i h), k, ap g q) }

module _ {E : Type 0} {f : E → Check} {xs : List E} where
  pub check_begin : Checking f xs 0
  check_begin = record { left = refl }

  module _ {i : ℕ} (s : Checking f xs i) {e : ℕ → E} {n : ℕ} (l : Listed xs e n) where
    here : i < n → (x : E) → x ≡ e i → each f xs ≡ both (f x) (each f (drop (i + 1) xs))
    unfolding each
    here h x q = sym s.left ∙ ap (each f) (opens l i h) ∙ ap (λ (y : E). both (f y) (each f (drop (i + 1) xs))) (sym q)

    pub check_turn : i < n → (x : E) → x ≡ e i → f x ≡ Ok tt → Checking f xs (i + 1)
    check_turn h x q p = record { left = sym (here h x q ∙ go (f x) (each f (drop (i + 1) xs)) p) }

    pub check_stop : i < n → (x : E) → x ≡ e i → {r : Refusal} → f x ≡ Err r → Err r ≡ each f xs
    check_stop h x q {r} p = sym (here h x q ∙ stop (f x) (each f (drop (i + 1) xs)) r p)

    pub check_end : n ≤ i → Ok tt ≡ each f xs
    unfolding each
    check_end h = sym (sym s.left ∙ ap (each f) (ends l i h))

-- ---- checks in a row, as `?` goes through them

pub passes_on : (a b : Check) (w : Check) {r : Refusal} → a ≡ Err r → IsErrAnd w (λ y. y ≡ r) → w ≡ both a b
passes_on a b w {r} e h = passed_on w h ∙ sym (stop a b r e)

pub goes_on : (a b : Check) {w : Check} → a ≡ Ok tt → w ≡ b → w ≡ both a b
goes_on a b e h = h ∙ sym (go a b e)

-- ---- checks by the index

pub each_alike : {A B : Type 0} (c : A → Check) (d : B → Check) (v : ℕ → A) (e : ℕ → B) → ((i : ℕ) → c (v i) ≡ d (e i)) → (n : ℕ) → each c (listed n v) ≡ each d (listed n e)
unfolding listed each
each_alike c d v e same zero = refl
each_alike c d v e same (suc n) = ap₂ both (same 0) (each_alike c d (λ i. v (suc i)) (λ i. e (suc i)) (λ i. same (suc i)) n)

-- the check of each index is the check of each element
pub by_each : {E : Type 0} (f : E → Check) {xs : List E} {e : ℕ → E} {n : ℕ} (l : Listed xs e n) {finds : ℕ → Check → Type 0} {found : Check} → EachBy finds n found → Tells finds n (λ i. f (e i)) → found ≡ each f xs
by_each f {xs} {e} {n} l by tells = by (λ i. f (e i)) tells ∙ each_alike (λ i. f (e i)) f (λ i. i) e (λ i. refl) n ∙ ap (each f) (sym (all_listed l))
