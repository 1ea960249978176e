-- What a number names: a rule, a way, or neither; and that a call by a number is determined where the calls under each choice are. Assumes nothing.
use Prim.Native.Nat.{ℕ}
use mathlib.Core.Path.{◌≡◌, refl, sym, subst, ◌∙◌}
use Rattle.std.specs.Prelude.{Option, Some, None, MatchOption}
use mathlib.Core.Logic.{◌≢◌, ◌⊎◌, inl, inr, ⊎_elim}
use native.Mathlib.Omega.{arith}
use lib.Dec.{eqb}
use borrow.Author.Tests.{eqb-true, eqb-false}
use Rattle.reference.specs.declared.TypeIdRule.{TypeIdRule}
use Rattle.reference.specs.declared.TypeIdRule.TheVariants.{Multiple, Gap}
use Rattle.reference.specs.declared.AddressWay.{AddressWay}
use Rattle.reference.specs.declared.AddressWay.TheVariants.{Constants}
use Rattle.reference.proofs.Cases.{by_test}
use Rattle.ior_c.specs.Calls.{rule_number, way_number, By}

-- k numbers a choice, or it numbers none
abbrev pub Named : {A : Type 0} → (A → ℕ) → ℕ → Type 0
Named {A} number k = ((x : A) × (k ≡ number x)) ⊎ ((x : A) → k ≢ number x)

other_rule : {k : ℕ} → k ≢ 1 → k ≢ 2 → (rule : TypeIdRule) → k ≢ rule_number rule
other_rule n m Multiple = n
other_rule n m Gap = m

other_way : {k : ℕ} → k ≢ 1 → (way : AddressWay) → k ≢ way_number way
other_way n Constants = n

pub rule_named : (k : ℕ) → Named rule_number k
rule_named k =
    by_test (eqb k 1) (λ e. inl (Multiple, eqb-true k 1 e))
    (λ n. by_test (eqb k 2) (λ e. inl (Gap, eqb-true k 2 e)) (λ m. inr (other_rule (eqb-false k 1 n) (eqb-false k 2 m))))

pub way_named : (k : ℕ) → Named way_number k
way_named k = by_test (eqb k 1) (λ e. inl (Constants, eqb-true k 1 e)) (λ n. inr (other_way (eqb-false k 1 n)))

-- a number names one choice
one_rule : (x y : TypeIdRule) → rule_number x ≡ rule_number y → x ≡ y
one_rule Multiple Multiple e = refl
one_rule Multiple Gap e = absurd (omega arith)
one_rule Gap Multiple e = absurd (omega arith)
one_rule Gap Gap e = refl

one_way : (x y : AddressWay) → way_number x ≡ way_number y → x ≡ y
one_way Constants Constants e = refl

-- ---- what the code shows: the call under a choice, or nothing asked

module _ {A : Type 0} {number : A → ℕ} (one : (x y : A) → number x ≡ number y → x ≡ y) {k : ℕ} {P : A → Type 0} {U : Type 0} where
  by_named : {x : A} → k ≡ number x → P x → By number k P U
  by_named {x} e p = record { named = λ y h. subst P (one x y (sym e ∙ h)) p; other = λ n. absurd (n x e) }

module _ {A : Type 0} {number : A → ℕ} {k : ℕ} {P : A → Type 0} {U : Type 0} where
  by_none : ((x : A) → k ≢ number x) → U → By number k P U
  by_none n u = record { named = λ x e. absurd (n x e); other = λ _. u }

-- by what the code was told of a number
abbrev pub Numbered : {A : Type 0} → (A → ℕ) → ℕ → Option A → Type 0
Numbered {A} number k o = MatchOption o ((x : A) → k ≢ number x) (λ x. k ≡ number x)

module _ {k : ℕ} {o : Option TypeIdRule} (t : Numbered rule_number k o) {P : TypeIdRule → Type 0} {U : Type 0} where
  pub under_rule : {x : TypeIdRule} → o ≡ Some x → P x → By rule_number k P U
  under_rule e p = by_named one_rule (subst (Numbered rule_number k) e t) p

  pub no_rule : o ≡ None → U → By rule_number k P U
  no_rule e u = by_none (subst (Numbered rule_number k) e t) u

module _ {w : ℕ} {o : Option AddressWay} (t : Numbered way_number w o) {P : AddressWay → Type 0} {U : Type 0} where
  pub in_way : {x : AddressWay} → o ≡ Some x → P x → By way_number w P U
  in_way e p = by_named one_way (subst (Numbered way_number w) e t) p

  pub no_way : o ≡ None → U → By way_number w P U
  no_way e u = by_none (subst (Numbered way_number w) e t) u

-- whatever the number
pub by_any : {A : Type 0} {number : A → ℕ} {k : ℕ} {P : A → Type 0} {U : Type 0} → ((x : A) → P x) → U → By number k P U
by_any f u = record { named = λ x e. f x; other = λ _. u }

pub by_determined : {A : Type 0} (number : A → ℕ) (k : ℕ) → ((k : ℕ) → Named number k) → {P P' : A → Type 0} {U U' Same : Type 0} → ((x : A) → P x → P' x → Same) → (U → U' → Same)
    → By number k P U → By number k P' U' → Same
by_determined number k named f g p q = ⊎_elim (λ w. f w.0 (p.named w.0 w.1) (q.named w.0 w.1)) (λ n. g (p.other n) (q.other n)) (named k)
