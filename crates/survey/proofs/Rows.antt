-- What is seen of entries in a row, as sums and checks of the entries themselves. Assumes nothing.
use Prim.Native.Nat.{ℕ, zero, suc, ◌+◌, ◌*◌, zero-le, min}
use mathlib.Core.Path.{◌≡◌, refl, sym, ap, ap₂, ◌∙◌}
use mathlib.Core.Bool.{Bool, ◌&&◌, and-true, and_assoc}
use mathlib.Core.List.{List, ◌∷◌}
use native.Mathlib.Nat.{suc-min-suc, min-eq_left, min-eq_right, mul-zero, mul-suc}
use native.Mathlib.Numerals.{add-one}
use native.Mathlib.Omega.{arith}
use lib.Bits.{bit_or}
use lib.ListN.{take}
use Rattle.reference.specs.Refusals.{Check}
use Rattle.std.specs.Prelude.{Ok, Err}
use Rattle.reference.specs.Checks.{both, each}
use Rattle.reference.specs.Meaning.{sum}
use Rattle.table.specs.Region.{listed}
use Rattle.survey.specs.declared.Survey.{Survey}
use Rattle.survey.specs.Exact.{every}
use Rattle.survey.specs.Seen.{holds, passing, added, all_seen, with_fixed}
use Rattle.survey.proofs.Marks.{or_more}

-- ---- checks in a row

both_pass : (a : Check) → a ≡ both a (Ok tt)
unfolding both
both_pass (Ok _) = refl
both_pass (Err r) = refl

pub both_more : (a b c : Check) → both (both a b) c ≡ both a (both b c)
unfolding both
both_more (Ok _) b c = refl
both_more (Err r) b c = refl

passing_both : (a b : Check) → (passing a && passing b) ≡ passing (both a b)
unfolding both
passing_both (Ok _) b = refl
passing_both (Err r) b = refl

-- ---- a list told by the index: the first of it, one more, and two by two

module _ {E : Type 0} where
  pub take_listed : (u m : ℕ) (e : ℕ → E) → take u (listed m e) ≡ listed (min u m) e
  unfolding listed
  take_listed zero m e = ap (λ (k : ℕ). listed k e) (sym (min-eq_left {m = m} zero-le))
  take_listed (suc u) zero e = ap (λ (k : ℕ). listed k e) (sym (min-eq_right {m = suc u} zero-le))
  take_listed (suc u) (suc m) e = ap (λ (r : List E). e 0 ∷ r) (take_listed u m (λ i. e (suc i))) ∙ ap (λ (k : ℕ). listed k e) (sym (suc-min-suc u m))

  sum_next : (g : E → ℕ) (e : ℕ → E) (n : ℕ) → sum g (listed (suc n) e) ≡ sum g (listed n e) + g (e n)
  unfolding listed
  sum_next g e zero = omega arith
  sum_next g e (suc n) = omega (arith, sum_next g (λ i. e (suc i)) n)

  -- k for each entry, apart
  pub sum_fixed : (k : ℕ) (g : E → ℕ) (e : ℕ → E) (n : ℕ) → sum (λ x. k + g x) (listed n e) ≡ k * n + sum g (listed n e)
  unfolding listed
  sum_fixed k g e zero = omega (arith, mul-zero k)
  sum_fixed k g e (suc n) = omega (arith, mul-suc k n, sum_next (λ x. k + g x) e n, sum_next g e n, sum_fixed k g e n)

  pub sum_alike : (g h : E → ℕ) (e : ℕ → E) → ((x : E) → g x ≡ h x) → (n : ℕ) → sum g (listed n e) ≡ sum h (listed n e)
  sum_alike g h e same n = ap (λ (f : E → ℕ). sum f (listed n e)) (λ j x. same x j)

  each_next : (c : E → Check) (e : ℕ → E) (n : ℕ) → both (each c (listed n e)) (c (e n)) ≡ each c (listed (suc n) e)
  unfolding listed each both
  each_next c e zero = both_pass (c (e 0))
  each_next c e (suc n) = both_more (c (e 0)) _ _ ∙ ap (both (c (e 0))) (each_next c (λ i. e (suc i)) n)

module _ {A B : Type 0} (v : ℕ → A) (e : ℕ → B) where
  pub sum_pairs : (g : A → ℕ) (h : B → ℕ) → ((i : ℕ) → g (v (2 * i)) + g (v (suc (2 * i))) ≡ h (e i)) → (n : ℕ) → sum g (listed (2 * n) v) ≡ sum h (listed n e)
  unfolding listed
  sum_pairs g h same zero = refl
  sum_pairs g h same (suc n) =
      let two : 2 * suc n ≡ suc (suc (2 * n)) = omega arith in
      ap (λ (k : ℕ). sum g (listed k v)) two ∙ omega (arith, sum_next g v (suc (2 * n)), sum_next g v (2 * n), sum_pairs g h same n, same n, sum_next h e n)

  pub each_pairs : (c : A → Check) (d : B → Check) → ((i : ℕ) → both (c (v (2 * i))) (c (v (suc (2 * i)))) ≡ d (e i)) → (n : ℕ) → each c (listed (2 * n) v) ≡ each d (listed n e)
  unfolding listed each
  each_pairs c d same zero = refl
  each_pairs c d same (suc n) =
      let two : 2 * suc n ≡ suc (suc (2 * n)) = omega arith in
      ap (λ (k : ℕ). each c (listed k v)) two
      ∙ sym (ap (λ (x : Check). both x (c (v (suc (2 * n))))) (each_next c v (2 * n)) ∙ each_next c v (suc (2 * n)))
      ∙ both_more _ _ _ ∙ ap₂ both (each_pairs c d same n) (same n) ∙ each_next d e n

-- ---- the marks of the entries before n, or'ed

module _ (q : ℕ → Bool) where
  pub marks_none : holds 0 ≡ every q 0
  unfolding every
  marks_none = refl

  pub marks_more : (m k i : ℕ) → holds m ≡ every q i → holds k ≡ q i → holds (bit_or m k) ≡ every q (i + 1)
  unfolding every
  marks_more m k i e h = rw add-one (or_more m k e h)

-- ---- what is seen of n entries behind s

-- the mark of ends tells whether a check passes
pub record Ends (s : Survey) (d : Check) : Type 0 where
  pub told : holds s.ends ≡ passing d

pub fixed_ends : (k : ℕ) {s : Survey} {d : Check} → Ends s d → Ends (with_fixed s k) d
fixed_ends k h = record { told = h.told }

module _ (f : ℕ → Survey) where
  pub sum_seen : (p : Survey → ℕ) → ((a b : Survey) → p (added a b) ≡ p a + p b) → {E : Type 0} (g : E → ℕ) (e : ℕ → E) → ((i : ℕ) → p (f i) ≡ g (e i))
      → (n : ℕ) (s : Survey) → p (all_seen f n s) ≡ p s + sum g (listed n e)
  unfolding all_seen listed
  sum_seen p plus g e same zero s = omega arith
  sum_seen p plus g e same (suc n) s = omega (arith, plus (all_seen f n s) (f n), sum_seen p plus g e same n s, same n, sum_next g e n)

  pub kept : {B : Type 0} (p : Survey → B) → ((a : Survey) (i : ℕ) → p (added a (f i)) ≡ p a) → (n : ℕ) (s : Survey) → p (all_seen f n s) ≡ p s
  unfolding all_seen
  kept p same zero s = refl
  kept p same (suc n) s = same (all_seen f n s) n ∙ kept p same n s

  pub fields_seen : (q : ℕ → Bool) → ((i : ℕ) → holds (f i).fields ≡ q i) → (n : ℕ) (s : Survey) → holds (all_seen f n s).fields ≡ (holds s.fields && every q n)
  unfolding all_seen every
  fields_seen q same zero s = sym (and-true _)
  fields_seen q same (suc n) s = or_more (all_seen f n s).fields (f n).fields (fields_seen q same n s) (same n) ∙ and_assoc (holds s.fields) (every q n) (q n)

  pub ends_seen : {E : Type 0} (c : E → Check) (e : ℕ → E) → ((i : ℕ) → holds (f i).ends ≡ passing (c (e i)))
      → (n : ℕ) {s : Survey} {d : Check} → Ends s d → Ends (all_seen f n s) (both d (each c (listed n e)))
  unfolding all_seen listed each
  ends_seen c e same zero {s} {d} h = record { told = h.told ∙ ap passing (both_pass d) }
  ends_seen c e same (suc n) {s} {d} h =
      record {
        told =
            or_more (all_seen f n s).ends (f n).ends (ends_seen c e same n h).told (same n)
            ∙ passing_both (both d (each c (listed n e))) (c (e n)) ∙ ap passing (both_more d _ _ ∙ ap (both d) (each_next c e n));
      }
