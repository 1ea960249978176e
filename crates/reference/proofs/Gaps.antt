-- The rule for type ids: the lengths that it allows, and the gap behind a type id. Assumes nothing.
use Prim.Native.Nat.{ℕ, ◌-◌, ◌%◌, ◌^◌, ◌<◌}
use mathlib.Core.Path.{◌≡◌, refl, sym, ap, ◌∙◌, subst}
use mathlib.Core.Logic.{◌≢◌}
use mathlib.Core.Bool.{true, false}
use native.Mathlib.Omega.{arith}
use lib.ListN.{length}
use lib.Dec.{T, eqb→eq}
use borrow.Author.Tests.{ne_eqb}
use Rattle.octets.specs.Octets.{Octets, be, octets}
use Rattle.reference.specs.declared.TypeIdRule.{TypeIdRule}
use Rattle.reference.specs.declared.TypeIdRule.TheVariants.{Multiple, Gap}
use Rattle.reference.specs.Layout.{Allowed, allowed, gap_length, gap}
use Rattle.octets.proofs.Blank.{length_blank, blank_octets}
use Rattle.octets.proofs.Inverse.{be_lt, octets_be}

pub test_allowed : (rule : TypeIdRule) (n : ℕ) → T (allowed rule n) → Allowed rule n
test_allowed Multiple n t = eqb→eq (n % 4) 0 t
test_allowed Gap n t = tt

pub allowed_test : (rule : TypeIdRule) (n : ℕ) → Allowed rule n → T (allowed rule n)
allowed_test Multiple n a = rw a tt
allowed_test Gap n a = tt

module _ (rule : TypeIdRule) (n : ℕ) where
  pub length_gap : length (gap rule n) ≡ gap_length rule n
  length_gap = length_blank (gap_length rule n)

  pub gap_octets : Octets (gap rule n)
  gap_octets = blank_octets (gap_length rule n)

  -- the number that its octets write
  pub gap_small : be (gap rule n) < 256 ^ gap_length rule n
  gap_small = subst (λ (k : ℕ). be (gap rule n) < 256 ^ k) length_gap (be_lt (gap rule n) gap_octets)

  pub gap_written : octets (gap_length rule n) (be (gap rule n)) ≡ gap rule n
  gap_written = ap (λ (k : ℕ). octets k (be (gap rule n))) (sym length_gap) ∙ octets_be (gap rule n) gap_octets

-- there is none behind a multiple of 4
pub no_gap : (rule : TypeIdRule) (n : ℕ) → n % 4 ≡ 0 → gap_length rule n ≡ 0
no_gap Multiple n e = refl
no_gap Gap n e = omega arith

-- and each rule allows one
pub multiple_allowed : (rule : TypeIdRule) (n : ℕ) → n % 4 ≡ 0 → allowed rule n ≡ true
multiple_allowed Multiple n e = rw e
multiple_allowed Gap n e = refl

-- any other length needs a gap, and rule 1 refuses it
module _ (n : ℕ) (h : n % 4 ≢ 0) where
  pub gap_needed : gap_length Gap n ≡ 4 - n % 4
  gap_needed = omega (arith, h)

  pub other_refused : allowed Multiple n ≡ false
  other_refused = ne_eqb (n % 4) 0 h
