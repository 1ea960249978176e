-- A table is exact exactly if no number of it is cut: the entry that a row tells has the numbers of the row, as many as its sort names. Assumes nothing.
use Prim.Native.Nat.{ℕ, ◌+◌, ◌*◌, ◌/◌, ◌%◌, ◌<◌, ◌≤◌, min}
use mathlib.Core.Path.{◌≡◌, refl, sym, ap, subst, ◌∙◌}
use mathlib.Core.Bool.{Bool, true, false, ◌&&◌, cond}
use mathlib.Core.List.{List, [], ◌∷◌}
use mathlib.Core.Logic.{◌↔◌}
use native.Mathlib.Nat.{min-le_right}
use native.Mathlib.Omega.{arith}
use lib.Dec.{ltb, eqb}
use lib.ListN.{take, get_or}
use borrow.Author.Tests.{ltb-true, eqb-true, lt-ltb, eq-eqb}
use Rattle.octets.proofs.Part.{row, row_part, part_start}
use Rattle.reference.specs.Steps.{pick}
use Rattle.table.specs.Flat.{body_numbers, body_from, profile_region, tap_region, Lent, profiles_used, taps_used, tap_numbers, tap_from, biop_from, lite_from, opaque_from}
use Rattle.table.specs.Region.{entry}
use Rattle.survey.specs.Exact.{location_exact, address_exact, profile_exact, tap_exact, profiles_exact, taps_exact, exact}
use Rattle.survey.specs.Uncut.{named, ProfileUncut, TapUncut, Uncut}
use Rattle.survey.proofs.Every.{and_left, and_right, and_both, every_at, all_every}

-- number k of both sides of a row
at : (k : ℕ) {l m : List ℕ} → l ≡ m → get_or l k 0 ≡ get_or m k 0
at k h = ap (λ (x : List ℕ). get_or x k 0) h

tap_exactly : (a b c d e : ℕ) → (tap_exact (a ∷ b ∷ c ∷ d ∷ e ∷ []) 0 ≡ true) ↔ (a % 65536 ∷ b % 65536 ∷ c % 65536 ∷ d ∷ e ∷ [] ≡ a ∷ b ∷ c ∷ d ∷ e ∷ [])
tap_exactly a b c d e = (
  λ x.
      let ab = and_left (ltb a 65536 && ltb b 65536) (ltb c 65536) x in
      let ha : a < 65536 = ltb-true a 65536 (and_left (ltb a 65536) (ltb b 65536) ab) in
      let hb : b < 65536 = ltb-true b 65536 (and_right (ltb a 65536) (ltb b 65536) ab) in
      let hc : c < 65536 = ltb-true c 65536 (and_right (ltb a 65536 && ltb b 65536) (ltb c 65536) x) in
      let ea : a % 65536 ≡ a = omega arith in
      let eb : b % 65536 ≡ b = omega arith in
      let ec : c % 65536 ≡ c = omega arith in
      λ j. ea j ∷ eb j ∷ ec j ∷ d ∷ e ∷ [],
  λ h.
      let ea : a % 65536 ≡ a = at 0 h in
      let eb : b % 65536 ≡ b = at 1 h in
      let ec : c % 65536 ≡ c = at 2 h in
      and_both (and_both (lt-ltb a 65536 (omega arith)) (lt-ltb b 65536 (omega arith))) (lt-ltb c 65536 (omega arith)),
)

module _ (s a b c d e f g h k : ℕ) where
  abbrev ten : List ℕ
  ten = s ∷ a ∷ b ∷ c ∷ d ∷ e ∷ f ∷ g ∷ h ∷ k ∷ []

  location_exactly : 1 ≡ s → (location_exact ten 0 ≡ true) ↔ (take 9 (body_numbers (biop_from ten 0)) ≡ take 9 ten)
  location_exactly es = (
    λ x.
        let bc = and_left (ltb b 65536 && ltb c 256) (ltb d 256) x in
        let hb : b < 65536 = ltb-true b 65536 (and_left (ltb b 65536) (ltb c 256) bc) in
        let hc : c < 256 = ltb-true c 256 (and_right (ltb b 65536) (ltb c 256) bc) in
        let hd : d < 256 = ltb-true d 256 (and_right (ltb b 65536 && ltb c 256) (ltb d 256) x) in
        let eb : b % 65536 ≡ b = omega arith in
        let ec : c % 256 ≡ c = omega arith in
        let ed : d % 256 ≡ d = omega arith in
        λ j. es j ∷ a ∷ eb j ∷ ec j ∷ ed j ∷ e ∷ f ∷ g ∷ h ∷ [],
    λ y.
        let eb : b % 65536 ≡ b = at 2 y in
        let ec : c % 256 ≡ c = at 3 y in
        let ed : d % 256 ≡ d = at 4 y in
        and_both (and_both (lt-ltb b 65536 (omega arith)) (lt-ltb c 256 (omega arith))) (lt-ltb d 256 (omega arith)),
  )

  address_exactly : 2 ≡ s → (address_exact ten 0 ≡ true) ↔ (take 10 (body_numbers (lite_from ten 0)) ≡ take 10 ten)
  address_exactly es = (
    λ x.
        let bcd = and_left (ltb b 16777216 && ltb c 65536 && ltb d 65536) (ltb e 65536) x in
        let bc = and_left (ltb b 16777216 && ltb c 65536) (ltb d 65536) bcd in
        let hb : b < 16777216 = ltb-true b 16777216 (and_left (ltb b 16777216) (ltb c 65536) bc) in
        let hc : c < 65536 = ltb-true c 65536 (and_right (ltb b 16777216) (ltb c 65536) bc) in
        let hd : d < 65536 = ltb-true d 65536 (and_right (ltb b 16777216 && ltb c 65536) (ltb d 65536) bcd) in
        let he : e < 65536 = ltb-true e 65536 (and_right (ltb b 16777216 && ltb c 65536 && ltb d 65536) (ltb e 65536) x) in
        let eb : b / 65536 % 256 * 65536 + b / 256 % 256 * 256 + b % 256 ≡ b = omega arith in
        let ec : c % 65536 ≡ c = omega arith in
        let ed : d % 65536 ≡ d = omega arith in
        let ee : e % 65536 ≡ e = omega arith in
        λ j. es j ∷ a ∷ eb j ∷ ec j ∷ ed j ∷ ee j ∷ f ∷ g ∷ h ∷ k ∷ [],
    λ y.
        let eb : b / 65536 % 256 * 65536 + b / 256 % 256 * 256 + b % 256 ≡ b = at 2 y in
        let ec : c % 65536 ≡ c = at 3 y in
        let ed : d % 65536 ≡ d = at 4 y in
        let ee : e % 65536 ≡ e = at 5 y in
        and_both (and_both (and_both (lt-ltb b 16777216 (omega arith)) (lt-ltb c 65536 (omega arith))) (lt-ltb d 65536 (omega arith))) (lt-ltb e 65536 (omega arith)),
  )

  -- by the sort: BIOP, LiteOptions, and opaque, which an unknown one would be told as
  sorted : (p q : Bool) → eqb s 1 ≡ p → eqb s 2 ≡ q
      → (pick p (location_exact ten 0) (pick q (address_exact ten 0) (eqb s 0)) ≡ true)
      ↔ (take (cond p 9 (cond q 10 4)) (body_numbers (pick p (biop_from ten 0) (pick q (lite_from ten 0) (opaque_from ten 0))))
      ≡ take (cond p 9 (cond q 10 4)) ten)
  sorted true q ep eq = location_exactly (sym (eqb-true s 1 ep))
  sorted false true ep eq = address_exactly (sym (eqb-true s 2 eq))
  sorted false false ep eq = (λ x. let es : 0 ≡ s = sym (eqb-true s 0 x) in λ j. es j ∷ a ∷ b ∷ c ∷ [], λ y. eq-eqb s 0 (sym (at 0 y)))

  profile_exactly : (profile_exact ten 0 ≡ true) ↔ (take (named s) (body_numbers (body_from ten 0)) ≡ take (named s) ten)
  unfolding profile_exact body_from
  profile_exactly = sorted (eqb s 1) (eqb s 2) refl refl

-- ---- row i of a table

module _ (t : List ℕ) (long : Lent t) where
  tap_row : (i : ℕ) → i < tap_region.size → (tap_exact t (entry tap_region i) ≡ true) ↔ TapUncut t i
  unfolding row
  tap_row i l =
      let at = entry tap_region i in
      subst (λ (x : List ℕ). (tap_exact t at ≡ true) ↔ (tap_numbers (tap_from t at) ≡ x)) (row_part t at 5 (omega arith))
      (tap_exactly (get_or t at 0) (get_or t (at + 1) 0) (get_or t (at + 2) 0) (get_or t (at + 3) 0) (get_or t (at + 4) 0))

  profile_row : (i : ℕ) → i < profile_region.size → (profile_exact t (entry profile_region i) ≡ true) ↔ ProfileUncut t i
  unfolding row body_from profile_exact
  profile_row i l =
      let at = entry profile_region i in
      let n = named (get_or t at 0) in
      subst (λ (x : List ℕ). (profile_exact t at ≡ true) ↔ (take n (body_numbers (body_from t at)) ≡ x))
      (ap (take n) (row_part t at 10 (omega arith)) ∙ part_start t at 10 n (few (eqb (get_or t at 0) 1) (eqb (get_or t at 0) 2)))
      (profile_exactly (get_or t at 0) (get_or t (at + 1) 0) (get_or t (at + 2) 0) (get_or t (at + 3) 0) (get_or t (at + 4) 0) (get_or t (at + 5) 0) (get_or t (at + 6) 0) (get_or t (at + 7) 0) (get_or t (at + 8) 0) (get_or t (at + 9) 0))
    where
      few : (p q : Bool) → cond p 9 (cond q 10 4) ≤ 10
      few true q = omega arith
      few false true = omega arith
      few false false = omega arith

  pub exact_exactly : (exact t ≡ true) ↔ Uncut t
  unfolding exact
  exact_exactly =
      let np = min (profiles_used t) profile_region.size in
      let nt = min (taps_used t) tap_region.size in
      let fp : ℕ → Bool = λ i. profile_exact t (entry profile_region i) in
      let ft : ℕ → Bool = λ i. tap_exact t (entry tap_region i) in (
        λ x.
            record {
              profiles = λ i h. (profile_row i (omega (arith, min-le_right (profiles_used t) profile_region.size))).0 (every_at fp i np h (and_left (profiles_exact t np) (taps_exact t nt) x));
              taps = λ i h. (tap_row i (omega (arith, min-le_right (taps_used t) tap_region.size))).0 (every_at ft i nt h (and_right (profiles_exact t np) (taps_exact t nt) x));
            },
        λ u.
            and_both (all_every fp np λ i h. (profile_row i (omega (arith, min-le_right (profiles_used t) profile_region.size))).1 (u.profiles i h))
            (all_every ft nt λ i h. (tap_row i (omega (arith, min-le_right (taps_used t) tap_region.size))).1 (u.taps i h)),
      )
