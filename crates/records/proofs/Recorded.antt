-- What stands at a place of a cache, case by case, as the code finds it. Assumes nothing.
use Prim.Native.Nat.{ℕ, ◌+◌, ◌<◌, ◌≤◌}
use mathlib.Core.Path.{◌≡◌, refl, sym, ap}
use mathlib.Core.Bool.{Bool, true, false}
use mathlib.Core.Logic.{◌≢◌}
use mathlib.Core.List.{List}
use native.Mathlib.Omega.{arith}
use borrow.Author.Tests.{le-leb, lt-leb, lt-ltb, le-ltb, eq-eqb, ne_eqb, ltb-false, eqb-true, leb-true}
use lib.Dec.{leb, ltb, eqb}
use lib.ListN.{length}
use Rattle.octets.specs.Octets.{part, be}
use Rattle.reference.specs.Steps.{pick}
use Rattle.records.specs.declared.Record.{Record}
use Rattle.records.specs.declared.Record.TheVariants.{Got, Broken, End}
use Rattle.records.specs.Records.{mark, record_at, announced}

module _ (l : List ℕ) (at : ℕ) where
  pub at_end : length l ≤ at → record_at l at ≡ End
  unfolding record_at
  at_end h = simp (le-leb _ _ h)

  module _ (inside : at < length l) where
    pub cut_head : length l < at + 4 → record_at l at ≡ Broken
    unfolding record_at
    cut_head h = simp (lt-leb _ _ inside, lt-ltb _ _ h)

    module _ (head : at + 4 ≤ length l) where
      pub wrong_mark : be (part l at 2) ≢ mark → record_at l at ≡ Broken
      unfolding record_at
      wrong_mark h = simp (lt-leb _ _ inside, le-ltb _ _ head, ne_eqb _ _ h)

      module _ (right : be (part l at 2) ≡ mark) where
        pub cut_record : length l < at + 4 + be (part l (at + 2) 2) → record_at l at ≡ Broken
        unfolding record_at
        cut_record h = simp (lt-leb _ _ inside, le-ltb _ _ head, eq-eqb _ _ right, lt-ltb _ _ h)

        pub whole_record : at + 4 + be (part l (at + 2) 2) ≤ length l → record_at l at ≡ Got (at + 4) (at + 4 + be (part l (at + 2) 2))
        unfolding record_at
        whole_record h = simp (lt-leb _ _ inside, le-ltb _ _ head, eq-eqb _ _ right, le-ltb _ _ h)

module _ (l : List ℕ) where
  pub none_short : length l < 4 → announced l ≡ 0
  unfolding announced
  none_short h = simp (lt-ltb _ _ h)

  pub none_wrong : 4 ≤ length l → be (part l 0 2) ≢ mark → announced l ≡ 0
  unfolding announced
  none_wrong h w = simp (le-ltb _ _ h, ne_eqb _ _ w)

  pub announces : 4 ≤ length l → be (part l 0 2) ≡ mark → announced l ≡ be (part l 2 2)
  unfolding announced
  announces h e = simp (le-ltb _ _ h, eq-eqb _ _ e)

-- ---- what a found record, and the end, say of the cache

abbrev sort : Record → ℕ
sort (Got a b) = 0
sort Broken = 1
sort End = 2

module _ (a b : ℕ) where
  abbrev tested : Bool → Bool → Bool → Bool → Record
  tested t u v w = pick t End (pick u Broken (pick v (pick w Broken (Got a b)) Broken))

  tested_got : (t u v w : Bool) {c d : ℕ} → tested t u v w ≡ Got c d → (v ≡ true) × (w ≡ false) × (a ≡ c) × (b ≡ d)
  tested_got true u v w e = absurd (omega (arith, ap sort e))
  tested_got false true v w e = absurd (omega (arith, ap sort e))
  tested_got false false true true e = absurd (omega (arith, ap sort e))
  tested_got false false true false e = (refl, refl, cc, cc)
  tested_got false false false w e = absurd (omega (arith, ap sort e))

  tested_end : (t u v w : Bool) → tested t u v w ≡ End → t ≡ true
  tested_end true u v w e = refl
  tested_end false true v w e = absurd (omega (arith, ap sort e))
  tested_end false false true true e = absurd (omega (arith, ap sort e))
  tested_end false false true false e = absurd (omega (arith, ap sort e))
  tested_end false false false w e = absurd (omega (arith, ap sort e))

pub record Stands (l : List ℕ) (at a b : ℕ) : Type 0 where
  pub marked : be (part l at 2) ≡ mark
  pub start : a ≡ at + 4
  pub stop : b ≡ a + be (part l (at + 2) 2)
  pub room : b ≤ length l

module _ (l : List ℕ) (at : ℕ) where
  pub got_stands : {a b : ℕ} → record_at l at ≡ Got a b → Stands l at a b
  unfolding record_at
  got_stands {a} {b} e =
      let n : ℕ = be (part l (at + 2) 2) in
      let (v, w, x, y) = tested_got (at + 4) (at + 4 + n) (leb (length l) at) (ltb (length l) (at + 4)) (eqb (be (part l at 2)) mark) (ltb (length l) (at + 4 + n)) e in
      record { marked = eqb-true (be (part l at 2)) mark v; start = sym x; stop = omega arith; room = omega (arith, ltb-false (length l) (at + 4 + n) w) }

  pub end_past : record_at l at ≡ End → length l ≤ at
  unfolding record_at
  end_past e = leb-true (length l) at (tested_end _ _ (leb (length l) at) (ltb (length l) (at + 4)) (eqb (be (part l at 2)) mark) (ltb (length l) (at + 4 + be (part l (at + 2) 2))) e)
