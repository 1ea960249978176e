-- Marks: several or'ed together hold exactly if each of them holds; and what the mark of a field or of an end tells. Assumes nothing.
use Prim.Native.Nat.{ℕ, ◌+◌, ◌*◌, ◌/◌, ◌-◌, ◌<◌, ◌≤◌}
use mathlib.Core.Path.{◌≡◌, refl, ap₂, ◌∙◌}
use mathlib.Core.Bool.{Bool, true, false, ◌&&◌}
use native.Mathlib.Omega.{arith}
use lib.Dec.{ltb, leb, eqb}
use lib.Bits.{bit_or, or_lt, or_comm, or_add_and, and_le_r}
use borrow.Author.Tests.{ltb-true, ltb-false, leb-true, leb-false, eqb-true, eqb-false, lt-ltb, le-ltb}
use Rattle.survey.specs.Seen.{holds}

-- a mark below the bound exactly if b
says : (m : ℕ) (b : Bool) → (b ≡ true → m < 65536) → (b ≡ false → 65536 ≤ m) → holds m ≡ b
says m true below above = lt-ltb m 65536 (below refl)
says m false below above = le-ltb m 65536 (above refl)

or_above : (a b : ℕ) → a ≤ bit_or a b
or_above a b = omega (arith, or_add_and a b, and_le_r a b)

pub or_holds : (a b : ℕ) → holds (bit_or a b) ≡ (holds a && holds b)
or_holds a b = by_cases (ltb a 65536) (ltb b 65536) refl refl
  where
    by_cases : (p q : Bool) → ltb a 65536 ≡ p → ltb b 65536 ≡ q → ltb (bit_or a b) 65536 ≡ (p && q)
    by_cases true true ea eb = lt-ltb (bit_or a b) 65536 (or_lt 16 a b (ltb-true a 65536 ea) (ltb-true b 65536 eb))
    by_cases true false ea eb = let h : 65536 ≤ b = ltb-false b 65536 eb in le-ltb (bit_or a b) 65536 (omega (arith, or_comm a b, or_above b a))
    by_cases false q ea eb = let h : 65536 ≤ a = ltb-false a 65536 ea in le-ltb (bit_or a b) 65536 (omega (arith, or_above a b))

-- one mark more
pub or_more : (a b : ℕ) {p q : Bool} → holds a ≡ p → holds b ≡ q → holds (bit_or a b) ≡ (p && q)
or_more a b ea eb = or_holds a b ∙ ap₂ (λ (p q : Bool). p && q) ea eb

-- a field of 8 bits, one of 24, and an end
octet_mark : (a : ℕ) → holds (a * 256) ≡ ltb a 256
octet_mark a =
    says (a * 256) (ltb a 256) (λ e. let h : a < 256 = ltb-true a 256 e in omega arith) (λ e. let h : 256 ≤ a = ltb-false a 256 e in omega arith)

three_octets_mark : (a : ℕ) → holds (a / 256) ≡ ltb a 16777216
three_octets_mark a =
    says (a / 256) (ltb a 16777216) (λ e. let h : a < 16777216 = ltb-true a 16777216 e in omega arith) (λ e. let h : 16777216 ≤ a = ltb-false a 16777216 e in omega arith)

pub end_holds : (a n : ℕ) → n ≤ 65535 → holds (a + (65535 - n)) ≡ leb a n
end_holds a n h =
    says (a + (65535 - n)) (leb a n) (λ e. let k : a ≤ n = leb-true a n e in omega arith) (λ e. let k : n < a = leb-false a n e in omega arith)

-- the fields of a location, of an address and of a tap
pub location_holds : (a b c : ℕ) → holds (bit_or (bit_or a (b * 256)) (c * 256)) ≡ (ltb a 65536 && ltb b 256 && ltb c 256)
location_holds a b c = or_more (bit_or a (b * 256)) (c * 256) (or_more a (b * 256) refl (octet_mark b)) (octet_mark c)

pub address_holds : (a b c d : ℕ) → holds (bit_or (bit_or (bit_or (a / 256) b) c) d) ≡ (ltb a 16777216 && ltb b 65536 && ltb c 65536 && ltb d 65536)
address_holds a b c d =
    or_more (bit_or (bit_or (a / 256) b) c) d (or_more (bit_or (a / 256) b) c (or_more (a / 256) b (three_octets_mark a) refl) refl) refl

pub tap_holds : (a b c : ℕ) → holds (bit_or (bit_or a b) c) ≡ (ltb a 65536 && ltb b 65536 && ltb c 65536)
tap_holds a b c = or_more (bit_or a b) c (or_more a b refl refl) refl

-- .. and of a sort that is to be opaque
pub sort_holds : (a : ℕ) → holds (a * 65536) ≡ eqb a 0
sort_holds a =
    says (a * 65536) (eqb a 0) (λ e. let h : a ≡ 0 = eqb-true a 0 e in omega arith) (λ e. let h = eqb-false a 0 e in omega arith)
