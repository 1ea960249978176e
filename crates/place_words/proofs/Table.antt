-- The code's table of words: what stands at a place, and that any words have at most 27 octets. Assumes nothing.
use Prim.Native.Nat.{ℕ, zero, suc, max, ◌≤◌}
use mathlib.Core.Path.{◌≡◌, sym}
use mathlib.Core.List.{List, [], ◌∷◌, map}
use native.Mathlib.Omega.{arith}
use denote.Bor.{Bor}
use lib.ListN.{length, get_or, get_or-map}
use Rattle.text.specs.Text.{ascii}
use Rattle.place_words.specs.Words.{place_words, place_text}

-- of a table of lent words
pub lent_at : (l : List (Bor (List ℕ))) (i : ℕ) (d : Bor (List ℕ)) → (get_or l i d).now ≡ get_or (map (λ b. b.now) l) i d.now
lent_at l i d = sym (get_or-map (λ (b : Bor (List ℕ)). b.now) l i d)

-- how many octets the longest of some words has
abbrev longest : List (List ℕ) → ℕ
longest [] = 0
longest (x ∷ xs) = max (length x) (longest xs)

none_longer : (l : List (List ℕ)) (i : ℕ) → length (get_or l i []) ≤ longest l
none_longer [] i = omega arith
none_longer (x ∷ xs) zero = omega arith
none_longer (x ∷ xs) (suc i) = omega (arith, none_longer xs i)

pub text_short : (place : ℕ) → length (place_text place) ≤ 27
text_short place = none_longer (map ascii place_words) place
