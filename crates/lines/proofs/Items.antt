-- The texts that go by cases or grow: a table's number, one number more, an output. Assumes nothing.
use Prim.Native.Nat.{ℕ, ◌+◌}
use mathlib.Core.Path.{◌≡◌, refl}
use mathlib.Core.List.{List, [], ◌∷◌, ◌++◌}
use native.Mathlib.Numerals.{add-one}
use native.Mathlib.Omega.{arith}
use lib.ListN.{length, get_or}
use borrow.Author.Tests.{eq-eqb, ne_eqb}
use Rattle.text.specs.Text.{decimal, hexes}
use Rattle.lines.specs.Lines.{spaced, item_text, table_text, output_text}

pub item_zero : (i v : ℕ) → v ≡ 0 → [] ≡ item_text i v
unfolding item_text
item_zero i v e = rw (eq-eqb v 0 e)

pub item_shown : (i v : ℕ) → (v ≡ 0 → ⊥) → spaced i ++ (58 ∷ []) ++ decimal v ≡ item_text i v
unfolding item_text
item_shown i v e = rw (ne_eqb v 0 e)

pub table_more : (t : List ℕ) (i : ℕ) → table_text t i ++ item_text i (get_or t i 0) ≡ table_text t (i + 1)
unfolding table_text
table_more t i = rw add-one

pub output_none : (w : List ℕ) → length w ≡ 0 → 32 ∷ 45 ∷ [] ≡ output_text w
unfolding output_text
output_none [] e = refl
output_none (x ∷ xs) e = absurd (omega arith)

pub output_some : (w : List ℕ) → (length w ≡ 0 → ⊥) → 32 ∷ hexes w ≡ output_text w
unfolding output_text
output_some [] e = absurd (e refl)
output_some (x ∷ xs) e = refl
