-- For each function that puts one line, two answers that its contract allows are equal, and so is what they leave there. How many rows go into one page is
-- left to `put_rows`; what they say is not. Assumes nothing.
use Prim.Native.Nat.{ℕ}
use mathlib.Core.Path.{◌≡◌, sym, ◌∙◌}
use mathlib.Core.Bool.{Bool}
use mathlib.Core.List.{List}
use Rattle.text.specs.Written.{Written}
use Rattle.rows.specs.Rows.{heading, end_text, broken_text}

written_determined : {d xs e e' : List ℕ} {at n r r' : ℕ} → Written d at n xs e r → Written d at n xs e' r' → (r ≡ r') × (e ≡ e')
written_determined p q = (p.put.next ∙ sym q.put.next, p.put.left ∙ sym q.put.left)

module _ {d e e' : List ℕ} {r r' : ℕ} where
  pub put_heading_determined : (asked : Bool) → Written d 0 80 (heading asked) e r → Written d 0 80 (heading asked) e' r' → (r ≡ r') × (e ≡ e')
  put_heading_determined asked p q = written_determined p q

  pub put_end_determined : (k : ℕ) → Written d 0 80 (end_text k) e r → Written d 0 80 (end_text k) e' r' → (r ≡ r') × (e ≡ e')
  put_end_determined k p q = written_determined p q

  pub put_broken_determined : (at : ℕ) → Written d 0 80 (broken_text at) e r → Written d 0 80 (broken_text at) e' r' → (r ≡ r') × (e ≡ e')
  put_broken_determined at p q = written_determined p q
