-- The rows of a region: after entries were stored there, after anything was put elsewhere, and the entries that they tell. Assumes nothing.
use Prim.Native.Nat.{ℕ, zero, suc, ◌+◌, ◌-◌, ◌*◌, ◌<◌, ◌≤◌}
use mathlib.Core.Path.{◌≡◌, sym, ap, ◌∙◌}
use mathlib.Core.List.{List, [], ◌∷◌, ◌++◌, map}
use native.Mathlib.Nat.{mul-zero, mul-suc, mul-le-mul_left}
use native.Mathlib.Omega.{arith}
use lib.ListN.{length, take, drop, get_or, length-map, length-drop}
use lib.Seq.{take_all, take_at, take-append-le, drop-append-add, drop-append-le, length-take-le}
use Rattle.octets.specs.Octets.{part, joined, splice}
use Rattle.octets.proofs.Splice.{splice_before, splice_behind}
use Rattle.table.specs.Region.{Region, entry, past, stored, listed, rows}
use Rattle.table.proofs.Listed.{listed_over, listed_alike, listed_map}
use Rattle.table.proofs.Stored.{numbers_length, span}

-- a part of what was put
splice_inside : (d : List ℕ) (at : ℕ) (xs : List ℕ) (a n : ℕ) → at ≤ length d → a + n ≤ length xs → part (splice d at xs) (at + a) n ≡ part xs a n
unfolding splice
splice_inside d at xs a n h k =
    let r = drop (at + length xs) d in
    ap (λ (p : ℕ). part (take at d ++ (xs ++ r)) (p + a) n) (sym (length-take-le at d h))
    ∙ ap (take n) (drop-append-add (take at d) (xs ++ r) a ∙ drop-append-le a xs r (omega arith))
    ∙ take-append-le n (drop a xs) r (omega (arith, length-drop a xs))

module _ {E : Type 0} (g : Region E) where
  -- row i of entries one after the other
  joined_row : (xs : List E) (i : ℕ) (z : List ℕ) → i < length xs → part (joined (map g.numbers xs)) (g.width * i) g.width ≡ get_or (map g.numbers xs) i z
  joined_row [] i z h = absurd (omega arith)
  joined_row (x ∷ xs) zero z h =
      let l = joined (map g.numbers xs) in
      ap (λ (k : ℕ). part (g.numbers x ++ l) k g.width) (mul-zero g.width) ∙ take_at (g.numbers x) l g.width (g.wide x)
  joined_row (x ∷ xs) (suc i) z h =
      let l = joined (map g.numbers xs) in
      let e : g.width * suc i ≡ length (g.numbers x) + g.width * i = omega (arith, mul-suc g.width i, g.wide x) in
      ap (λ (k : ℕ). part (g.numbers x ++ l) k g.width) e ∙ ap (take g.width) (drop-append-add (g.numbers x) l (g.width * i)) ∙ joined_row xs i z (omega arith)

  -- after entries were stored from the first on
  pub rows_stored : (t : List ℕ) (xs : List E) → length xs ≤ g.size → past g ≤ length t → rows g (stored g t 0 xs) ≡ map g.numbers xs ++ drop (length xs) (rows g t)
  unfolding rows stored
  rows_stored t xs fits room =
      let w = g.width in
      let ls = map g.numbers xs in
      let e = splice t (entry g 0) (joined ls) in
      let n : length ls ≡ length xs = length-map xs g.numbers in
      let inside : entry g 0 ≤ length t = omega (arith, mul-zero w, span g 0 xs (omega arith)) in
      ap (λ (l : List E). rows g (splice t (entry g 0) (joined (map g.numbers l)))) (take_all (g.size - 0) xs (omega arith))
      ∙ listed_over ls g.size (λ i. part e (entry g i) w) (λ i. part t (entry g i) w) (omega arith)
      (λ i z k.
      let p : entry g i ≡ entry g 0 + w * i = omega (arith, mul-zero w) in
      ap (λ (j : ℕ). part e j w) p ∙ splice_inside t (entry g 0) (joined ls) (w * i) w inside (omega (arith, numbers_length g xs, mul-suc w i, mul-le-mul_left w (before i k n)))
      ∙ joined_row xs i z (omega arith))
      (λ i k l. ap (take w) (splice_behind t (entry g 0) (joined ls) inside (entry g i) (omega (arith, numbers_length g xs, mul-zero w, mul-le-mul_left w (behind i k n)))))
      ∙ ap (λ (k : ℕ). ls ++ drop k (rows g t)) n
    where
      before : (i : ℕ) {m : ℕ} → i < m → m ≡ length xs → suc i ≤ length xs
      before i h e = omega arith

      behind : (i : ℕ) {m : ℕ} → m ≤ i → m ≡ length xs → length xs ≤ i
      behind i h e = omega arith

  -- a run before it or behind it changes nothing
  pub rows_before : (t : List ℕ) (at : ℕ) (xs : List ℕ) → at + length xs ≤ g.start → g.start ≤ length t → rows g (splice t at xs) ≡ rows g t
  unfolding rows
  rows_before t at xs h i = listed_alike g.size _ _ (λ j k. ap (take g.width) (splice_behind t at xs (omega arith) (entry g j) (omega arith)))

  rows_behind : (t : List ℕ) (at : ℕ) (xs : List ℕ) → past g ≤ at → at ≤ length t → rows g (splice t at xs) ≡ rows g t
  unfolding rows
  rows_behind t at xs h i =
      listed_alike g.size _ _ (λ j k. splice_before t at xs i (entry g j) g.width (omega (arith, mul-suc g.width j, mul-le-mul_left g.width k)))

  -- nor do entries of a sort before it, or of one behind it
  module _ {F : Type 0} (h : Region F) (t : List ℕ) (ys : List F) where
    pub rows_over : past h ≤ g.start → g.start ≤ length t → rows g (stored h t 0 ys) ≡ rows g t
    unfolding stored
    rows_over a i = rows_before t (entry h 0) _ (omega (arith, span h 0 ys (omega arith))) i

    pub rows_under : past g ≤ h.start → h.start ≤ length t → rows g (stored h t 0 ys) ≡ rows g t
    unfolding stored
    rows_under a i = rows_behind t (entry h 0) _ (omega (arith, mul-zero h.width)) (omega (arith, mul-zero h.width))

  -- entries that their own numbers tell are told by the rows
  pub told_rows : {F : Type 0} (from : List ℕ → ℕ → F) → ((t : List ℕ) (k : ℕ) → from (part t k g.width) 0 ≡ from t k)
      → (t : List ℕ) → listed g.size (λ i. from t (entry g i)) ≡ map (λ r. from r 0) (rows g t)
  unfolding rows
  told_rows from near t =
      sym (listed_map (λ r. from r 0) g.size (λ i. part t (entry g i) g.width) ∙ listed_alike g.size _ _ (λ i k. near t (entry g i)))
