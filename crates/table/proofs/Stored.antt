-- The laws of entries stored in a table of numbers, over the entry's width and sort: entries after entries, sorts in either order.
-- Each asks only that the region lies within the table, nothing of the first entry's number or of how many there are. Assumes nothing.
use Prim.Native.Nat.{ℕ, ◌+◌, ◌-◌, ◌*◌, ◌<◌, ◌≤◌}
use mathlib.Core.Path.{◌≡◌, refl, sym, ap, ◌∙◌}
use mathlib.Core.List.{List, [], ◌∷◌, ◌++◌, map, append_assoc, append-nil}
use mathlib.Core.Logic.{⊎_elim}
use native.Mathlib.Nat.{mul-le-mul_left, mul-add, mul-suc, mul-zero, le_of_lt}
use native.Mathlib.Numerals.{add-one}
use native.Mathlib.Omega.{arith}
use lib.ListN.{length, take, get_or, length-append, length-take}
use lib.Seq.{take-suc, length-take-le, take_all, take-append-le, take-append-add}
use Rattle.octets.specs.Octets.{joined, splice}
use Rattle.octets.proofs.Splice.{splice_length, splice_none, splice_splice, splice_comm}
use Rattle.reference.proofs.Constants.{side}
use Rattle.table.specs.Region.{Region, stored, entry, past}

pub joined_append : (xs ys : List (List ℕ)) → joined (xs ++ ys) ≡ joined xs ++ joined ys
joined_append [] ys = refl
joined_append (x ∷ xs) ys = ap (λ (r : List ℕ). x ++ r) (joined_append xs ys) ∙ sym (append_assoc x (joined xs) (joined ys))

pub map_append : {A B : Type 0} (f : A → B) (xs ys : List A) → map f (xs ++ ys) ≡ map f xs ++ map f ys
map_append f [] ys = refl
map_append {B = B} f (x ∷ xs) ys = ap (λ (r : List B). f x ∷ r) (map_append f xs ys)

module _ {E : Type 0} (g : Region E) where
  pub stored_full : (t : List ℕ) (k : ℕ) (xs : List E) → g.size ≤ k → stored g t k xs ≡ t
  unfolding stored
  stored_full t k xs h =
      let z : g.size - k ≡ 0 = omega arith in
      ap (λ (n : ℕ). splice t (entry g k) (joined (map g.numbers (take n xs)))) z ∙ splice_none t _

  pub stored_none : (t : List ℕ) (k : ℕ) → stored g t k [] ≡ t
  unfolding stored
  stored_none t k = ap (λ (x : List E). splice t (entry g k) (joined (map g.numbers x))) (take_all (g.size - k) [] (omega arith)) ∙ splice_none t _

  pub stored_one : (t : List ℕ) (k : ℕ) (x : E) → k < g.size → stored g t k (x ∷ []) ≡ splice t (entry g k) (g.numbers x)
  unfolding stored
  stored_one t k x h =
      ap (λ (l : List E). splice t (entry g k) (joined (map g.numbers l))) (take_all (g.size - k) (x ∷ []) (omega arith))
      ∙ ap (splice t (entry g k)) (append-nil (g.numbers x))

  pub numbers_length : (xs : List E) → length (joined (map g.numbers xs)) ≡ g.width * length xs
  numbers_length [] = sym (mul-zero g.width)
  numbers_length (x ∷ xs) =
      length-append (g.numbers x) (joined (map g.numbers xs)) ∙ omega (arith, g.wide x, numbers_length xs, mul-suc g.width (length xs))

  -- they stay in the region
  pub span : (k : ℕ) (xs : List E) → k ≤ g.size → entry g k + length (joined (map g.numbers (take (g.size - k) xs))) ≤ past g
  span k xs h =
      let ys = take (g.size - k) xs in
      let c : k + length ys ≤ g.size = omega (arith, length-take (g.size - k) xs) in
      omega (arith, numbers_length ys, mul-add g.width k (length ys), mul-le-mul_left g.width c)

  module _ (t : List ℕ) (k : ℕ) (room : past g ≤ length t) where
    pub here : k ≤ g.size → entry g k ≤ length t
    here h = omega (arith, mul-le-mul_left g.width h)

    pub stored_length : (xs : List E) → length (stored g t k xs) ≡ length t
    unfolding stored
    stored_length xs = ⊎_elim fits over (side k g.size)
      where
        fits : k ≤ g.size → length (stored g t k xs) ≡ length t
        fits h =
            splice_length t (entry g k) (joined (map g.numbers (take (g.size - k) xs))) (omega (arith, span k xs h))

        over : g.size < k → length (stored g t k xs) ≡ length t
        over h = ap length (stored_full t k xs (omega arith))

    -- THE law: entries after entries
    pub stored_append : (xs ys : List E) → stored g (stored g t k xs) (k + length xs) ys ≡ stored g t k (xs ++ ys)
    unfolding stored
    stored_append xs ys = ⊎_elim fits over (side (k + length xs) g.size)
      where
        at : ℕ
        at = entry g k

        put : List E → List ℕ
        put l = joined (map g.numbers l)

        fits : k + length xs ≤ g.size → stored g (stored g t k xs) (k + length xs) ys ≡ stored g t k (xs ++ ys)
        fits f =
            let n = g.size - (k + length xs) in
            let e : g.size - k ≡ length xs + n = omega arith in
            let m : entry g (k + length xs) ≡ at + length (put xs) = omega (arith, mul-add g.width k (length xs), numbers_length xs) in
            ap (λ (l : List E). splice (splice t at (put l)) (entry g (k + length xs)) (put (take n ys))) (take_all (g.size - k) xs (omega arith))
            ∙ ap (λ (p : ℕ). splice (splice t at (put xs)) p (put (take n ys))) m
            ∙ splice_splice t at (put xs) (put (take n ys)) (here (omega arith))
            ∙ ap (splice t at) (sym (joined_append (map g.numbers xs) (map g.numbers (take n ys))) ∙ ap joined (sym (map_append g.numbers xs (take n ys))))
            ∙ ap (λ (l : List E). splice t at (put l)) (sym (take-append-add xs ys n) ∙ ap (λ (j : ℕ). take j (xs ++ ys)) (sym e))

        over : g.size < k + length xs → stored g (stored g t k xs) (k + length xs) ys ≡ stored g t k (xs ++ ys)
        over o =
            stored_full (stored g t k xs) (k + length xs) ys (omega arith)
            ∙ ap (λ (l : List E). splice t at (put l)) (sym (take-append-le (g.size - k) xs ys (omega arith)))

-- entries of two sorts, whose regions do not meet, may be stored in either order
pub stored_comm : {E F : Type 0} (g : Region E) (h : Region F) (t : List ℕ) (j : ℕ) (xs : List E) (k : ℕ) (ys : List F)
    → past g ≤ h.start → past h ≤ length t → stored h (stored g t j xs) k ys ≡ stored g (stored h t k ys) j xs
unfolding stored
stored_comm g h t j xs k ys apart room =
    ⊎_elim
    (λ a. ⊎_elim
    (λ b. splice_comm (entry g j) t _ (entry h k) _ (omega (arith, span g j xs a)) (omega (arith, span h k ys b)))
    (λ b. stored_full h (stored g t j xs) k ys (omega arith) ∙ sym (ap (λ (x : List ℕ). stored g x j xs) (stored_full h t k ys (omega arith))))
    (side k h.size))
    (λ a. ap (λ (x : List ℕ). stored h x k ys) (stored_full g t j xs (omega arith)) ∙ sym (stored_full g (stored h t k ys) j xs (omega arith)))
    (side j g.size)

-- the store with its test
pub stored_in : {E : Type 0} (g : Region E) (t : List ℕ) (k : ℕ) (x : E) {t' : List ℕ} → k < g.size → t' ≡ splice t (entry g k) (g.numbers x) → t' ≡ stored g t k (x ∷ [])
stored_in g t k x h p = p ∙ sym (stored_one g t k x h)

pub stored_out : {E : Type 0} (g : Region E) (t : List ℕ) (k : ℕ) (x : E) {t' : List ℕ} → g.size ≤ k → t' ≡ t → t' ≡ stored g t k (x ∷ [])
stored_out g t k x h p = p ∙ sym (stored_full g t k (x ∷ []) h)

-- a loop that stores entry after entry: the first i of xs stand in u, and with x one more stands in u'
pub stored_turn : {E : Type 0} (g : Region E) (t : List ℕ) (xs : List E) (i : ℕ) {x : E} {u u' : List ℕ} → past g ≤ length t → i < length xs → i < g.size → x ≡ get_or xs i x
    → u ≡ stored g t 0 (take i xs) → u' ≡ splice u (entry g i) (g.numbers x) → u' ≡ stored g t 0 (take (i + 1) xs)
stored_turn {E} g t xs i {x} {u} {u'} room h s e first then =
    let k : i ≡ 0 + length (take i xs) = omega (arith, length-take-le i xs (le_of_lt h)) in
    then
    ∙ ap (λ (v : List ℕ). splice v (entry g i) (g.numbers x)) first
    ∙ sym (stored_one g (stored g t 0 (take i xs)) i x s)
    ∙ ap (λ (j : ℕ). stored g (stored g t 0 (take i xs)) j (x ∷ [])) k
    ∙ stored_append g t 0 room (take i xs) (x ∷ [])
    ∙ ap (λ (y : E). stored g t 0 (take i xs ++ (y ∷ []))) e
    ∙ ap (stored g t 0) (sym (take-suc xs i x h))
    ∙ ap (λ (j : ℕ). stored g t 0 (take j xs)) (sym (add-one i))
