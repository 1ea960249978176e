-- A list whose first i elements were replaced by another's: what a loop goes by that stores element by element. Assumes nothing.
use Prim.Native.Nat.{ℕ, suc, ◌+◌, ◌<◌, ◌≤◌}
use mathlib.Core.Path.{◌≡◌, refl, sym, ap, ap₂, ◌∙◌}
use mathlib.Core.List.{List, ◌++◌, append-nil}
use native.Mathlib.Numerals.{add-one}
use native.Mathlib.Omega.{arith}
use lib.ListN.{length, take, drop, get_or, set, length-set, drop_of_length-le}
use lib.Seq.{drop-cons, set_at, append_snoc, take-suc, take_all, length-take-le}

-- of l₀'s n elements the first i were replaced by those of xs, and that is l
pub record Replaced {A : Type 0} (n : ℕ) (xs l₀ l : List A) (i : ℕ) : Type 0 where
  pub size : length xs ≡ n
  pub first : length l₀ ≡ n
  pub long : length l ≡ n
  pub most : i ≤ n
  pub same : l ≡ take i xs ++ drop i l₀

module _ {A : Type 0} {n : ℕ} {xs l₀ : List A} where
  pub begin : length xs ≡ n → length l₀ ≡ n → Replaced n xs l₀ l₀ 0
  begin h m = record { size = h; first = m; long = m; most = omega arith; same = refl }

  -- one element more
  pub turn : {l : List A} {i : ℕ} {v : A} → Replaced n xs l₀ l i → (z : A) → i < n → v ≡ get_or xs i z → Replaced n xs l₀ (set l i v) (i + 1)
  turn {l} {i} {v} h z m e =
      let s : length xs ≡ n = h.size in
      let f : length l₀ ≡ n = h.first in
      let x = get_or xs i z in
      record {
        size = s;
        first = f;
        long = length-set l i v ∙ h.long;
        most = omega arith;
        same =
            ap₂ (λ (r : List A) (y : A). set r i y) (h.same ∙ ap (λ (r : List A). take i xs ++ r) (drop-cons l₀ i z (omega arith))) e
            ∙ set_at (take i xs) (get_or l₀ i z) (drop (suc i) l₀) x i (length-take-le i xs (omega arith))
            ∙ sym (append_snoc (take i xs) x (drop (suc i) l₀))
            ∙ ap (λ (r : List A). r ++ drop (suc i) l₀) (sym (take-suc xs i z (omega arith)))
            ∙ ap (λ (k : ℕ). take k xs ++ drop k l₀) (sym (add-one i));
      }

  -- all of them
  pub finish : {l : List A} {i : ℕ} → Replaced n xs l₀ l i → n ≤ i → l ≡ xs
  finish {l} {i} h m =
      let s : length xs ≡ n = h.size in
      let e : length l₀ ≤ i = omega (arith, h.first) in
      h.same ∙ ap (λ (r : List A). take i xs ++ r) (drop_of_length-le l₀ e) ∙ append-nil (take i xs) ∙ take_all i xs (omega arith)
