-- A list whose elements a function of the index tells, as a loop meets them: the used entries of a lent table, and some of them in a row. Assumes nothing.
use Prim.Native.Nat.{ℕ, suc, ◌+◌, ◌<◌, ◌≤◌}
use mathlib.Core.Path.{◌≡◌, sym, ap, ◌∙◌}
use mathlib.Core.List.{List, [], ◌∷◌}
use native.Mathlib.Numerals.{add-one}
use native.Mathlib.Omega.{arith}
use lib.ListN.{length, take, drop, get_or, drop_of_length-le}
use lib.Seq.{drop-cons, get_or-take, length-take-le}
use Rattle.std.proofs.lemmas.List.{same_lists}
use Rattle.octets.specs.Octets.{part}
use Rattle.octets.proofs.Part.{length_part, part_get}
use Rattle.table.specs.Region.{listed}
use Rattle.table.proofs.Listed.{listed_length, listed_get}

pub record Listed {E : Type 0} (xs : List E) (e : ℕ → E) (n : ℕ) : Type 0 where
  pub size : length xs ≡ n
  pub tells : (i : ℕ) (z : E) → i < n → get_or xs i z ≡ e i

module _ {E : Type 0} {xs : List E} {e : ℕ → E} {n : ℕ} (l : Listed xs e n) where
  -- what is left at entry i
  pub opens : (i : ℕ) → i < n → drop i xs ≡ e i ∷ drop (i + 1) xs
  opens i h =
      drop-cons xs i (e i) (omega (arith, l.size)) ∙ ap (λ (x : E). x ∷ drop (suc i) xs) (l.tells i (e i) h) ∙ ap (λ (k : ℕ). e i ∷ drop k xs) (sym (add-one i))

  pub ends : (i : ℕ) → n ≤ i → drop i xs ≡ []
  ends i h = let k : length xs ≤ i = omega (arith, l.size) in drop_of_length-le xs k

  pub all_listed : xs ≡ listed n e
  all_listed =
      same_lists xs (listed n e) (l.size ∙ sym (listed_length n e)) (λ i z h. l.tells i z (omega (arith, l.size)) ∙ sym (listed_get n e i z (omega (arith, l.size))))

  -- count of them from first on
  pub some : (first count : ℕ) → first + count ≤ n → Listed (part xs first count) (λ j. e (first + j)) count
  some first count h =
      record {
        size = length_part xs first count (omega (arith, l.size));
        tells = λ i z k. sym (part_get xs first count i z k) ∙ l.tells (first + i) z (omega arith);
      }

-- the first n of m
pub first_listed : {E : Type 0} (e : ℕ → E) (m n : ℕ) → n ≤ m → Listed (take n (listed m e)) e n
first_listed e m n h =
    record { size = length-take-le n (listed m e) (omega (arith, listed_length m e)); tells = λ i z k. get_or-take n (listed m e) i z k ∙ listed_get m e i z (omega arith) }

pub whole_listed : {E : Type 0} (e : ℕ → E) (n : ℕ) → Listed (listed n e) e n
whole_listed e n = record { size = listed_length n e; tells = λ i z k. listed_get n e i z k }
