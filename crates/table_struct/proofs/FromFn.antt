-- An array that a closure makes which is a function: its entries are what the function gives. Assumes nothing.
use Rattle.std.proofs.Common.{◌≡◌, ℕ, zero, suc, ◌+◌, ◌<◌, List, get_or, ◌∙◌, subst, arith}
use Rattle.std.specs.Array.{IsFromFnResult, IsFromFnResultFrom}
use Rattle.std.specs.Iterator.{ActsAs}
use denote.Param.Members.{Mut}
use Rattle.table.specs.Region.{listed}
use Rattle.table.proofs.Listed.{listed_whole}

module _ {F B : Type 0} {g : Mut F (ℕ × Unit {0}) B} {f : F} {h : ℕ → B} (acts : ActsAs g f h) where
  each_from : (ys : List B) (i n : ℕ) → IsFromFnResultFrom g f ys i n → (k : ℕ) → k < n → (z : B) → get_or ys (i + k) z ≡ h (i + k)
  each_from ys i zero made k l z = absurd (omega arith)
  each_from ys i (suc n) made zero l z =
      let e : i ≡ i + 0 = omega arith in
      subst (λ (j : ℕ). get_or ys j z ≡ h j) e (made.2.1 z ∙ (acts i made.1 made.0 made.3).1)
  each_from ys i (suc n) made (suc k) l z =
      let e : i + 1 + k ≡ i + suc k = omega arith in
      let rest = subst (λ (q : F). IsFromFnResultFrom g q ys (i + 1) n) (acts i made.1 made.0 made.3).0 made.4 in
      subst (λ (j : ℕ). get_or ys j z ≡ h j) e (each_from ys (i + 1) n rest k (omega arith) z)

  pub from_fn_listed : {ys : List B} {n : ℕ} → IsFromFnResult g f ys n → ys ≡ listed n h
  from_fn_listed {ys} {n} made =
      listed_whole n h ys made.long λ i z l.
      let e : 0 + i ≡ i = omega arith in
      subst (λ (j : ℕ). get_or ys j z ≡ h j) e (each_from ys 0 n made.each i l z)
