-- A loop that writes entries, over the sort of entry and its writer: what it has put and what is left make the whole. Assumes nothing.
use mathlib.Core.Path.{◌≡◌, refl, ap, ◌∙◌, subst}
use Prim.Native.Nat.{ℕ, ◌+◌, ◌≤◌}
use native.Mathlib.Nat.{zero-add, add_assoc}
use native.Mathlib.Omega.{arith}
use mathlib.Core.List.{List, [], ◌∷◌, ◌++◌, map, append_assoc}
use lib.ListN.{length}
use Rattle.octets.specs.Octets.{Each, joined}
use Rattle.octets.specs.Put.{Put}
use Rattle.octets.proofs.Put.{none, then, kept}
use Rattle.reference.specs.Meaning.{sum}

-- Entries mean f, lay is what a meaning looks like, g the size, P what the writer asks. Of `all`, everything but xs was put into d from at on,
-- which gave e, up to r.
pub record Left {A B : Type 0} (f : A → B) (lay : B → List ℕ) (g : A → ℕ) (P : A → Type 0) (d : List ℕ) (at : ℕ) (all xs : List A) (e : List ℕ) (r : ℕ) : Type 0 where
  pub done : List ℕ
  pub count : ℕ
  pub put : Put d at count done e r
  pub whole : done ++ joined (map lay (map f xs)) ≡ joined (map lay (map f all))
  pub sums : count + sum g xs ≡ sum g all
  pub sound : Each P xs

module _ {A B : Type 0} {f : A → B} {lay : B → List ℕ} {g : A → ℕ} {P : A → Type 0} {d : List ℕ} {at : ℕ} {all : List A} where
  pub begin : {xs : List A} → xs ≡ all → at ≤ length d → Each P all → Left f lay g P d at all xs d at
  begin {xs} o h p = rw o (record { done = []; count = 0; put = none d at h; whole = refl; sums = zero-add (sum g all); sound = p })

  module _ {xs ys : List A} {x : A} {e : List ℕ} {r : ℕ} (o : xs ≡ x ∷ ys) (l : Left f lay g P d at all xs e r) where
    -- the next entry
    pub turn : {e' : List ℕ} {r' : ℕ} → Put e r (g x) (lay (f x)) e' r' → Left f lay g P d at all ys e' r'
    turn p =
        let m : Left f lay g P d at all (x ∷ ys) e r = subst (λ (q : List A). Left f lay g P d at all q e r) o l in
        record {
          done = m.done ++ lay (f x);
          count = m.count + g x;
          put = then m.put p;
          whole = append_assoc m.done (lay (f x)) (joined (map lay (map f ys))) ∙ m.whole;
          sums = add_assoc m.count (g x) (sum g ys) ∙ m.sums;
          sound = m.sound.1;
        }

    -- its writer gets what it asks for
    pub fits : P x
    fits = (subst (Each P) o l.sound).0

    pub room : at + sum g all ≤ length d → r + g x ≤ length e
    room h = omega (arith, ap (sum g) o, l.put.next, l.sums, kept l.put)
