-- What a loop that writes `count` entries of a table from `first` on goes by, whatever their sort. Assumes nothing.
use Prim.Native.Nat.{ℕ, ◌+◌, ◌-◌, ◌<◌, ◌≤◌}
use mathlib.Core.Path.{◌≡◌, sym, ap, ◌∙◌}
use mathlib.Core.List.{List, ◌∷◌, map}
use native.Mathlib.Omega.{arith}
use lib.ListN.{length, get_or}
use Rattle.octets.specs.Octets.{Each, part}
use Rattle.octets.specs.Put.{Put}
use Rattle.octets.proofs.Part.{length_part, part_cons}
use Rattle.reference.specs.Meaning.{sum}
use Rattle.reference.proofs.Sizes.{length-map}
use Rattle.write_parts.proofs.Left as Rest
use Rattle.write_parts.proofs.Left.{Left}

-- how many meanings the entries have
pub part_count : {E B : Type 0} (l : List E) (first count : ℕ) (f : E → B) → first + count ≤ length l → length (map f (part l first count)) ≡ count
part_count l first count f h = length-map f (part l first count) ∙ length_part l first count h

-- the entries of l from k on that are left of `count` from `first` on
abbrev pub ahead : {E : Type 0} → List E → ℕ → ℕ → ℕ → List E
ahead l first count k = part l k (first + count - k)

-- At entry k of l: what is left of the entries is still to be put, there is room for all, and all stand in l.
pub record Going {E B : Type 0} (l : List E) (first count : ℕ) (f : E → B) (lay : B → List ℕ) (g : E → ℕ) (P : E → Type 0) (d : List ℕ) (at : ℕ) (e : List ℕ) (r k : ℕ) : Type 0 where
  pub stand : first + count ≤ length l
  pub roomy : at + sum g (part l first count) ≤ length d
  pub left : Left f lay g P d at (part l first count) (ahead l first count k) e r

module _ {E B : Type 0} {l : List E} {first count : ℕ} {f : E → B} {lay : B → List ℕ} {g : E → ℕ} {P : E → Type 0} {d : List ℕ} {at : ℕ} where
  pub begin : first + count ≤ length l → at + sum g (part l first count) ≤ length d → Each P (part l first count) → Going l first count f lay g P d at d at first
  begin h k p =
      let all : first + count - first ≡ count = omega arith in
      record { stand = h; roomy = k; left = Rest.begin (ap (part l first) all) (omega arith) p }

  -- the entry that a turn writes is x, as the table tells it
  module _ {e : List ℕ} {r k : ℕ} (w : Going l first count f lay g P d at e r k) (h : k < first + count) (z : E) {x y : E} (q : get_or l k z ≡ y) (told : x ≡ y) where
    opened : ahead l first count k ≡ x ∷ ahead l first count (k + 1)
    opened =
        let more : first + count - k ≡ (first + count - (k + 1)) + 1 = omega arith in
        ap (part l k) more ∙ part_cons l k (first + count - (k + 1)) z (omega (arith, w.stand)) ∙ ap (λ (y : E). y ∷ ahead l first count (k + 1)) (q ∙ sym told)

    -- its writer gets what it asks for
    pub asks : (P x) × (r + g x ≤ length e)
    asks = (Rest.fits opened w.left, Rest.room opened w.left w.roomy)

    pub turn : {e' : List ℕ} {r' : ℕ} → Put e r (g x) (lay (f x)) e' r' → Going l first count f lay g P d at e' r' (k + 1)
    turn p = record { stand = w.stand; roomy = w.roomy; left = Rest.turn opened w.left p }
