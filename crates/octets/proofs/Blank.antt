-- Octets FF, one by one. Assumes nothing.
use Prim.Native.Nat.{ℕ, zero, suc, ◌+◌, ◌<◌}
use mathlib.Core.Path.{◌≡◌, refl, sym, ap, ◌∙◌}
use mathlib.Core.List.{List, [], ◌∷◌, ◌++◌}
use native.Mathlib.Numerals.{add-one}
use lib.ListN.{length, get_or}
use lib.Dec.{lit<}
use Rattle.octets.specs.Octets.{Octets, part}
use Rattle.octets.specs.Blank.{blank}
use Rattle.octets.proofs.Part.{part_more}

pub length_blank : (k : ℕ) → length (blank k) ≡ k
length_blank zero = refl
length_blank (suc k) = ap suc (length_blank k)

pub blank_octets : (k : ℕ) → Octets (blank k)
blank_octets zero = tt
blank_octets (suc k) = (lit< tt, blank_octets k)

pub blank_more : (k : ℕ) → blank (k + 1) ≡ blank k ++ (0xFF ∷ [])
blank_more k = ap blank (add-one k) ∙ go k
  where
    go : (k : ℕ) → blank (suc k) ≡ blank k ++ (0xFF ∷ [])
    go zero = refl
    go (suc k) = ap (λ (l : List ℕ). 0xFF ∷ l) (go k)

module _ (d : List ℕ) (at : ℕ) where
  -- one more
  pub goes_on_lem : (i : ℕ) → at + i < length d → part d at i ≡ blank i → get_or d (at + i) 0 ≡ 0xFF → part d at (i + 1) ≡ blank (i + 1)
  goes_on_lem i h p e = part_more d at i 0 h ∙ (λ j. p j ++ (e j ∷ [])) ∙ sym (blank_more i)
