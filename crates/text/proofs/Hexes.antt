-- Octets in hexadecimal, one run after the other. Assumes nothing.
use Prim.Native.Nat.{ℕ, ◌+◌, ◌<◌}
use mathlib.Core.Path.{◌≡◌, refl}
use mathlib.Core.List.{List, [], ◌∷◌, ◌++◌, append_assoc}
use native.Mathlib.Numerals.{add-one}
use lib.ListN.{length, take, get_or}
use lib.Seq.{take-suc}
use Rattle.text.specs.Text.{hex, hexes}

pub hexes_append : (xs ys : List ℕ) → hexes (xs ++ ys) ≡ hexes xs ++ hexes ys
unfolding hexes
hexes_append [] ys = refl
hexes_append (x ∷ xs) ys = rw (hexes_append xs ys, append_assoc)

-- one octet more
pub hexes_more : (s : List ℕ) (i : ℕ) → i < length s → hexes (take i s) ++ hex (get_or s i 0) ≡ hexes (take (i + 1) s)
unfolding hexes hex
hexes_more s i h = rw (add-one, take-suc s i 0 h, hexes_append)
