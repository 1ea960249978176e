-- A cache of two records, of one octet and of none, and a cut third, walked by the definition. Assumes nothing.
use Prim.Native.Nat.{ℕ}
use mathlib.Core.Path.{◌≡◌, refl}
use mathlib.Core.List.{List, [], ◌∷◌}
use Rattle.octets.specs.Octets.{be}
use Rattle.records.specs.Records.{record_at}
use Rattle.records.specs.Walk.{Piece, broken, walk_from, walk_on, walk, contents}

abbrev cache : List ℕ
cache = 0x4F ∷ 0x52 ∷ 0 ∷ 1 ∷ 7 ∷ 0x4F ∷ 0x52 ∷ 0 ∷ 0 ∷ 0x4F ∷ 0x52 ∷ 0 ∷ 2 ∷ 9 ∷ []

abbrev piece : ℕ → ℕ → ℕ → Piece
piece mark start stop = record { mark = mark; start = start; stop = stop }

pub example : walk cache ≡ record { pieces = piece 0 4 5 ∷ piece 5 9 9 ∷ []; ending = broken 9 }
unfolding be record_at walk_from walk_on
example = refl

pub held : contents cache (walk cache) ≡ (7 ∷ []) ∷ [] ∷ []
unfolding be record_at walk_from walk_on
held = refl
