-- Text in ASCII: words, numbers in decimal, octets in hexadecimal. Assumes nothing.
use Rattle.std.specs.Prelude.{ℕ, zero, suc, ◌+◌, ◌/◌, ◌%◌, cond, List, [], ◌∷◌, ◌++◌, ltb}
use Prim.Native.Char.{code}
use Prim.Native.String.{String, [] as end, ◌∷◌ as then}

-- words as they stand
abbrev pub ascii : String → List ℕ
ascii end = []
ascii (then c s) = code c ∷ ascii s

-- the decimal digits of a number that has at most k: the last one stands behind those of the tenth
unfoldable pub digits_in : ℕ → ℕ → List ℕ
digits_in zero n = []
digits_in (suc k) n = cond (ltb n 10) ((48 + n) ∷ []) (digits_in k (n / 10) ++ ((48 + n % 10) ∷ []))

-- a number has at most one digit more than its value
unfoldable pub decimal : ℕ → List ℕ
decimal n = digits_in (suc n) n

-- the hexadecimal digit of a number below 16: `0` to `9`, then `a` to `f`
abbrev pub glyph : ℕ → ℕ
glyph d = cond (ltb d 10) (48 + d) (87 + d)

-- an octet, and octets one after the other
unfoldable pub hex : ℕ → List ℕ
hex v = glyph (v / 16) ∷ glyph (v % 16) ∷ []

unfoldable pub hexes : List ℕ → List ℕ
hexes [] = []
hexes (x ∷ xs) = hex x ++ hexes xs
