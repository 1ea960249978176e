-- Octets FF. Assumes nothing.
use Rattle.std.specs.Prelude.{ℕ, ◌≡◌, ◌≢◌, Bool, true, false, List, replicate}
use Rattle.octets.specs.Octets.{part}

abbrev pub blank : ℕ → List ℕ
blank k = replicate k 0xFF

-- what stands in d from index at on are k of them, or is not
abbrev pub IsBlank : List ℕ → ℕ → ℕ → Bool → Type 0
IsBlank d at k true = part d at k ≡ blank k
IsBlank d at k false = part d at k ≢ blank k
