-- What measuring and writing share: what they tell of a table that is not sound. Assumes nothing.
use Rattle.std.specs.Prelude.{ℕ, ◌≡◌, List, Err}
use Rattle.faults.specs.declared.Unsound.{Unsound}
use Rattle.faults.specs.declared.Unsound.TheVariants.{NotExact, Refused}
use Rattle.ior_c.specs.Said.{number_of, numbers_of}

-- what is told of an unsound table, in an answer that held a
abbrev pub UnsoundTold : Unsound → (a : List ℕ) (r : ℕ) (b : List ℕ) → Type 0
UnsoundTold NotExact a r b = (r ≡ 255) × (b ≡ a)
UnsoundTold (Refused x) a r b = (r ≡ number_of (Err x)) × (b ≡ numbers_of (Err x))
