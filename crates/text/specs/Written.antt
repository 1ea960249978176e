-- What a function that puts text leaves, where only the most octets are known beforehand. Assumes nothing.
use Rattle.std.specs.Prelude.{ℕ, ◌+◌, ◌≤◌, List, length}
use Rattle.octets.specs.Put.{Put}

-- The text xs was put into d from index at on, which gave e; r is the index after it, at most `most` further.
pub record Written (d : List ℕ) (at most : ℕ) (xs e : List ℕ) (r : ℕ) : Type 0 where
  pub put : Put d at (length xs) xs e r
  pub within : r ≤ at + most
