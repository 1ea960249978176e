-- The writer's contract: the answer, and every octet of the output. Assumes nothing.
use Rattle.std.specs.Prelude.{ℕ, ◌≡◌, List}
use Rattle.reference.specs.declared.NameComponent.{NameComponent}
use Rattle.reference.specs.Refusals.{Told}
use Rattle.reference.specs.Names.{short_written, short_leaves}

-- The name x over the source s was written into the output d: the answer is r, and the output then holds e.
pub record Writes (x : NameComponent) (s d : List ℕ) (r : Told) (e : List ℕ) : Type 0 where
  pub answers : r ≡ short_written x s d
  pub leaves : e ≡ short_leaves x s d
