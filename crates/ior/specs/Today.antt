-- What measuring and writing from a lent table that name neither a rule nor a way answer and leave: rule 1, and an address with its constants.
-- Assumes nothing.
use Rattle.std.specs.Prelude.{ℕ, List}
use Rattle.reference.specs.declared.TypeIdRule.TheVariants.{Multiple}
use Rattle.reference.specs.declared.AddressWay.TheVariants.{Constants}
use Rattle.reference.specs.Refusals.{Told}
use Rattle.ior.specs.Lent as Lent

abbrev pub measured_from : (t s : List ℕ) → Told
measured_from = Lent.measured_from Multiple

abbrev pub WritesFrom : (t s d : List ℕ) → Told → List ℕ → Type 0
WritesFrom = Lent.WritesFrom Multiple Constants
