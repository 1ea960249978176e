-- What writing that names neither a rule nor a way answers and leaves: rule 1, and an address with its constants. Assumes nothing.
use Rattle.std.specs.Prelude.{ℕ, List}
use Rattle.reference.specs.declared.TypeIdRule.TheVariants.{Multiple}
use Rattle.reference.specs.declared.AddressWay.TheVariants.{Constants}
use Rattle.reference.specs.declared.Tables.{Tables}
use Rattle.reference.specs.Refusals.{Told}
use Rattle.writing.specs.Writes as Rules

abbrev pub Writes : Tables → List ℕ → List ℕ → Told → List ℕ → Type 0
Writes = Rules.Writes Multiple Constants
