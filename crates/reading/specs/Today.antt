-- What the readings into a lent table that name no rule answer and leave: rule 1. Assumes nothing.
use Rattle.std.specs.Prelude.{ℕ, List}
use Rattle.reference.specs.declared.TypeIdRule.TheVariants.{Multiple}
use Rattle.reference.specs.Refusals.{Told}
use Rattle.reference.specs.Meaning.{Reference}
use Rattle.reference.specs.Steps.{Answer}
use Rattle.reading.specs.Into as Into
use Rattle.reading.specs.Lent as Lent

abbrev pub ReadInto : Answer Reference → List ℕ → List ℕ → Told → Type 0
ReadInto = Into.ReadInto Multiple

abbrev pub ShowsInto : List ℕ → Reference → List ℕ → List ℕ → Type 0
ShowsInto = Lent.ShowsInto Multiple
