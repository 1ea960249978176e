-- What writing tables over a source answers and leaves in the output. Assumes nothing.
use Rattle.std.specs.Prelude.{◌≡◌, List, ℕ}
use Rattle.reference.specs.declared.TypeIdRule.{TypeIdRule}
use Rattle.reference.specs.declared.AddressWay.{AddressWay}
use Rattle.reference.specs.declared.Tables.{Tables}
use Rattle.reference.specs.Refusals.{Told}
use Rattle.reference.specs.Writer as Writer

-- the tables t over the source s, under the rule and in the way, into an output that held d and then holds e; r is the answer
pub record Writes (rule : TypeIdRule) (way : AddressWay) (t : Tables) (s d : List ℕ) (r : Told) (e : List ℕ) : Type 0 where
  pub answers : r ≡ Writer.written rule t s d
  pub leaves : e ≡ Writer.leaves rule way t s d
