use mathlib.Core.Path.{refl}
use Rattle.reference.specs.Tabled.{filled}
use Rattle.reference.proofs.no_tables.Goals as goal

-- `reference::no_tables` meets its contract. Assumes nothing.
pub returns : goal.returns
unfolding filled
returns c = refl
