use mathlib.Core.Path.{◌≡◌}
use Prim.Native.Nat.{◌-◌}
use lib.ListN.{length}
use Rattle.rows.specs.Rows.{Rowed}
use Rattle.table.specs.Flat.{Lent}
use Rattle.rows.proofs.put_rows.Given as goal

-- `rows::put_rows` meets its contract. Each turn puts one row and goes on behind its record. Assumes nothing.
abbrev pub invariant-loop-used : goal.invariant-loop-used
invariant-loop-used l = (Rowed l.is_where l.base l.block l.at l.seen l.page l.next l.count l.used) × (Lent l.table) × (length l.page ≡ l.room)

abbrev pub decreases-loop-used : goal.decreases-loop-used
decreases-loop-used l = length l.block - l.next
