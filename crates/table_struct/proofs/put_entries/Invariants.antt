use Rattle.std.proofs.Common.{◌≡◌, take}
use Rattle.table.specs.Region.{stored}
use Rattle.table_struct.proofs.put_entries.Given as goal

-- `table_struct::put_entries` meets its contract. Entry by entry. Assumes nothing.
abbrev pub invariant-loop-i : goal.invariant-loop-i
invariant-loop-i g l = l.out ≡ stored g.E.Entry.region l.initial.out 0 (take l.i l.all)
