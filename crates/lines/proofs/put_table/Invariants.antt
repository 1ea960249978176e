use Prim.Native.Nat.{◌*◌}
use mathlib.Core.Path.{◌≡◌}
use lib.ListN.{length}
use Rattle.text.specs.Written.{Written}
use Rattle.lines.specs.Lines.{table_text}
use Rattle.lines.proofs.put_table.Given as goal

-- `lines::put_table` meets its contract. The loop's invariant: the text of the first i numbers was put. Assumes nothing.
abbrev pub invariant-loop-i : goal.invariant-loop-i
invariant-loop-i l = Written l.initial.out l.at (42 * l.i) (table_text l.table l.i) l.out l.next × (length l.out ≡ length l.initial.out)
