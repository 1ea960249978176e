use borrow.Author.Rules.{rules}
use Prim.Native.Nat.{◌+◌, ◌*◌}
use Rattle.reference.specs.Writer.{view_check}
use Rattle.table.specs.Flat.{view_from}
use Rattle.faults.proofs.Listed.{whole_listed}
use Rattle.faults.proofs.Going.{by_each}
use Rattle.faults.proofs.check_row.Goals as goal

pub returns : goal.returns
returns c =
    let a = c.args in
    by_each (view_check a.n a.place) (whole_listed (λ i. view_from a.t.now (a.first + a.width * i)) a.count) c.check_each.ensures (λ i found h e. search rules)
