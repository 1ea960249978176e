use borrow.Author.Rules.{rules}
use native.Mathlib.Omega.{arith}
use Rattle.reference.specs.Writer.{extra_short}
use Rattle.faults.proofs.Listed.{some}
use Rattle.faults.proofs.Going.{by_each}
use Rattle.faults.proofs.Tables.{extras_listed}
use Rattle.faults.proofs.check_extras.Goals as goal

pub returns : goal.returns
returns c =
    let extras = some (extras_listed c.args.t.now (omega arith)) c.args.first c.args.count (omega arith) in
    by_each extra_short extras c.check_each.ensures (λ i found h e. search rules)
