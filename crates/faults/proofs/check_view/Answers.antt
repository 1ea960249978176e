use Prim.Native.Nat.{◌+◌}
use mathlib.Core.Path.{sym, ap, ◌∙◌}
use Rattle.std.specs.Prelude.{Err}
use Rattle.reference.proofs.Checks.{le_test, lt_test}
use Rattle.faults.proofs.check_view.Goals as goal

pub returns-then-n-v : goal.returns-then-n-v
returns-then-n-v c =
    let a = c.args in
    ap Err c.outside.ensures ∙ sym (lt_test (a.v.at + a.v.len) a.n _ c.if-n-v.true)

pub returns : goal.returns
returns c =
    let a = c.args in
    sym (le_test (a.v.at + a.v.len) a.n _ c.if-n-v.false)
