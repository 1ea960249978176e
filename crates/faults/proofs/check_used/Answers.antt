use mathlib.Core.Path.{sym, ap, ◌∙◌}
use native.Mathlib.Omega.{arith}
use lib.ListN.{get_or}
use Rattle.std.specs.Prelude.{Err}
use Rattle.reference.proofs.Checks.{passed, le_test, eq_test}
use Rattle.faults.proofs.Order.{count_fails}
use Rattle.faults.proofs.check_used.Goals as goal

pub returns-then-size-used : goal.returns-then-size-used
returns-then-size-used c =
    let a = c.args in
    ap Err c.wrong.ensures ∙ count_fails a.place a.size a.total c.number_at-used.ensures.0 c.then-size-used.either

pub returns : goal.returns
returns c =
    let a = c.args in
    sym (passed (le_test (get_or a.t.now a.k 0) a.size _ (omega arith)) (eq_test a.total (get_or a.t.now a.k 0) _ (c.if-total-used.false ∙ c.number_at-used.ensures.0)))
