use mathlib.Core.Path.{sym, ap, ◌∙◌}
use Rattle.std.specs.Prelude.{Err}
use Rattle.reference.proofs.Checks.{le_test, lt_test}
use Rattle.faults.proofs.check_short.Goals as goal

pub returns-then-size-gt-LONGEST : goal.returns-then-size-gt-LONGEST
returns-then-size-gt-LONGEST c =
    let a = c.args in
    ap Err c.too_long.ensures ∙ sym (lt_test a.size 255 _ c.if-size-gt-LONGEST.true)

pub returns : goal.returns
returns c =
    let a = c.args in
    sym (le_test a.size 255 _ c.if-size-gt-LONGEST.false)
