use mathlib.Core.Path.{refl, sym, ◌∙◌}
use native.Mathlib.Omega.{arith}
use Rattle.reference.proofs.Steps.{passed_on}
use Rattle.faults.proofs.Listed.{whole_listed}
use Rattle.faults.proofs.Going.{check_turn, check_stop, check_end}
use Rattle.faults.proofs.check_each.Goals as goal

pub returns-in_err-check : goal.returns-in_err-check
returns-in_err-check g c f tells =
    passed_on _ c.from_residual.ensures.1
    ∙ check_stop (c.loop-i.invariant.1 f tells) (whole_listed (λ i. i) c.args.count) c.loop-i-test.true c.loop-i.i refl (sym (tells _ _ c.loop-i-test.true c.in_err-check.ensures))

pub loop-i-preserved : goal.loop-i-preserved
loop-i-preserved g c = (
  omega arith,
  λ f tells.
      check_turn (c.loop-i.invariant.1 f tells) (whole_listed (λ i. i) c.args.count) c.loop-i-test.true c.loop-i.i refl (sym (tells _ _ c.loop-i-test.true c.in_ok-check.ensures)),
)

pub returns : goal.returns
returns g c f tells = check_end (c.loop-i.invariant.1 f tells) (whole_listed (λ i. i) c.args.count) (omega arith)
