use native.Mathlib.Omega.{arith}
use Rattle.survey.proofs.Seeing.{see_begin, see_turn}
use Rattle.survey.proofs.see_views.Goals as goal

pub loop-i-init : goal.loop-i-init
loop-i-init c = (omega arith, see_begin)

pub loop-i-preserved : goal.loop-i-preserved
loop-i-preserved c =
    let one = c.view_seen-one.ensures in
    (omega arith, see_turn c.loop-i.invariant.1 one.0 one.1 c.add-all.ensures)
