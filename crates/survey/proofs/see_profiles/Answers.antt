use native.Mathlib.Omega.{arith}
use Rattle.survey.proofs.Seeing.{see_begin, see_turn}
use Rattle.survey.proofs.see_profiles.Goals as goal

pub loop-i-init : goal.loop-i-init
loop-i-init c = (omega arith, omega arith, see_begin)

pub loop-i-preserved : goal.loop-i-preserved
loop-i-preserved c =
    let one = c.profile_seen-one.ensures in
    let h = c.loop-i.invariant in
    (omega arith, h.1, see_turn h.2 one.0 one.1 c.add-all.ensures)
