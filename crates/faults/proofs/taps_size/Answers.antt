use native.Mathlib.Omega.{arith}
use Rattle.faults.proofs.Listed.{some}
use Rattle.faults.proofs.Going.{sum_turn}
use Rattle.faults.proofs.Tables.{taps_listed}
use Rattle.faults.proofs.taps_size.Goals as goal

pub loop-i-preserved : goal.loop-i-preserved
loop-i-preserved c =
    let taps = some (taps_listed c.args.t.now (omega arith)) c.args.first c.args.count (omega arith) in
    (omega arith, omega arith, sum_turn c.loop-i.invariant.2 taps (omega arith) _ c.tap_at-tap.ensures _ c.tap_size-total.ensures.0)
