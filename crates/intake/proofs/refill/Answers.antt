-- What is read goes behind what was moved to the front.
use Rattle.std.proofs.Common.{◌-◌, arith, length}
use Rattle.intake.proofs.Down.{kept}
use Rattle.intake.proofs.refill.Goals as goal

pub returns-clause-from_after : goal.returns-clause-from_after
returns-clause-from_after g c =
    let d = c.args.room.now in
    let e = c.to_front.new.room in
    let n = c.args.to - c.args.from in
    kept d c.args.from n (omega arith) e c.to_front.ensures (length e - n) c.read_some.new.part
