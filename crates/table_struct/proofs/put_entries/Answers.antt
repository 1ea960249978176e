use mathlib.Core.Path.{sym}
use native.Mathlib.Omega.{arith}
use Rattle.table.proofs.Stored.{stored_none, stored_turn}
use Rattle.table_struct.proofs.put_entries.Goals as goal

pub loop-i-init : goal.loop-i-init
loop-i-init g c = sym (stored_none _ _ 0)

pub loop-i-preserved : goal.loop-i-preserved
loop-i-preserved g c =
    let room = g.met.E.Entry.within in
    stored_turn g.E.Entry.region c.args.out.now c.args.all.now c.loop-i.i (omega arith) (omega arith) (omega arith) c.index-all-i.is c.loop-i.invariant c.put.ensures
