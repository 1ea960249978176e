use native.Mathlib.Omega.{arith}
use Rattle.table.proofs.Listed.{listed_length, listed_get}
use Rattle.write_bodies.proofs.Ahead.{begin, asks, turn}
use Rattle.write_bodies.proofs.write_entries.Goals as goal

pub loop-k-init : goal.loop-k-init
loop-k-init g c = let e = g.E.Entry in begin (omega (arith, listed_length e.region.size (e.told c.args.t.now))) c.requires.count_in_bounds c.requires.each

pub write-pos-requires : goal.write-pos-requires
write-pos-requires g c =
    let e = g.E.Entry in
    let k = asks c.loop-k.invariant c.loop-k-test.true c.at.result (listed_get e.region.size (e.told c.args.t.now) c.loop-k.k _ (omega arith)) c.at.ensures in
    record { sound = k.0; in_bounds = k.1 }

pub loop-k-preserved : goal.loop-k-preserved
loop-k-preserved g c =
    let e = g.E.Entry in
    turn c.loop-k.invariant c.loop-k-test.true c.at.result (listed_get e.region.size (e.told c.args.t.now) c.loop-k.k _ (omega arith)) c.at.ensures c.write-pos.ensures
