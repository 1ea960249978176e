use lib.ListN.{length}
use Rattle.table.specs.Region.{listed}
use Rattle.write_bodies.proofs.Ahead.{Going}
use Rattle.write_bodies.proofs.write_entries.Given as goal

-- what is left to put
abbrev pub invariant-loop-k : goal.invariant-loop-k
invariant-loop-k g l =
    let e = g.E.Entry in
    let w = g.E.Written in
    Going (listed e.region.size (e.told l.t)) l.first l.count (w.meaning l.src) w.layout w.size (w.Sound (length l.src)) l.initial.out l.at l.out l.pos l.k
