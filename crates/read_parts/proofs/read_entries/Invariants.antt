use Rattle.read_parts.proofs.Fills.{Fills}
use Rattle.read_parts.proofs.read_entries.Given as goal

-- `read_parts::read_entries` meets its contract. Each turn stores one entry more. Assumes nothing.
abbrev pub invariant-loop-i : goal.invariant-loop-i
invariant-loop-i g l =
    let s = g.S.Entries in
    Fills g.S.Entry.Entry.region s.placed s.layout (s.reader l.sort) l.d l.base l.end l.n l.pos l.initial.table l.first l.table l.cur l.i
