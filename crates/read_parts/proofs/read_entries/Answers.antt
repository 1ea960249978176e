use mathlib.Core.Path.{refl}
use native.Mathlib.Omega.{arith}
use borrow.Author.Rules.{rules}
use Rattle.table.proofs.Stored.{stored_in, stored_out}
use Rattle.read_parts.proofs.Fills.{none_yet, one_no, one_more, all_read}
use Rattle.read_parts.proofs.read_entries.Goals as goal
use Rattle.read_parts.proofs.read_entries.Goals.{then-k-MOST, else-k-MOST}

pub loop-i-init : goal.loop-i-init
loop-i-init g c = none_yet c.requires.0

pub read-requires : goal.read-requires
read-requires g c = search (c.loop-i.invariant.inside, rules)

pub returns-in_err-entry-clause-stores : goal.returns-in_err-entry-clause-stores
returns-in_err-entry-clause-stores g c = search (one_no, c.in_err-entry.was, rules)

pub returns-in_err-entry-clause-inside : goal.returns-in_err-entry-clause-inside
returns-in_err-entry-clause-inside g c = search rules

pub loop-i-preserved : goal.loop-i-preserved
loop-i-preserved g c =
    let s = g.S.Entries in
    let e = g.S.Entry.Entry in
    let h = g.met.S.Entry.Entry in
    one_more e.region (s.reader c.args.sort.now) s.layout c.loop-i.invariant c.read.result c.read.ensures.told c.read.ensures.moves (omega arith) (omega arith) h.within c.in_ok-entry.was refl
    (elim c.if-k-MOST.branch [
      | then-k-MOST w ↦ stored_in e.region _ _ _ (omega (arith, c.MOST.ensures, h.most)) (rw w.table-is w.put.ensures)
      | else-k-MOST w ↦ stored_out e.region _ _ _ (omega (arith, c.MOST.ensures, h.most)) w.table-is
    ])

pub returns : goal.returns
returns g c = search (all_read, rules)
