use borrow.Author.Rules.{rules}
use Rattle.read_biop.proofs.Beginning.{two_at_least, extras_few, located_low, located_inside, fixed_no, location_no, located}
use Rattle.read_biop.proofs.read_biop.Goals as goal

pub overflow_sub-count : goal.overflow_sub-count
overflow_sub-count c = search (two_at_least, c.in_ok-count.was)

pub read_binder-requires : goal.read_binder-requires
read_binder-requires c = search (extras_few, located_low, located_inside, c.in_ok-count.was, c.in_ok-next.was, rules)

pub returns-in_err-count : goal.returns-in_err-count
returns-in_err-count c = search (fixed_no, c.in_err-count.was, rules)

pub returns-in_err-next : goal.returns-in_err-next
returns-in_err-next c = search (location_no, c.in_ok-count.was, c.in_err-next.was, rules)

pub returns : goal.returns
returns c = search (located, c.in_ok-count.was, c.in_ok-next.was)
