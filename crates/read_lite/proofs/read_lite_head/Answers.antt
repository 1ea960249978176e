use borrow.Author.Rules.{rules}
use Rattle.read_lite.proofs.Beginning.{fixed_no, one_at_least, fixed_on}
use Rattle.read_lite.proofs.read_lite_head.Goals as goal

pub overflow_sub-count : goal.overflow_sub-count
overflow_sub-count c = search (one_at_least, c.in_ok-count.was, rules)

pub returns-in_err-count : goal.returns-in_err-count
returns-in_err-count c = search (fixed_no, c.in_err-count.was, rules)

pub returns : goal.returns
returns c = search (fixed_on, c.in_ok-count.was, rules)
