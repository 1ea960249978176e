use borrow.Author.Rules.{rules}
use Rattle.reading.proofs.Headers.{head_gap, head_short, head_read}
use Rattle.reading.proofs.read_behind.Goals as goal

pub returns-in_err-check_gap : goal.returns-in_err-check_gap
returns-in_err-check_gap c = search (head_gap, c.in_err-check_gap.was, rules)

pub returns-then-end-first : goal.returns-then-end-first
returns-then-end-first c = search (head_short, c.in_ok-check_gap.was)

pub returns : goal.returns
returns c = search (head_read, c.in_ok-check_gap.was)
