use borrow.Author.Rules.{rules}
use Rattle.read_parts.proofs.Fills.{ending_not, ending_left_over, ending_all_read}
use Rattle.read_parts.proofs.read_entries_whole.Goals as goal

pub returns-in_err-last : goal.returns-in_err-last
returns-in_err-last g c = search (ending_not, c.in_err-last.was, rules)

pub returns-then-last-end : goal.returns-then-last-end
returns-then-last-end g c = search (ending_left_over, c.in_ok-last.was, rules)

pub returns : goal.returns
returns g c = search (ending_all_read, c.in_ok-last.was, rules)
