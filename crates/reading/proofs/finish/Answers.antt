use borrow.Author.Rules.{rules}
use Rattle.reading.proofs.References.{end_refused, end_passed}
use Rattle.reading.proofs.finish.Goals as goal

pub returns-in_err-check_end : goal.returns-in_err-check_end
returns-in_err-check_end c = search (end_refused, c.in_err-check_end.was, rules)

pub returns : goal.returns
returns c = search (end_passed, c.in_ok-check_end.was)
