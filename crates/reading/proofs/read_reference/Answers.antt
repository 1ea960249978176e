use borrow.Author.Rules.{rules}
use Rattle.reading.proofs.References.{no_head, no_profiles_lem, last_inside, closed}
use Rattle.reading.proofs.read_reference.Goals as goal

pub finish-requires : goal.finish-requires
finish-requires c = search (last_inside, c.in_ok-opening.was, c.in_ok-used.was)

pub returns-in_err-opening : goal.returns-in_err-opening
returns-in_err-opening c = search (no_head, c.in_err-opening.was, rules)

pub returns-in_err-used : goal.returns-in_err-used
returns-in_err-used c = search (no_profiles_lem, c.in_ok-opening.was, c.in_err-used.was, rules)

pub returns : goal.returns
returns c = search (closed, c.in_ok-opening.was, c.in_ok-used.was)
