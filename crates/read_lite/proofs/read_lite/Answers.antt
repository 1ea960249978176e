use borrow.Author.Rules.{rules}
use Rattle.read_lite.proofs.Beginning.{head_no, head_on, head_low, head_inside, extras_few}
use Rattle.read_lite.proofs.read_lite.Goals as goal

pub read_lite_rest-requires : goal.read_lite_rest-requires
read_lite_rest-requires c = search (head_low, head_inside, extras_few, c.in_ok-head.was, rules)

pub returns-in_err-head : goal.returns-in_err-head
returns-in_err-head c = search (head_no, c.in_err-head.was, rules)

pub returns : goal.returns
returns c = search (head_on, c.in_ok-head.was, rules)
