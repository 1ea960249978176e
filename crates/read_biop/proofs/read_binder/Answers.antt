use borrow.Author.Rules.{rules}
use Rattle.read_parts.proofs.Header.{data_inside}
use Rattle.read_biop.proofs.Beginning.{binder_no, count_short, binder_read}
use Rattle.read_biop.proofs.read_binder.Goals as goal

pub returns-then-stop-data : goal.returns-then-stop-data
returns-then-stop-data c = search (count_short, c.in_ok-stop.was)

pub octet-requires : goal.octet-requires
octet-requires c = search (data_inside, c.in_ok-stop.was)

pub read_biop_rest-requires : goal.read_biop_rest-requires
read_biop_rest-requires c = search (data_inside, c.in_ok-stop.was, rules)

pub returns-in_err-stop : goal.returns-in_err-stop
returns-in_err-stop c = search (binder_no, c.in_err-stop.was, rules)

pub returns : goal.returns
returns c = search (binder_read, c.in_ok-stop.was)
