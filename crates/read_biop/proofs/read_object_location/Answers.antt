use borrow.Author.Rules.{rules}
use Rattle.read_parts.proofs.Header.{data_inside}
use Rattle.read_biop.proofs.Beginning.{part_no, part_data}
use Rattle.read_biop.proofs.read_object_location.Goals as goal

pub read_location-requires : goal.read_location-requires
read_location-requires c = search (data_inside, c.in_ok-stop.was, rules)

pub returns-in_err-stop : goal.returns-in_err-stop
returns-in_err-stop c = search (part_no, c.in_err-stop.was, rules)

pub returns : goal.returns
returns c = search (part_data, c.in_ok-stop.was)
