use borrow.Author.Rules.{rules}
use Rattle.read_parts.proofs.Header.{data_inside}
use Rattle.read_lite.proofs.Beginning.{part_no, part_data}
use Rattle.read_lite.proofs.read_service_part.Goals as goal

pub read_service_head-requires : goal.read_service_head-requires
read_service_head-requires c = search (data_inside, c.in_ok-stop.was, rules)

pub returns-in_err-stop : goal.returns-in_err-stop
returns-in_err-stop c = part_no _ _ _ c.read_component.ensures c.in_err-stop.was _ (search rules)

pub returns : goal.returns
returns c = part_data _ _ _ c.read_component.ensures c.in_ok-stop.was c.read_service_head.ensures
