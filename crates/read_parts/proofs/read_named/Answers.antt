use borrow.Author.Rules.{rules}
use Rattle.read_parts.proofs.Runs.{run_inside, no_id, no_kind, name_read}
use Rattle.read_parts.proofs.read_named.Goals as goal

pub read_run-requires-2 : goal.read_run-requires-2
read_run-requires-2 g c = search (run_inside, c.in_ok-id.was, rules)

pub returns-in_err-id : goal.returns-in_err-id
returns-in_err-id g c = search (no_id, c.in_err-id.was, rules)

pub returns-in_err-kind : goal.returns-in_err-kind
returns-in_err-kind g c = search (no_kind, c.in_ok-id.was, c.in_err-kind.was, rules)

pub returns : goal.returns
returns g c = search (name_read, c.in_ok-id.was, c.in_ok-kind.was, rules)
