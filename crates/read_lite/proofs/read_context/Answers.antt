use borrow.Author.Rules.{rules}
use Rattle.read_parts.proofs.Runs.{run_inside}
use Rattle.read_lite.proofs.Context.{context_no, context_left, context_read}
use Rattle.read_lite.proofs.read_context.Goals as goal

pub left_over-requires : goal.left_over-requires
left_over-requires c = search (run_inside, c.in_ok-context.was, rules)

pub returns-in_err-context : goal.returns-in_err-context
returns-in_err-context c = search (context_no, c.in_err-context.was, rules)

pub returns-then-next-end : goal.returns-then-next-end
returns-then-next-end c = search (context_left, c.in_ok-context.was, rules)

pub returns : goal.returns
returns c = search (context_read, c.in_ok-context.was, rules)
