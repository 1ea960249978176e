-- Each number is what the closure makes of its octets.
use Rattle.std.proofs.Common.{rules}
use Rattle.table_struct.proofs.FromFn.{from_fn_listed}
use Rattle.answers.proofs.numbers_of.Goals as goal

pub returns : goal.returns
returns c = from_fn_listed (λ i r f called. search rules) c.from_fn.ensures.items
