use Rattle.std.proofs.Common.{rules}
use Rattle.table_struct.proofs.FromFn.{from_fn_listed}
use Rattle.table_struct.proofs.entries_of.Goals as goal

pub returns : goal.returns
returns g c = from_fn_listed (λ i r f called. search rules) c.from_fn.ensures.items
