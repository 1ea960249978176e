use native.Mathlib.Omega.{arith}
use Rattle.octets.proofs.Splice.{splice_back}
use Rattle.table.proofs.put_all.Goals as goal

pub returns : goal.returns
returns c = splice_back _ _ _ _ _ c.copy_from_slice.ensures.after (omega arith)
