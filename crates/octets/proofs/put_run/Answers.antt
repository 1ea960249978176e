use mathlib.Core.Path.{refl}
use native.Mathlib.Omega.{arith}
use Rattle.octets.proofs.Splice.{splice_back}
use Rattle.octets.proofs.put_run.Goals as goal

pub returns : goal.returns
returns g c = record {
  size = omega arith;
  next = refl;
  room = omega arith;
  left = splice_back _ _ _ _ _ c.copy_from_slice.ensures.after (omega arith);
}
