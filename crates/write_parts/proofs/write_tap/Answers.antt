use mathlib.Core.Path.{refl}
use native.Mathlib.Omega.{arith}
use Rattle.octets.proofs.Put.{then, same}
use Rattle.reference.specs.Layout.{layout_tap}
use Rattle.write_parts.proofs.write_tap.Goals as goal

pub returns : goal.returns
unfolding layout_tap
returns c = same (then c.put16-a.ensures (then c.put16-b.ensures (then c.put16-c.ensures c.write_short.ensures))) (omega arith) refl refl
