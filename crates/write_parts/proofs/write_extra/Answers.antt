use mathlib.Core.Path.{refl}
use native.Mathlib.Omega.{arith}
use Rattle.octets.proofs.Put.{then, same}
use Rattle.reference.specs.Layout.{layout_extra}
use Rattle.write_parts.proofs.write_extra.Goals as goal

pub returns : goal.returns
unfolding layout_extra
returns c = same (then c.put32-a.ensures c.write_short.ensures) (omega arith) refl refl
