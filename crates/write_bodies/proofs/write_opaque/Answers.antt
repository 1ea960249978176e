use mathlib.Core.Path.{refl}
use native.Mathlib.Omega.{arith}
use Rattle.octets.proofs.Put.{then, same}
use Rattle.reference.specs.Layout.{layout_profile, tag_of, data_of}
use Rattle.write_bodies.proofs.write_opaque.Goals as goal

pub returns : goal.returns
unfolding layout_profile tag_of data_of
returns c = same (then c.put32-a.ensures c.write_run.ensures) (omega arith) refl refl
