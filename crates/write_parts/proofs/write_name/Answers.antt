use mathlib.Core.Path.{refl}
use native.Mathlib.Omega.{arith}
use Rattle.octets.proofs.Put.{same}
use Rattle.reference.specs.Contents.{shown}
use Rattle.reference.specs.Layout.{layout_named}
use Rattle.write_parts.proofs.Laid.{onto}
use Rattle.write_parts.proofs.write_name.Goals as goal

pub returns : goal.returns
unfolding layout_named
returns c = same (onto 4 (shown c.args.src.now c.args.name.id) c.write_run-a.ensures c.write_run.ensures) (omega arith) refl refl
