use mathlib.Core.List.{append_assoc}
use mathlib.Core.Path.{refl}
use native.Mathlib.Omega.{arith}
use Rattle.octets.proofs.Put.{then, same}
use Rattle.reference.specs.Contents.{location_of}
use Rattle.reference.specs.Layout.{layout_location, tag_location}
use Rattle.write_parts.proofs.Laid.{headed}
use Rattle.write_parts.proofs.write_location.Goals as goal

pub returns : goal.returns
unfolding layout_location
returns c = same (headed 1 tag_location {l = layout_location (location_of c.args.src.now c.args.location)} c.write_header-a.ensures (same (then c.write_object-b.ensures c.write_short.ensures) (omega arith) (simp append_assoc) refl)) (omega arith) refl refl
