use mathlib.Core.List.{append_assoc}
use mathlib.Core.Path.{refl}
use Rattle.octets.proofs.Put.{then, same}
use Rattle.reference.specs.Layout.{layout_address}
use Rattle.write_parts.proofs.Laid.{last}
use Rattle.write_parts.proofs.write_address.Goals as goal

pub returns : goal.returns
unfolding layout_address
returns c = same (then c.write_address_head-a.ensures (then c.write_specifier-b.ensures (last c.write_address_tail.ensures))) refl (simp append_assoc) refl
