use Rattle.octets.proofs.Put.{then}
use Rattle.write_parts.proofs.write_object.Goals as goal

pub returns : goal.returns
returns c = then c.put32-a.ensures (then c.put16-b.ensures (then c.put8-c.ensures c.put8.ensures))
