use Rattle.octets.proofs.Put.{then}
use Rattle.write_parts.proofs.write_address_head.Goals as goal

pub returns : goal.returns
returns c = then c.put8-a.ensures (then c.put8-b.ensures (then c.put32-c.ensures c.put8.ensures))
