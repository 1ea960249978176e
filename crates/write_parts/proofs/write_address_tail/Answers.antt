use Rattle.octets.proofs.Put.{then}
use Rattle.write_parts.proofs.write_address_tail.Goals as goal

pub returns : goal.returns
returns c = then c.put16-a.ensures (then c.put16-b.ensures (then c.put16-c.ensures c.put32.ensures))
