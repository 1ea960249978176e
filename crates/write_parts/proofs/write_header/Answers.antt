use Rattle.octets.proofs.Put.{then}
use Rattle.write_parts.proofs.write_header.Goals as goal

pub returns : goal.returns
returns c = then c.put32-a.ensures c.put8.ensures
