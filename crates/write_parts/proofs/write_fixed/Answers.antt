use Rattle.octets.proofs.Put.{then}
use Rattle.write_parts.proofs.write_fixed.Goals as goal

pub returns : goal.returns
returns c = then c.put8-a.ensures c.put8.ensures
