use Rattle.octets.proofs.Put.{then}
use Rattle.write_parts.proofs.write_specifier.Goals as goal

pub returns : goal.returns
returns c = then c.put8-a.ensures (then c.put8-b.ensures c.put8.ensures)
