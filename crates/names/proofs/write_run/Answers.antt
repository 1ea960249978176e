use Rattle.octets.proofs.Put.{then}
use Rattle.names.proofs.write_run.Goals as goal

pub returns : goal.returns
returns c =
    then c.put8-next.ensures c.copy.ensures
