use Rattle.reading.proofs.Valued.{read_valued}
use Rattle.reading.proofs.read_by.Goals as goal

pub returns : goal.returns
returns c = search read_valued
