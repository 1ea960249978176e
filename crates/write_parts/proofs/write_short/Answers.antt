use Rattle.write_parts.proofs.Laid.{behind}
use Rattle.write_parts.proofs.write_short.Goals as goal

pub returns : goal.returns
returns c = behind 1 c.args.src.now c.args.v c.requires.within.0 c.put8-a.ensures c.write_view.ensures
