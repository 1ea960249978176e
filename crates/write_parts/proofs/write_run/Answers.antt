use Rattle.write_parts.proofs.Laid.{behind}
use Rattle.write_parts.proofs.write_run.Goals as goal

pub returns : goal.returns
returns c = behind 4 c.args.src.now c.args.v c.requires.within c.put32-a.ensures c.write_view.ensures
