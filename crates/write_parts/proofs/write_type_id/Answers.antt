use Rattle.write_parts.proofs.Laid.{with_gap}
use Rattle.write_parts.proofs.write_type_id.Goals as goal

pub returns : goal.returns
returns c = with_gap c.args.rule c.args.src.now c.args.type_id c.requires.within c.gap_length-k.ensures.0 c.write_run-a.ensures c.put_blank.ensures
