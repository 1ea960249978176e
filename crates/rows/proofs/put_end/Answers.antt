use Rattle.rows.specs.Rows.{end_text}
use Rattle.rows.proofs.put_end.Goals as goal

pub returns : goal.returns
unfolding end_text
returns c = c.put_line.ensures
