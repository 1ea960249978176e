use Rattle.rows.specs.Rows.{broken_text}
use Rattle.rows.proofs.put_broken.Goals as goal

pub returns : goal.returns
unfolding broken_text
returns c = c.put_line.ensures
