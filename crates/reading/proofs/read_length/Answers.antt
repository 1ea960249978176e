use Rattle.reading.proofs.Headers.{head_cut, head_odd, head_over}
use Rattle.reading.proofs.read_length.Goals as goal

pub returns-then-end-lt8 : goal.returns-then-end-lt8
returns-then-end-lt8 c = search head_cut

pub returns-then-not-allows : goal.returns-then-not-allows
returns-then-not-allows c = search head_odd

pub returns-then-end-len : goal.returns-then-end-len
returns-then-end-len c = search head_over
