use Rattle.read_parts.proofs.Extras.{extra_cut, extra_over, extra_read}
use Rattle.read_parts.proofs.read_extra.Goals as goal

pub returns-then-end-data : goal.returns-then-end-data
returns-then-end-data c = search extra_cut

pub returns-then-end-data-2 : goal.returns-then-end-data-2
returns-then-end-data-2 c = search extra_over

pub returns : goal.returns
returns c = search extra_read
