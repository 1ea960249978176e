use Rattle.read_parts.proofs.Fixed.{fixed_cut, order_wrong, too_few, fixed_read}
use Rattle.read_parts.proofs.read_fixed.Goals as goal

pub returns-then-end-lt2 : goal.returns-then-end-lt2
returns-then-end-lt2 c = search fixed_cut

pub returns-then-first-ne0 : goal.returns-then-first-ne0
returns-then-first-ne0 c = search order_wrong

pub returns-then-count-least : goal.returns-then-count-least
returns-then-count-least c = search too_few

pub returns : goal.returns
returns c = search fixed_read
