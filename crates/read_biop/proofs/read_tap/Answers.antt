use Rattle.read_biop.proofs.Taps.{tap_cut, tap_over, tap_read}
use Rattle.read_biop.proofs.read_tap.Goals as goal

pub returns-then-end-data : goal.returns-then-end-data
returns-then-end-data c = search tap_cut

pub returns-then-end-data-2 : goal.returns-then-end-data-2
returns-then-end-data-2 c = search tap_over

pub returns : goal.returns
returns c = search tap_read
