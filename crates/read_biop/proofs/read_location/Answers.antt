use Rattle.read_biop.proofs.Beginning.{fields_cut, key_over, fields_left, fields_read}
use Rattle.read_biop.proofs.read_location.Goals as goal

pub returns-then-stop-lt-KEY : goal.returns-then-stop-lt-KEY
returns-then-stop-lt-KEY c = search fields_cut

pub returns-then-stop-len : goal.returns-then-stop-len
returns-then-stop-len c = search key_over

pub returns-then-next-stop : goal.returns-then-next-stop
returns-then-next-stop c = search fields_left

pub returns : goal.returns
returns c = search fields_read
