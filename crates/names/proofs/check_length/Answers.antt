use Rattle.names.proofs.Cases.{length_over, length_short}
use Rattle.names.proofs.check_length.Goals as goal

pub returns-then-len-gt-LONGEST : goal.returns-then-len-gt-LONGEST
returns-then-len-gt-LONGEST c = search length_over

pub returns : goal.returns
returns c = search length_short
