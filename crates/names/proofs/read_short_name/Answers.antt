use Rattle.names.proofs.Cases.{name_large, name_given}
use Rattle.names.proofs.read_short_name.Goals as goal

pub returns-then-n-gt-MOST : goal.returns-then-n-gt-MOST
returns-then-n-gt-MOST c = search name_large

pub returns : goal.returns
returns c = search name_given
