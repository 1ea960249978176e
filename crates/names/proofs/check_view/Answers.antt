use Rattle.names.proofs.Cases.{view_over, view_inside}
use Rattle.names.proofs.check_view.Goals as goal

pub returns-then-n-end_of : goal.returns-then-n-end_of
returns-then-n-end_of c = search view_over

pub returns : goal.returns
returns c = search view_inside
