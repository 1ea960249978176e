use Rattle.read_parts.proofs.Runs.{length_cut, run_over, run_read}
use Rattle.read_parts.proofs.read_run.Goals as goal

pub returns-then-end-start : goal.returns-then-end-start
returns-then-end-start g c = search length_cut

pub returns-then-end-start-2 : goal.returns-then-end-start-2
returns-then-end-start-2 g c = search run_over

pub returns : goal.returns
returns g c = search run_read
