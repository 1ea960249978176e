use Rattle.reading.proofs.Headers.{header_cut, header_over, header_read}
use Rattle.reading.proofs.read_header.Goals as goal

pub returns-then-end-data : goal.returns-then-end-data
returns-then-end-data c = search header_cut

pub returns-then-end-data-2 : goal.returns-then-end-data-2
returns-then-end-data-2 c = search header_over

pub returns : goal.returns
returns c = search header_read
