use Rattle.read_parts.proofs.Header.{header_cut, tag_wrong, data_over, header_read}
use Rattle.read_parts.proofs.read_component.Goals as goal

pub returns-then-end-data : goal.returns-then-end-data
returns-then-end-data g c = search header_cut

pub returns-then-found-tag : goal.returns-then-found-tag
returns-then-found-tag g c = search tag_wrong

pub returns-then-end-data-2 : goal.returns-then-end-data-2
returns-then-end-data-2 g c = search data_over

pub returns : goal.returns
returns g c = search (header_read g.row.W)
