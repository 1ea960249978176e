use Rattle.read_lite.proofs.Beginning.{size_cut, size_wrong, address_cut, count_cut, service_read}
use Rattle.read_lite.proofs.read_service_head.Goals as goal

pub returns-then-stop-lt-ADDRESS : goal.returns-then-stop-lt-ADDRESS
returns-then-stop-lt-ADDRESS c = search size_cut

pub returns-then-size-ne20 : goal.returns-then-size-ne20
returns-then-size-ne20 c = search size_wrong

pub returns-then-stop-lt-NAME_COUNT : goal.returns-then-stop-lt-NAME_COUNT
returns-then-stop-lt-NAME_COUNT c = search address_cut

pub returns-then-stop-lt-FIRST_NAME : goal.returns-then-stop-lt-FIRST_NAME
returns-then-stop-lt-FIRST_NAME c = search count_cut

pub returns : goal.returns
returns c = search service_read
