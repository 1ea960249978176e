use Rattle.reading.proofs.Headers.{gap_none, gap_cut, gap_wrong, gap_right}
use Rattle.reading.proofs.check_gap.Goals as goal

pub returns-then-k-eq0 : goal.returns-then-k-eq0
returns-then-k-eq0 c = search gap_none

pub returns-then-end-at : goal.returns-then-end-at
returns-then-end-at c = search gap_cut

pub returns-then-not-is_blank : goal.returns-then-not-is_blank
returns-then-not-is_blank c = search gap_wrong

pub returns : goal.returns
returns c = search gap_right
