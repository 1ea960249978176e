use Rattle.faults.proofs.Judging.{length_alone, length_fits, length_passes}
use Rattle.faults.proofs.with_gap.Goals as goal

pub returns-then-n-gt-MOST : goal.returns-then-n-gt-MOST
returns-then-n-gt-MOST c =
    length_passes c.args.t.now c.requires.0 c.args.rule c.gap_length.ensures.0 c.view_at-type_id.ensures c.too_large.ensures c.if-n-gt-MOST.true

pub returns-in-Multiple : goal.returns-in-Multiple
returns-in-Multiple c = length_alone c.args.t.now c.requires.0 c.in-Multiple.is c.requires.1

pub returns-else-n-gt-MOST : goal.returns-else-n-gt-MOST
returns-else-n-gt-MOST c =
    length_fits c.args.t.now c.requires.0 c.args.rule c.gap_length.ensures.0 c.view_at-type_id.ensures c.if-n-gt-MOST.false
