use Rattle.faults.proofs.Judging.{passed_limit, gap_passed, gap_refused}
use Rattle.reference.proofs.Steps.{passed_on}
use Rattle.writing.proofs.Answers.{measure_refuses, refuses}
use Rattle.writing.proofs.write_sound.Goals as goal

-- what rule 1 measures, with the gap of the rule, and then the image
pub with_gap-requires : goal.with_gap-requires
with_gap-requires c = let (p, e) = c.requires in (e, passed_limit _ _ p e)

pub write_measured-requires : goal.write_measured-requires
write_measured-requires c =
    let (p, e) = c.requires in
    gap_passed _ _ _ p c.with_gap.ensures c.in_ok-n.was

pub returns-in_err-n : goal.returns-in_err-n
returns-in_err-n c =
    rw (passed_on c.from_residual.result c.from_residual.ensures.1)
    (refuses _ _ _ _ _ (measure_refuses _ _ _ _ (gap_refused _ _ _ c.requires.0 c.with_gap.ensures c.in_err-n.was)))
