use mathlib.Core.Path.{sym, ◌∙◌}
use Rattle.faults.proofs.Judging.{passed_octets}
use Rattle.writing.proofs.Answers.{measure_refuses, refuses}
use Rattle.writing.proofs.write_from_by.Goals as goal

pub write_measured-requires : goal.write_measured-requires
write_measured-requires c =
    let (p, e) = passed_octets _ _ c.survey_of-s.ensures (sym c.is_sound.ensures ∙ c.if-is_sound.true) c.image_size.ensures in
    (p, e)

pub returns : goal.returns
returns c = refuses _ _ _ _ _ (measure_refuses _ _ _ _ c.refusal_of.ensures)
