use mathlib.Core.Path.{sym, ◌∙◌}
use Rattle.faults.proofs.Judging.{passed_measured, refused_measured, passed_octets}
use Rattle.faults.proofs.length_from.Goals as goal

pub returns-then-is_sound : goal.returns-then-is_sound
returns-then-is_sound c =
    let (p, e) = passed_octets _ _ c.survey_of-s.ensures (sym c.is_sound.ensures ∙ c.if-is_sound.true) c.image_size.ensures in
    passed_measured _ _ _ p e

pub returns : goal.returns
returns c = refused_measured _ _ _ c.refusal_of.ensures
