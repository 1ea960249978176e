use mathlib.Core.Path.{sym, ◌∙◌}
use Rattle.faults.proofs.Judging.{judge_sound, judge_marked, judge_refused}
use Rattle.faults.proofs.judge.Goals.{else-s-lt-BOUND-via-then-s-lt-BOUND+else-is_sound, else-s-lt-BOUND-via-else-s-lt-BOUND}
use Rattle.faults.proofs.judge.Goals as goal

pub returns-then-is_sound : goal.returns-then-is_sound
returns-then-is_sound c =
    judge_sound _ c.survey_of-s.ensures c.if-s-lt-BOUND.true (sym c.is_sound.ensures ∙ c.if-is_sound.true)

pub returns : goal.returns
returns c = elim c.else-s-lt-BOUND.branch [
  | else-s-lt-BOUND-via-then-s-lt-BOUND+else-is_sound w ↦ judge_refused _ c.survey_of-s.ensures (sym w.is_sound.ensures ∙ w.if-is_sound.false)
  | else-s-lt-BOUND-via-else-s-lt-BOUND w ↦ judge_marked _ c.survey_of-s.ensures w.if-s-lt-BOUND.false
]
