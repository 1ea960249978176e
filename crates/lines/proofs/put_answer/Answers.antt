use mathlib.Core.Path.{sym, ap}
use native.Mathlib.Omega.{arith}
use Rattle.text.proofs.Texts.{sized, then, loose}
use Rattle.lines.specs.Lines.{answer_text}
use Rattle.lines.proofs.put_answer.Goals as goal

pub returns-in-Ok : goal.returns-in-Ok
unfolding answer_text
returns-in-Ok c = loose c.put_accepted.ensures 85 (omega arith) (sym (ap answer_text c.in-Ok.is))

pub returns-in-Err : goal.returns-in-Err
unfolding answer_text
returns-in-Err c =
    loose (then c.put_refusal-next.ensures (sized c.put_word.ensures)) 85 (omega arith) (sym (ap answer_text c.in-Err.is))
