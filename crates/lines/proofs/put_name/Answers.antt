use mathlib.Core.Path.{sym, ap}
use native.Mathlib.Omega.{arith}
use Rattle.text.proofs.Texts.{sized, then, loose}
use Rattle.lines.specs.Lines.{name_text}
use Rattle.lines.proofs.put_name.Goals as goal

pub returns-in-Err : goal.returns-in-Err
unfolding name_text
returns-in-Err c =
    loose (then c.put_refusal-zeros.ensures (sized c.put_word.ensures)) 112 (omega arith) (sym (ap name_text c.in-Err.is))

pub returns-in-Ok : goal.returns-in-Ok
unfolding name_text
returns-in-Ok c =
    loose
    (then (then (then (then c.put_accepted-id_at.ensures c.put_spaced-id_len.ensures) c.put_spaced-kind_at.ensures) c.put_spaced-kind_len.ensures) c.put_spaced.ensures)
    112
    (omega arith)
    (sym (ap name_text c.in-Ok.is))
