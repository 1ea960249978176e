use mathlib.Core.Path.{sym, ap}
use native.Mathlib.Omega.{arith}
use Rattle.text.proofs.Texts.{sized, then, loose}
use Rattle.lines.specs.Lines.{where_text}
use Rattle.lines.proofs.put_where.Goals as goal

pub returns-in-Ok : goal.returns-in-Ok
unfolding where_text
returns-in-Ok c =
    loose (then c.put_accepted-consumed.ensures c.put_spaced.ensures) 106 (omega arith) (sym (ap where_text c.in-Ok.is))

pub returns-in-Err : goal.returns-in-Err
unfolding where_text
returns-in-Err c =
    loose (then (then c.put_refusal-offset.ensures c.put_spaced-zero.ensures) (sized c.put_word.ensures)) 106 (omega arith) (sym (ap where_text c.in-Err.is))
