use mathlib.Core.Path.{sym, ap}
use native.Mathlib.Omega.{arith}
use Rattle.text.proofs.Texts.{sized, then, loose}
use Rattle.lines.specs.Lines.{tap_text}
use Rattle.lines.proofs.put_tap.Goals as goal

pub returns-in-None : goal.returns-in-None
unfolding tap_text
returns-in-None c = loose (sized c.put_word.ensures) 41 (omega arith) (sym (ap tap_text c.in-None.is))

pub returns-in-Some : goal.returns-in-Some
unfolding tap_text
returns-in-Some c = loose (then c.put_decimal-next.ensures c.put_spaced.ensures) 41 (omega arith) (sym (ap tap_text c.in-Some.is))
