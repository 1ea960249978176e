use mathlib.Core.Path.{refl}
use native.Mathlib.Omega.{arith}
use Rattle.text.proofs.Texts.{sized, then, loose}
use Rattle.rows.proofs.put_line.Goals as goal

pub returns : goal.returns
returns c =
    loose (then (then (sized c.put_word-number.ensures) c.put_spaced-end.ensures) (sized c.put_octet.ensures)) 80 (omega arith) refl
