use mathlib.Core.Path.{refl}
use native.Mathlib.Omega.{arith}
use Rattle.text.proofs.Texts.{sized, then, loose}
use Rattle.rows.specs.Rows.{row_of}
use Rattle.rows.proofs.put_row.Goals as goal

pub returns : goal.returns
unfolding row_of
returns c =
    loose (then (then (then (then c.put_decimal-size.ensures c.put_spaced-gap.ensures) (sized c.put_octet-kind.ensures)) c.put_answer-end.ensures) (sized c.put_octet.ensures)) 128 (omega arith) refl
