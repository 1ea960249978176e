use mathlib.Core.Path.{refl}
use native.Mathlib.Omega.{arith}
use Rattle.text.proofs.Texts.{sized, then, loose}
use Rattle.rows.specs.Rows.{found_text}
use Rattle.rows.proofs.put_found.Goals as goal

pub returns : goal.returns
unfolding found_text
returns c =
    loose (then (then c.put_kind-count.ensures c.put_spaced-zero.ensures) (sized c.put_word.ensures)) 31 (omega arith) refl
