use mathlib.Core.Path.{refl, ◌∙◌}
use native.Mathlib.Omega.{arith}
use Rattle.octets.proofs.Put.{none, then, same, kept}
use Rattle.text.specs.Text.{hexes}
use Rattle.text.proofs.Hexes.{hexes_more}
use Rattle.text.proofs.put_hexes.Goals as goal

pub loop-v-init : goal.loop-v-init
unfolding hexes
loop-v-init c = (none _ _ (omega arith), refl)

pub loop-v-preserved : goal.loop-v-preserved
loop-v-preserved c =
    let l = c.loop-v in
    let p = c.put_hex-next.ensures in
    (same (then l.invariant.0 p) (omega arith) (hexes_more c.args.s.now l.v-index (omega arith)) refl, kept p ∙ l.invariant.1)
