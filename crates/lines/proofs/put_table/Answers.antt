use Prim.Native.Nat.{◌+◌, ◌*◌}
use mathlib.Core.Path.{refl, ◌∙◌}
use native.Mathlib.Omega.{arith}
use Rattle.octets.proofs.Put.{none, kept}
use Rattle.text.proofs.Texts.{sized, then, loose}
use Rattle.lines.specs.Lines.{table_text}
use Rattle.lines.proofs.Items.{table_more}
use Rattle.lines.proofs.put_table.Goals as goal

pub loop-i-init : goal.loop-i-init
unfolding table_text
loop-i-init c = (sized (none _ _ (omega arith)), refl)

pub loop-i-preserved : goal.loop-i-preserved
loop-i-preserved c =
    let l = c.loop-i in
    let p = c.put_item-next.ensures in
    (loose (then l.invariant.0 p) (42 * (l.i + 1)) (omega arith) (table_more c.args.table.now l.i), kept p.put ∙ l.invariant.1)
