use native.Mathlib.Omega.{arith}
use Rattle.text.proofs.Texts.{sized, then, loose}
use Rattle.octets.proofs.Put.{none}
use Rattle.lines.proofs.Items.{item_zero, item_shown}
use Rattle.lines.proofs.put_item.Goals as goal

-- `lines::put_item` meets its contract. Assumes nothing.
pub returns-then-v-eq0 : goal.returns-then-v-eq0
returns-then-v-eq0 c =
    let a = c.args in
    loose (sized (none a.out.now a.at (omega arith))) 42 (omega arith) (item_zero a.i a.v c.if-v-eq0.true)

pub returns : goal.returns
returns c =
    let a = c.args in
    loose (then (then c.put_spaced-colon.ensures (sized c.put_octet-number.ensures)) c.put_decimal.ensures) 42 (omega arith) (item_shown a.i a.v c.if-v-eq0.false)
