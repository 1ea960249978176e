use mathlib.Core.Path.{◌≡◌, refl, sym, ap}
use Prim.Native.Nat.{◌+◌, ◌/◌}
use native.Mathlib.Omega.{arith}
use lib.ListN.{length}
use Rattle.octets.proofs.Put.{then, same, kept}
use Rattle.text.specs.Text.{decimal}
use Rattle.text.proofs.Digits.{decimal_one, decimal_more, decimal_length}
use Rattle.text.proofs.+put_digits.Goals as goal

pub put_octet-requires : goal.put_octet-requires
put_octet-requires t c =
    let e : length (decimal c.args.v) ≡ 1 = ap length (decimal_one c.args.v c.if-v-lt10.true) in
    omega arith

pub returns-then-v-lt10 : goal.returns-then-v-lt10
returns-then-v-lt10 t c =
    let e = decimal_one c.args.v c.if-v-lt10.true in
    same c.put_octet.ensures (sym (ap length e)) (sym e) refl

pub put_digits-next-requires : goal.put_digits-next-requires
put_digits-next-requires t c =
    let n : length (decimal c.args.v) ≡ length (decimal (c.args.v / 10)) + 1 = decimal_length c.args.v c.if-v-lt10.false in
    (omega arith, omega arith)

pub put_octet-requires-2 : goal.put_octet-requires-2
put_octet-requires-2 t c =
    let p = c.put_digits-next.ensures in
    let n : length (decimal c.args.v) ≡ length (decimal (c.args.v / 10)) + 1 = decimal_length c.args.v c.if-v-lt10.false in
    omega (arith, p.next, kept p)

pub returns : goal.returns
returns t c =
    let v = c.args.v in
    let ten = c.if-v-lt10.false in
    same (then c.put_digits-next.ensures c.put_octet-2.ensures) (sym (decimal_length v ten)) (sym (decimal_more v ten)) refl
