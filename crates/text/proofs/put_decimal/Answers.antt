use Prim.Native.Nat.{◌<◌, ◌≤◌}
use native.Mathlib.Omega.{arith}
use lib.ListN.{length}
use Rattle.text.specs.Text.{decimal}
use Rattle.text.proofs.Digits.{decimal_short}
use Rattle.text.proofs.put_decimal.Goals as goal

-- `text::put_decimal` meets its contract. Assumes nothing.
pub put_digits-requires : goal.put_digits-requires
put_digits-requires c =
    let v = c.args.v in
    let h : v < 100000000000000000000 = omega arith in
    let n : length (decimal v) ≤ 20 = decimal_short 19 v h in
    omega arith

pub returns : goal.returns
returns c =
    let v = c.args.v in
    let p = c.put_digits.ensures in
    let h : v < 100000000000000000000 = omega arith in
    let n : length (decimal v) ≤ 20 = decimal_short 19 v h in
    record { put = p; within = omega (arith, p.next) }
