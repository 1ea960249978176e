use mathlib.Core.Path.{sym}
use Prim.Native.Nat.{◌-◌}
use native.Mathlib.Omega.{arith}
use borrow.Author.Rules.{rules}
use Rattle.octets.proofs.Part.{length_part}
use Rattle.records.proofs.Recorded.{got_stands}
use Rattle.rows.proofs.Pages.{turn}
use Rattle.rows.proofs.put_rows.Goals as goal

pub overflow_add-count : goal.overflow_add-count
overflow_add-count c = omega (arith, got_stands _ _ (sym c.in-Got.ensures), c.loop-used.invariant.0.apart)

pub overflow_add-place : goal.overflow_add-place
overflow_add-place c = omega (arith, got_stands _ _ (sym c.in-Got.ensures))

pub slice_bounds-put_row-count : goal.slice_bounds-put_row-count
slice_bounds-put_row-count c = omega (arith, got_stands _ _ (sym c.in-Got.ensures))

pub slice_bounds-put_row-start : goal.slice_bounds-put_row-start
slice_bounds-put_row-start c = omega (arith, got_stands _ _ (sym c.in-Got.ensures))

pub slice_bounds-put_row-end : goal.slice_bounds-put_row-end
slice_bounds-put_row-end c = omega (arith, got_stands _ _ (sym c.in-Got.ensures))

pub put_row-used-requires : goal.put_row-used-requires
put_row-used-requires c =
    let g = got_stands _ _ (sym c.in-Got.ensures) in
    let a = c.in-Got in
    omega (arith, g, length_part c.args.block.now a.start (a.stop - a.start) (omega (arith, g)), c.loop-used.invariant.0.within)

pub loop-used-smaller : goal.loop-used-smaller
loop-used-smaller c = omega (arith, got_stands _ _ (sym c.in-Got.ensures))

pub loop-used-preserved : goal.loop-used-preserved
loop-used-preserved c = (turn c.loop-used.invariant.0 (sym c.in-Got.ensures) c.put_row-used.ensures, search rules, search rules)
