use mathlib.Core.Path.{refl, sym, ◌∙◌}
use Prim.Native.Nat.{◌+◌}
use native.Mathlib.Omega.{arith}
use Rattle.octets.proofs.Part.{part_more}
use Rattle.octets.proofs.Put.{none, then, same, store, kept}
use Rattle.octets.proofs.copy_few.Goals as goal

pub loop-i-init : goal.loop-i-init
loop-i-init c = (same (none _ _ (omega arith)) refl refl (omega arith), refl)

pub loop-i-preserved : goal.loop-i-preserved
loop-i-preserved c =
    let a = c.args in
    let i = c.loop-i.i in
    let step = store c.loop-i.out (a.at + i) _ (omega arith) in (
      same (then c.loop-i.invariant.0 step) refl (sym (part_more a.src.now a.from i 0 (omega arith))) (omega arith),
      kept step ∙ c.loop-i.invariant.1,
    )
