use Prim.Native.Nat.{◌+◌}
use mathlib.Core.Path.{◌≡◌}
use mathlib.Core.Path.{ap, ◌∙◌}
use native.Mathlib.Omega.{arith}
use Rattle.std.proofs.Common.{rules}
use Rattle.survey.specs.Seen.{tap_seen}
use Rattle.survey.proofs.Seeing.{see_begin, see_turn, see_end}
use Rattle.survey.proofs.see_taps.Goals as goal

pub loop-at-init : goal.loop-at-init
loop-at-init c = (omega arith, omega arith, record { i = 0; here = omega arith; few = omega arith; seeing = see_begin })

pub loop-at-preserved : goal.loop-at-preserved
loop-at-preserved c =
    let a = c.args in
    let one = c.tap_seen-one.ensures in
    let h = c.loop-at.invariant in
    let g = h.2 in
    let here = g.here in
    let seen = one.0 ∙ ap (tap_seen a.n a.t.now) here in
    (h.0, h.1, record { i = g.i + 1; here = omega arith; few = omega arith; seeing = see_turn g.seeing seen one.1 c.add-all.ensures })

pub returns-2 : goal.returns-2
returns-2 c =
    let a = c.args in
    let one = c.tap_seen-one.ensures in
    let h = c.loop-at.invariant in
    let g = h.2 in
    let here = g.here in
    let few = g.few in
    let seen = one.0 ∙ ap (tap_seen a.n a.t.now) here in
    let last : g.i + 1 ≡ c.used_at-used.result = omega arith in
    let all = see_end (see_turn g.seeing seen one.1 c.add-all.ensures) last (omega arith) in
    search rules
