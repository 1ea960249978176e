-- What stands at the front needs no move.
use Rattle.std.proofs.Common.{◌≡◌, ◌+◌, ◌-◌, ◌∙◌, ℕ, arith, ap, sym, drop}
use lib.Seq.{paste}
use Rattle.octets.specs.Octets.{part, splice}
use Rattle.intake.proofs.Down.{is_splice, stays}
use Rattle.intake.proofs.to_front.Goals as goal

pub returns-then-from-eq0 : goal.returns-then-from-eq0
returns-then-from-eq0 c =
    let d = c.args.room.now in
    stays d c.args.n (omega arith) ∙ ap (λ (k : ℕ). splice d 0 (part d k c.args.n)) (sym c.if-from-eq0.true)

pub returns : goal.returns
returns c =
    let d = c.args.room.now in
    let e : c.args.from + c.args.n - c.args.from ≡ c.args.n = omega arith in
    c.copy_within.ensures.after ∙ ap (paste d 0 (drop c.args.from d)) e ∙ is_splice d c.args.from 0 c.args.n (omega arith)
