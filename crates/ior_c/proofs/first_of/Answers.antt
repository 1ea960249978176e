use Rattle.reference.specs.declared.Refusal.{Refusal}
use Rattle.std.specs.Prelude.{Ok, Err}
use Rattle.ior_c.specs.Said.{first_said}
use Rattle.ior_c.proofs.Answers.{too_many, starts, ends, found, passed}
use native.Mathlib.Omega.{arith}
use mathlib.Core.Path.{sym, ap, ◌∙◌}
use Rattle.ior_c.proofs.first_of.Goals as goal

pub returns-then-used-gt-PROFILES : goal.returns-then-used-gt-PROFILES
returns-then-used-gt-PROFILES c =
    let t = c.args.table.now in
    ap (λ (x : Refusal). Err x) c.wrong.ensures ∙ sym (ap first_said (too_many t (omega arith)))

pub loop-i-init : goal.loop-i-init
loop-i-init c =
    let t = c.args.table.now in
    (omega arith, c.number_at-used.ensures.0, c.if-used-gt-PROFILES.false, starts t (omega arith))

pub returns-then-sort_at-eq-BIOP : goal.returns-then-sort_at-eq-BIOP
returns-then-sort_at-eq-BIOP c =
    let l = c.loop-i in
    let t = c.args.table.now in
    sym (ap first_said (l.invariant.3 ∙ ap Ok (found t l.i (omega arith) (omega arith) (sym c.sort_at.ensures ∙ c.if-sort_at-eq-BIOP.true))))

pub loop-i-preserved : goal.loop-i-preserved
loop-i-preserved c =
    let l = c.loop-i in
    let t = c.args.table.now in
    (omega arith, l.invariant.1, l.invariant.2, l.invariant.3 ∙ ap Ok (passed t l.i (omega arith) (omega arith) (λ e. c.if-sort_at-eq-BIOP.false (c.sort_at.ensures ∙ e))))

pub returns : goal.returns
returns c =
    let l = c.loop-i in
    let t = c.args.table.now in
    sym (ap first_said (l.invariant.3 ∙ ap Ok (ends t l.i (omega arith))))
