use borrow.Author.Rules.{rules}
use mathlib.Core.Path.{◌∙◌}
use Rattle.survey.specs.ByTable.{used_in}
use Rattle.faults.proofs.Going.{passes_on, goes_on}
use Rattle.faults.proofs.Short.{short_biop, short_other}
use Rattle.faults.proofs.check_profile.Goals.{then-sort_at-eq-BIOP+in_ok-check_short+in_ok-check_short-2, else-sort_at-eq-BIOP}
use Rattle.faults.proofs.check_profile.Goals as goal

pub returns-in_err-check_short : goal.returns-in_err-check_short
returns-in_err-check_short c =
    let a = c.args in
    let u = used_in a.t.now in
    short_biop u.taps u.extras a.tap a.extra _ _ (search rules) (passes_on _ _ _ (search rules) c.from_residual.ensures.1)

pub returns-in_err-check_short-2 : goal.returns-in_err-check_short-2
returns-in_err-check_short-2 c =
    let a = c.args in
    let u = used_in a.t.now in
    short_biop u.taps u.extras a.tap a.extra _ _ (search rules) (goes_on _ _ (search rules) (passes_on _ _ _ (search rules) c.from_residual-in_err-check_short-2.ensures.1))

pub returns : goal.returns
returns c =
    let a = c.args in
    let u = used_in a.t.now in
    elim c.if-sort_at-eq-BIOP.branch [
      | then-sort_at-eq-BIOP+in_ok-check_short+in_ok-check_short-2 w ↦ short_biop u.taps u.extras a.tap a.extra _ _ (search rules) (goes_on _ _ (search rules) (goes_on _ _ (search rules) (search rules)))
      | else-sort_at-eq-BIOP w ↦ short_other u.taps u.extras a.tap a.extra _ _ (λ e. w.if-sort_at-eq-BIOP.false (c.sort_at.ensures ∙ e)) (search rules)
    ]
