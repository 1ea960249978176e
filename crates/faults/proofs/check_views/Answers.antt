use borrow.Author.Rules.{rules}
use Rattle.faults.proofs.Views.{from_rows}
use Rattle.faults.proofs.Going.{passes_on, goes_on}
use Rattle.faults.proofs.check_views.Goals as goal

pub returns-in_err-check_view : goal.returns-in_err-check_view
returns-in_err-check_view c = from_rows c.args.n c.args.t.now (passes_on _ _ _ (search rules) c.from_residual.ensures.1)

pub returns-in_err-check_profiles : goal.returns-in_err-check_profiles
returns-in_err-check_profiles c =
    from_rows c.args.n c.args.t.now (goes_on _ _ (search rules) (passes_on _ _ _ (search rules) c.from_residual-in_err-check_profiles.ensures.1))

pub returns-in_err-check_row : goal.returns-in_err-check_row
returns-in_err-check_row c =
    from_rows c.args.n c.args.t.now (goes_on _ _ (search rules) (goes_on _ _ (search rules) (passes_on _ _ _ (search rules) c.from_residual-in_err-check_row.ensures.1)))

pub returns-in_err-check_row-2 : goal.returns-in_err-check_row-2
returns-in_err-check_row-2 c =
    from_rows c.args.n c.args.t.now (goes_on _ _ (search rules) (goes_on _ _ (search rules) (goes_on _ _ (search rules) (passes_on _ _ _ (search rules) c.from_residual-in_err-check_row-2.ensures.1))))

pub returns : goal.returns
returns c = from_rows c.args.n c.args.t.now (goes_on _ _ (search rules) (goes_on _ _ (search rules) (goes_on _ _ (search rules) (goes_on _ _ (search rules) (search rules)))))
