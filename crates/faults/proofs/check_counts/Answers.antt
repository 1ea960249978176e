use borrow.Author.Rules.{rules}
use mathlib.Core.Path.{sym, ap, ◌∙◌}
use native.Mathlib.Omega.{arith}
use Rattle.std.specs.Prelude.{Err}
use Rattle.faults.proofs.Order.{too_many_profiles, from_counts}
use Rattle.faults.proofs.Going.{passes_on, goes_on}
use Rattle.faults.proofs.check_counts.Goals as goal

pub returns-then-number_at-gt-PROFILES : goal.returns-then-number_at-gt-PROFILES
returns-then-number_at-gt-PROFILES c = ap Err c.wrong.ensures ∙ sym (too_many_profiles c.args.t.now (omega arith))

pub returns-in_err-check_used : goal.returns-in_err-check_used
returns-in_err-check_used c =
    from_counts c.args.t.now (omega arith) c.requires.0 c.requires.1 c.requires.2 (passes_on _ _ _ (search rules) c.from_residual.ensures.1)

pub returns-in_err-check_used-2 : goal.returns-in_err-check_used-2
returns-in_err-check_used-2 c =
    from_counts c.args.t.now (omega arith) c.requires.0 c.requires.1 c.requires.2 (goes_on _ _ (search rules) (passes_on _ _ _ (search rules) c.from_residual-in_err-check_used-2.ensures.1))

pub returns : goal.returns
returns c =
    from_counts c.args.t.now (omega arith) c.requires.0 c.requires.1 c.requires.2 (goes_on _ _ (search rules) (goes_on _ _ (search rules) (search rules)))
