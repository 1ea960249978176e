use mathlib.Core.Path.{sym, ◌∙◌}
use native.Mathlib.Omega.{arith}
use Rattle.records.proofs.Recorded.{none_short, none_wrong, announces}
use Rattle.records.proofs.announced_by.Goals as goal

-- `records::announced_by` meets its contract. A law for each answer. Assumes nothing.
pub returns-then-head-lt4 : goal.returns-then-head-lt4
returns-then-head-lt4 c = sym (none_short _ (omega arith))

pub returns-then-be16-ne-MARK : goal.returns-then-be16-ne-MARK
returns-then-be16-ne-MARK c = sym (none_wrong _ (omega arith) (λ e. c.if-be16-ne-MARK.true (c.be16.ensures ∙ e)))

pub returns : goal.returns
returns c =
    c.be16-2.ensures ∙ sym (announces _ (omega arith) (sym c.be16.ensures ∙ c.if-be16-ne-MARK.false))
