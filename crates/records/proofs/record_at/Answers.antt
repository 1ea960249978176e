use Prim.Native.Nat.{ℕ, ◌+◌}
use mathlib.Core.Path.{sym, ap, ◌∙◌}
use native.Mathlib.Omega.{arith}
use Rattle.records.specs.declared.Record.TheVariants.{Got}
use Rattle.records.proofs.Recorded.{at_end, cut_head, wrong_mark, cut_record, whole_record}
use Rattle.records.proofs.record_at.Goals as goal

-- `records::record_at` meets its contract. A law for each answer. Assumes nothing.
pub returns-then-end-at : goal.returns-then-end-at
returns-then-end-at c = sym (at_end _ _ (omega arith))

pub returns-then-end-at-lt4 : goal.returns-then-end-at-lt4
returns-then-end-at-lt4 c = sym (cut_head _ _ (omega arith) (omega arith))

pub returns-then-be16-ne-MARK : goal.returns-then-be16-ne-MARK
returns-then-be16-ne-MARK c = sym (wrong_mark _ _ (omega arith) (omega arith) (λ e. c.if-be16-ne-MARK.true (c.be16.ensures ∙ e)))

pub returns-then-end-at-2 : goal.returns-then-end-at-2
returns-then-end-at-2 c =
    let a = c.args in
    let n = c.be16-n.ensures in
    sym (cut_record a.file.now a.at (omega arith) (omega arith) (sym c.be16.ensures ∙ c.if-be16-ne-MARK.false) (omega (arith, n)))

pub returns : goal.returns
returns c =
    let a = c.args in
    let n = c.be16-n.ensures in
    ap (λ (v : ℕ). Got (a.at + 4) (a.at + 4 + v)) n
    ∙ sym (whole_record a.file.now a.at (omega arith) (omega arith) (sym c.be16.ensures ∙ c.if-be16-ne-MARK.false) (omega (arith, n)))
