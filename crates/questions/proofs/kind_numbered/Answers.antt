use mathlib.Core.Path.{refl, sym, ◌∙◌}
use native.Mathlib.Omega.{arith}
use mathlib.Core.List.{[]}
use Rattle.reference.specs.declared.ObjectKind.TheVariants.{Directory}
use Rattle.reference.specs.Questions.{kinds, kind_numbered}
use Rattle.questions.proofs.Cases.{fours, row_here, row_later}
use Rattle.questions.proofs.kind_numbered.Goals as goal

pub loop-row-init : goal.loop-row-init
unfolding kind_numbered
loop-row-init c = refl

pub returns-then-n-be32 : goal.returns-then-n-be32
returns-then-n-be32 c =
    let i = c.loop-row.row-index in
    sym (row_here kinds _ i c.args.n (omega arith) (fours _ i (omega arith)) (c.if-n-be32.true ∙ c.be32.ensures)) ∙ c.loop-row.invariant

pub loop-row-preserved : goal.loop-row-preserved
loop-row-preserved c =
    let i = c.loop-row.row-index in
    sym (row_later kinds ([], Directory) i c.args.n (omega arith) (fours _ i (omega arith)) (λ e. c.if-n-be32.false (e ∙ sym c.be32.ensures))) ∙ c.loop-row.invariant
