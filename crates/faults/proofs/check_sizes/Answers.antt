use borrow.Author.Rules.{rules}
use mathlib.Core.Path.{◌∙◌}
use native.Mathlib.Omega.{arith}
use Rattle.reference.proofs.Steps.{passed_on}
use Rattle.faults.proofs.Tables.{agreeing}
use Rattle.faults.proofs.Short.{passed_begin, passed_end, passed_turn, passed_stop, passed_within}
use Rattle.faults.proofs.check_sizes.Goals as goal

pub loop-i-init : goal.loop-i-init
loop-i-init c =
    (omega arith, c.number_at-used.ensures.0, omega (arith, (agreeing c.args.t.now c.requires).profiles), omega arith, omega arith, passed_begin)

pub check_profile-requires : goal.check_profile-requires
check_profile-requires c = passed_within (agreeing c.args.t.now c.requires) c.loop-i.invariant.5 (omega arith)

pub returns-in_err-check_profile : goal.returns-in_err-check_profile
returns-in_err-check_profile c =
    passed_on _ c.from_residual.ensures.1
    ∙ passed_stop (agreeing c.args.t.now c.requires) c.loop-i.invariant.5 (omega arith) (search rules)

pub loop-i-preserved : goal.loop-i-preserved
loop-i-preserved c =
    let g = agreeing c.args.t.now c.requires in (
      omega arith,
      c.loop-i.invariant.1,
      c.loop-i.invariant.2,
      omega arith,
      omega arith,
      passed_turn g c.loop-i.invariant.5 (omega arith) (search rules) c.taps_at-tap.ensures.0 c.extras_at-extra.ensures.0,
    )

pub returns : goal.returns
returns c = passed_end (agreeing c.args.t.now c.requires) c.loop-i.invariant.5 (omega arith)
