use mathlib.Core.Path.{ap, ◌∙◌}
use native.Mathlib.Omega.{arith}
use Rattle.table.specs.Flat.{profile_region}
use Rattle.table.specs.Region.{entry}
use Rattle.survey.specs.declared.Survey.{Survey}
use Rattle.survey.specs.Exact.{profile_exact}
use Rattle.survey.specs.Seen.{holds}
use Rattle.survey.proofs.Rows.{marks_none, marks_more}
use Rattle.survey.proofs.Whole.{profile_fields}
use Rattle.survey.proofs.profile_marks.Goals as goal

pub loop-i-init : goal.loop-i-init
loop-i-init c = (omega arith, omega arith, marks_none _)

pub loop-i-preserved : goal.loop-i-preserved
loop-i-preserved c =
    let t = c.args.t.now in
    let one = c.profile_seen-fields in
    let told = ap (λ (s : Survey). holds s.fields) one.ensures.0 ∙ profile_fields 0 (omega arith) t (entry profile_region c.loop-i.i) in
    (omega arith, c.loop-i.invariant.1, marks_more (λ k. profile_exact t (entry profile_region k)) c.loop-i.fields one.result.fields c.loop-i.i c.loop-i.invariant.2 told)
