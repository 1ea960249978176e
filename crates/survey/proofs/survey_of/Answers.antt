use Prim.Native.Nat.{ℕ, ◌*◌, ◌≤◌}
use mathlib.Core.Path.{◌≡◌, sym, ap, subst, ◌∙◌}
use native.Mathlib.Omega.{arith}
use Rattle.survey.specs.declared.Survey.{Survey}
use Rattle.survey.specs.ByTable.{front_fixed}
use Rattle.survey.specs.Seen.{Surveyed, with_fixed, profiles_seen, taps_seen, names_seen, extras_seen, table_seen}
use Rattle.survey.proofs.Whole.{surveyed}
use Rattle.survey.proofs.survey_of.Goals as goal

pub returns : goal.returns
returns c =
    let a = c.args in
    let n = c.min-most.result in
    let t = a.t.now in
    let up_to = c.see_names-names.ensures.0 ∙ ap (names_seen n t) (c.see_taps-taps.ensures.0 ∙ ap (taps_seen n t) (c.see_profiles-profiles.ensures.0 ∙ ap (profiles_seen n t) (c.with_fixed-front.ensures.0 ∙ ap (λ (s : Survey). with_fixed s front_fixed) c.view_seen.ensures.0))) in
    let e : c.see_extras.result ≡ table_seen n t = c.see_extras.ensures.0 ∙ ap (extras_seen n t) up_to in
    let g : c.see_extras.result.octets ≤ 500 * 0x200000000 =
    omega (arith, c.see_extras.ensures.1.3, c.see_names-names.ensures.1.3, c.see_taps-taps.ensures.1.3, c.see_profiles-profiles.ensures.1.3, c.with_fixed-front.ensures.1.3, c.view_seen.ensures.1.3) in
    let b : (table_seen n t).octets ≤ 500 * 0x200000000 = subst (λ (s : Survey). s.octets ≤ 500 * 0x200000000) e g in
    subst (λ (k : ℕ). Surveyed k t c.see_extras.result) c.min-most.ensures (subst (Surveyed n t) (sym e) (surveyed n (omega (arith, c.min-most.ensures)) t b))
