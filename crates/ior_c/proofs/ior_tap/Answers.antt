use mathlib.Core.Path.{ap, ◌∙◌}
use native.Mathlib.Omega.{arith}
use borrow.Author.Tests.{eq-eqb, ne_eqb}
use Rattle.ior_c.proofs.Calls.{told, not_told, wide_use, by_pair}
use Rattle.ior_c.specs.Said.{tap_result, tap_pair}
use Rattle.reference.specs.Questions.{tap_numbers_of}
use Rattle.ior_c.proofs.ior_tap.Goals as goal

pub returns-in_default : goal.returns-in_default
returns-in_default c = not_told (wide_use _ _ (omega (arith, c.in_default.ensures)))

pub returns-in_default-as_mut_array : goal.returns-in_default-as_mut_array
returns-in_default-as_mut_array c = not_told (by_pair _ _ (omega (arith, c.in-Ok.ensures.0)) ∙ ne_eqb _ 2 c.in_default-as_mut_array.ensures.cases)

pub returns : goal.returns
returns c =
    let asked = by_pair _ _ (omega (arith, c.in-Ok.ensures.0)) ∙ eq-eqb _ 2 c.in-Some.ensures.cases.long in
    let e = c.tap_numbers.ensures ∙ ap (λ k. tap_numbers_of k c.args.selector.now) c.in-Ok.ensures.1 in
    told asked (c.put_pair.ensures.0 ∙ ap tap_result e) (c.put_pair.ensures.1 ∙ ap tap_pair e)
