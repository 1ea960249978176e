use mathlib.Core.Path.{refl, ap, ◌∙◌}
use Rattle.reading.specs.Into.{table_left}
use Rattle.ior_c.proofs.Calls.{given, not_given, not_sized, not_answered, is_sized}
use Rattle.ior_c.proofs.read_under.Goals as goal

pub returns-in_default : goal.returns-in_default
returns-in_default c = not_given (not_sized _ _ _ c.in_default.ensures.cases) refl

pub returns-in_default-as_mut_array : goal.returns-in_default-as_mut_array
returns-in_default-as_mut_array c = not_given (not_answered _ _ _ c.in_default-as_mut_array.ensures.cases) c.in-Some.ensures.cases.same

pub returns : goal.returns
returns c =
    let table = c.in-Some.ensures.cases in
    let r = c.read_leading_into_by.ensures in
    given (is_sized _ _ _ table.long c.in-Some-as_mut_array.ensures.cases.long) r.answers c.put_answer.ensures (r.leaves ∙ ap (table_left _ _) table.same)
