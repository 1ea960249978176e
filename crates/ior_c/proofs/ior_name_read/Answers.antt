use mathlib.Core.Path.{refl, sym, ap, ◌∙◌}
use Rattle.reference.specs.Steps.{answer_of}
use Rattle.ior_c.specs.Said.{name_said, name_left}
use Rattle.ior_c.proofs.Calls.{given, not_given, not_sized, not_answered, is_sized}
use Rattle.ior_c.proofs.ior_name_read.Goals as goal

pub returns-in_default : goal.returns-in_default
returns-in_default c = not_given (not_sized _ _ _ c.in_default.ensures.cases) refl

pub returns-in_default-as_mut_array : goal.returns-in_default-as_mut_array
returns-in_default-as_mut_array c = not_given (not_answered _ _ _ c.in_default-as_mut_array.ensures.cases) c.in-Some.ensures.cases.same

pub returns-in-Ok : goal.returns-in-Ok
returns-in-Ok c =
    let e = sym (ap answer_of c.in-Ok.is) ∙ c.read_short_name.ensures in
    given (is_sized _ _ _ c.in-Some.ensures.cases.long c.in-Some-as_mut_array.ensures.cases.long) (ap name_said e) c.put_answer.ensures (c.numbers_of_name.ensures ∙ ap name_left e)

pub returns-in-Err : goal.returns-in-Err
returns-in-Err c =
    let e = sym (ap answer_of c.in-Err.is) ∙ c.read_short_name.ensures in
    given (is_sized _ _ _ c.in-Some.ensures.cases.long c.in-Some-as_mut_array.ensures.cases.long) (ap name_said e) c.put_answer-in-Err.ensures (ap name_left e)
