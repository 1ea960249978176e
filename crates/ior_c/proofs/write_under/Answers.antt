use mathlib.Core.Path.{refl}
use Rattle.ior_c.proofs.Calls.{not_given, not_sized, not_answered, not_askable}
use Rattle.ior_c.proofs.write_under.Goals as goal

pub returns-in_default : goal.returns-in_default
returns-in_default c = not_given (not_askable _ _ (not_sized _ _ _ c.in_default.ensures.cases)) refl

pub returns-in_default-as_mut_array : goal.returns-in_default-as_mut_array
returns-in_default-as_mut_array c = not_given (not_askable _ _ (not_answered _ _ _ c.in_default-as_mut_array.ensures.cases)) refl
