use Prim.Native.Nat.{ℕ}
use mathlib.Core.Path.{refl, ap, ◌∙◌}
use mathlib.Core.List.{List}
use Rattle.reference.specs.declared.NameComponent.{NameComponent}
use Rattle.reference.specs.Names.{short_written, short_leaves}
use Rattle.table.specs.Flat.{name_from}
use Rattle.ior_c.proofs.Calls.{given, not_given, not_sized, not_answered, is_sized}
use Rattle.ior_c.proofs.ior_name_write.Goals as goal

pub returns-in_default : goal.returns-in_default
returns-in_default c = not_given (not_sized _ _ _ c.in_default.ensures.cases) refl

pub returns-in_default-as_mut_array : goal.returns-in_default-as_mut_array
returns-in_default-as_mut_array c = not_given (not_answered _ _ _ c.in_default-as_mut_array.ensures.cases) refl

pub returns : goal.returns
returns c =
    let k = c.in-Some.ensures.cases in
    let w = c.write_short_name.ensures in
    let e = c.name_of.ensures ∙ ap (λ (l : List ℕ). name_from l 0) k.same in
    given (is_sized _ _ _ k.long c.in-Some-as_mut_array.ensures.cases.long) (w.answers ∙ ap (λ (n : NameComponent). short_written n c.args.s.now c.args.out.now) e) c.put_answer.ensures
    (w.leaves ∙ ap (λ (n : NameComponent). short_leaves n c.args.s.now c.args.out.now) e)
