use Prim.Native.Nat.{ℕ}
use mathlib.Core.Path.{◌≡◌, sym, ap, subst, ◌∙◌}
use mathlib.Core.List.{List}
use lib.ListN.{length}
use Rattle.ior_c.specs.Calls.{IorFirstBiop}
use Rattle.ior_c.proofs.Calls.{not_told, answer_told, not_sized, not_answered, is_sized, not_askable, askable_by_table}
use Rattle.ior_c.proofs.ior_first_biop.Goals as goal

-- the table that was taken is the one that was lent
of_table : (a : List ℕ) {t t' : List ℕ} {r : ℕ} {b : List ℕ} → t' ≡ t → IorFirstBiop t' a r b → IorFirstBiop t a r b
of_table a {r = r} {b = b} e c = subst (λ (x : List ℕ). IorFirstBiop x a r b) e c

pub returns-in_default : goal.returns-in_default
returns-in_default c = not_told (not_askable _ _ (not_sized _ _ _ c.in_default.ensures.cases))

pub returns-in_default-as_mut_array : goal.returns-in_default-as_mut_array
returns-in_default-as_mut_array c = not_told (not_askable _ _ (not_answered _ _ _ c.in_default-as_mut_array.ensures.cases))

pub returns-then-not-is_exact : goal.returns-then-not-is_exact
returns-then-not-is_exact c =
    let k = c.in-Some.ensures.cases in
    let m = c.in-Some-as_mut_array.ensures.cases in
    let t = c.args.table.now in
    let a = c.args.answer.now in
    subst (λ (b : List ℕ). IorFirstBiop t a 255 b) (sym m.same)
    (of_table a k.same (not_told (askable_by_table _ _ (is_sized _ _ _ (ap length k.same ∙ k.long) m.long) ∙ sym c.is_exact.ensures ∙ c.if-not-is_exact.true)))

pub returns : goal.returns
returns c =
    let k = c.in-Some.ensures.cases in
    of_table _ k.same
    (answer_told (askable_by_table _ _ (is_sized _ _ _ (ap length k.same ∙ k.long) c.in-Some-as_mut_array.ensures.cases.long) ∙ sym c.is_exact.ensures ∙ c.if-not-is_exact.false) c.first_of.ensures
    c.put_answer.ensures)
