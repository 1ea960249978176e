use mathlib.Core.Path.{◌≡◌, ap, subst, ◌∙◌}
use mathlib.Core.List.{List}
use Prim.Native.Nat.{ℕ}
use lib.ListN.{length}
use Rattle.reference.specs.declared.TypeIdRule.{TypeIdRule}
use Rattle.table.specs.Flat.{table_size}
use Rattle.ior_c.specs.Judged.{UnsoundTold}
use Rattle.ior_c.specs.Calls.{IorLength}
use Rattle.ior_c.proofs.Calls.{not_told, answer_told, not_sized, not_answered, is_sized, not_askable, askable_by_table, sound_exact, sound_fits, sound_measured, unsound_measured}
use Rattle.ior_c.proofs.length_under.Goals as goal

-- the table that was taken is the one that was lent
of_table : (rule : TypeIdRule) (s a : List ℕ) {t t' : List ℕ} {r : ℕ} {b : List ℕ} → t' ≡ t → IorLength rule t' s a r b → IorLength rule t s a r b
of_table rule s a {r = r} {b = b} e c = subst (λ (x : List ℕ). IorLength rule x s a r b) e c

pub returns-in_default : goal.returns-in_default
returns-in_default c = not_told (not_askable _ _ (not_sized _ _ _ c.in_default.ensures.cases))

pub returns-in_default-as_mut_array : goal.returns-in_default-as_mut_array
returns-in_default-as_mut_array c = not_told (not_askable _ _ (not_answered _ _ _ c.in_default-as_mut_array.ensures.cases))

pub with_gap-requires : goal.with_gap-requires
with_gap-requires c = sound_fits _ _ _ c.sound_length.ensures c.in-Ok.is

pub returns-in-Ok : goal.returns-in-Ok
returns-in-Ok c =
    let k = c.in-Some.ensures.cases in
    let j = c.sound_length.ensures in
    of_table _ _ _ k.same
    (answer_told (askable_by_table _ _ (is_sized _ _ _ (ap length k.same ∙ k.long) c.in-Some-as_mut_array.ensures.cases.long) ∙ sound_exact _ _ _ j c.in-Ok.is)
    (sound_measured _ _ _ j c.in-Ok.is c.with_gap.ensures) c.put_answer.ensures)

pub returns-in-Err : goal.returns-in-Err
returns-in-Err c =
    let k = c.in-Some.ensures.cases in
    let m = c.in-Some-as_mut_array.ensures.cases in
    of_table _ _ _ k.same
    (unsound_measured _ _ _ c.sound_length.ensures c.in-Err.is (is_sized table_size _ _ (ap length k.same ∙ k.long) m.long)
    (subst (λ (a : List ℕ). UnsoundTold c.in-Err.why a c.put_unsound.result c.put_unsound.new.answer) m.same c.put_unsound.ensures))
