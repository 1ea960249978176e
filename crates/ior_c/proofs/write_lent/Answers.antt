use mathlib.Core.Path.{◌∙◌}
use native.Mathlib.Omega.{arith}
use Rattle.table.specs.Flat.{table_size}
use Rattle.ior_c.proofs.Calls.{given, is_sized, askable_by_table, sound_exact, unsound_written}
use Rattle.ior_c.proofs.write_lent.Goals as goal

pub returns-in-Ok : goal.returns-in-Ok
returns-in-Ok c =
    given (askable_by_table _ _ (is_sized table_size _ _ (omega arith) (omega arith)) ∙ sound_exact _ _ _ c.sound_length.ensures c.in-Ok.is) c.write_sound.ensures.answers c.put_answer.ensures
    c.write_sound.ensures.leaves

pub returns-in-Err : goal.returns-in-Err
returns-in-Err c =
    unsound_written _ _ _ c.sound_length.ensures c.in-Err.is (is_sized table_size _ _ (omega arith) (omega arith)) c.put_unsound.ensures _ _
