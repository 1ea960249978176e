use native.Mathlib.Omega.{arith}
use Rattle.text.proofs.Texts.{loose}
use Rattle.rows.proofs.Accepted.{row_refused, offset_inside, row_found, view_inside}
use Rattle.rows.proofs.put_answer.Goals as goal

pub put_refused-requires : goal.put_refused-requires
put_refused-requires c = omega (arith, offset_inside _ c.read_whole_into.ensures c.in-Err.is)

pub returns-in-Err : goal.returns-in-Err
returns-in-Err c =
    loose c.put_refused.ensures 76 (omega arith) (row_refused _ c.read_whole_into.ensures c.in-Err.is _ _)

pub returns-in-Ok : goal.returns-in-Ok
returns-in-Ok c =
    loose c.put_found.ensures 76 (omega arith) (row_found _ c.read_whole_into.ensures c.in-Ok.is c.object_kind-kind.ensures _ _)

pub slice_bounds-object_kind-end : goal.slice_bounds-object_kind-end
slice_bounds-object_kind-end c = omega (arith, view_inside _ c.read_whole_into.ensures c.in-Ok.is)
