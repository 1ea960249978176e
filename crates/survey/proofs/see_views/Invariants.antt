use Prim.Native.Nat.{◌+◌, ◌*◌, ◌≤◌}
use Rattle.survey.specs.Seen.{view_seen}
use Rattle.survey.proofs.Seeing.{Seeing}
use Rattle.survey.proofs.see_views.Given as goal

-- `survey::see_views` meets its contract. Assumes nothing.
abbrev pub invariant-loop-i : goal.invariant-loop-i
invariant-loop-i l = (l.i ≤ l.count) × Seeing (λ k. view_seen l.n l.t (l.first + l.width * k)) l.initial.all l.all l.i
