use Prim.Native.Nat.{◌+◌, ◌*◌, ◌≤◌}
use mathlib.Core.Path.{◌≡◌}
use Rattle.table.specs.Flat.{tap_region}
use Rattle.table.specs.Region.{entry}
use Rattle.survey.specs.Seen.{tap_seen}
use Rattle.survey.proofs.Seeing.{SeeingAt}
use Rattle.survey.proofs.see_taps.Given as goal

-- `survey::see_taps` meets its contract. Assumes nothing.
abbrev pub invariant-loop-at : goal.invariant-loop-at
invariant-loop-at l = (l.used ≤ tap_region.size) × (l.end ≡ tap_region.start + tap_region.width * l.used) × SeeingAt (λ k. tap_seen l.n l.t (entry tap_region k)) (entry tap_region) l.used l.initial.all l.all l.at
