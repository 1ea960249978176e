-- As many answers as pieces.
use Rattle.std.proofs.Common.{◌+◌, ◌≡◌}
use Rattle.worked.proofs.cuts.Given as goal

abbrev pub invariant-loop-j : goal.invariant-loop-j
invariant-loop-j g l = l.one + l.two + l.other ≡ l.j
