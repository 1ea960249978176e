use Rattle.std.proofs.Common.{◌+◌, ◌-◌, ◌*◌, ◌≤◌}
use Rattle.listing.proofs.list_blocks.Given as goal

abbrev pub invariant-loop-came : goal.invariant-loop-came
invariant-loop-came g l =
    (l.from ≤ l.to) × (l.to ≤ 262144) × (l.seen + l.to ≤ l.came + l.from) × (l.came ≤ 0x800000000003FFFF) × (l.to ≤ l.came)

abbrev pub decreases-loop-came : goal.decreases-loop-came
decreases-loop-came g l = 262145 * (0x8000000000040000 - l.came) + (l.to - l.from)
