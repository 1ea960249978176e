use mathlib.Core.Path.{◌≡◌}
use Prim.Native.Nat.{◌+◌, ◌≤◌}
use lib.ListN.{length}
use Rattle.octets.specs.Octets.{part}
use Rattle.octets.specs.Put.{Put}
use Rattle.octets.proofs.copy_many.Given as goal

-- `octets::copy_many` meets its contract. The loop's invariant: the first i octets of the part were put; the last move begins within them.
-- Assumes nothing.
abbrev pub invariant-loop-i : goal.invariant-loop-i
invariant-loop-i l = Put l.initial.out l.at l.i (part l.src l.from l.i) l.out (l.at + l.i) × (length l.out ≡ length l.initial.out) × (l.i ≤ l.n) × (l.last + 8 ≡ l.n)
