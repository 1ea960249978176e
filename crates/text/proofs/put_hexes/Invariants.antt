use Prim.Native.Nat.{◌*◌}
use mathlib.Core.Path.{◌≡◌}
use lib.ListN.{length, take}
use Rattle.octets.specs.Put.{Put}
use Rattle.text.specs.Text.{hexes}
use Rattle.text.proofs.put_hexes.Given as goal

-- `text::put_hexes` meets its contract. The loop's invariant: the digits of the first octets were put, up to the one that is next. Assumes nothing.
abbrev pub invariant-loop-v : goal.invariant-loop-v
invariant-loop-v l = Put l.initial.out l.at (2 * l.v-index) (hexes (take l.v-index l.s)) l.out l.next × (length l.out ≡ length l.initial.out)
