use Prim.Native.Nat.{ℕ, ◌*◌}
use mathlib.Core.Path.{refl, ap, ◌∙◌}
use mathlib.Core.List.{List}
use native.Mathlib.Omega.{arith}
use lib.ListN.{length}
use Rattle.octets.specs.Octets.{octets}
use Rattle.octets.proofs.Halves.{octets_four}
use Rattle.octets.proofs.Put.{same}
use Rattle.text.specs.Text.{hexes}
use Rattle.text.proofs.put_hex32.Goals as goal

pub returns : goal.returns
unfolding octets
returns c =
    let four = c.to_be_bytes.ensures ∙ octets_four c.args.v _ _ _ _ (omega arith) (omega arith) (omega arith) (omega arith) in
    same c.put_hexes.ensures (ap (λ (l : List ℕ). 2 * length l) four) (ap hexes four) refl
