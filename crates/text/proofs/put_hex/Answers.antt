use Prim.Native.Nat.{ℕ}
use mathlib.Core.Path.{refl, ap₂}
use mathlib.Core.List.{[], ◌∷◌}
use Rattle.octets.proofs.Put.{same}
use Rattle.text.specs.Text.{hex}
use Rattle.text.proofs.put_hex.Goals as goal

pub returns : goal.returns
unfolding hex
returns c = same c.put_run.ensures refl (ap₂ (λ (x y : ℕ). x ∷ y ∷ []) c.digit.ensures c.digit-2.ensures) refl
