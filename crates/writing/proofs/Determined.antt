-- The contracts of the two calls leave no choice: any two answers that they allow are equal, and so are the outputs. Assumes nothing.
use Prim.Native.Nat.{ℕ}
use mathlib.Core.Path.{◌≡◌, sym, ◌∙◌}
use mathlib.Core.List.{List}
use Rattle.reference.specs.declared.TypeIdRule.{TypeIdRule}
use Rattle.reference.specs.declared.AddressWay.{AddressWay}
use Rattle.reference.specs.declared.Tables.{Tables}
use Rattle.reference.specs.Refusals.{Told}
use Rattle.reference.specs.Writer.{measured}
use Rattle.writing.specs.Writes.{Writes}

module _ (rule : TypeIdRule) where
  -- the length of the image of t over s
  pub length_determined : (t : Tables) (s : List ℕ) {r r' : Told} → r ≡ measured rule t s → r' ≡ measured rule t s → r ≡ r'
  length_determined t s a b = a ∙ sym b

module _ (rule : TypeIdRule) (way : AddressWay) where
  -- writing t over s into an output that held d
  pub write_determined : {t : Tables} {s d : List ℕ} {r r' : Told} {e e' : List ℕ} → Writes rule way t s d r e → Writes rule way t s d r' e' → (r ≡ r') × (e ≡ e')
  write_determined a b = (a.answers ∙ sym b.answers, a.leaves ∙ sym b.leaves)
