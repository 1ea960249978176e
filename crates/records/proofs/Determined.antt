-- For each public function, two answers that its contract allows are equal. Assumes nothing.
use Prim.Native.Nat.{ℕ}
use mathlib.Core.Path.{◌≡◌, sym, ◌∙◌}
use mathlib.Core.List.{List}
use Rattle.records.specs.declared.Record.{Record}
use Rattle.records.specs.Records.{record_at, announced}

pub record_at_determined : (l : List ℕ) (at : ℕ) {r r' : Record} → r ≡ record_at l at → r' ≡ record_at l at → r ≡ r'
record_at_determined l at p q = p ∙ sym q

pub announced_by_determined : (l : List ℕ) {r r' : ℕ} → r ≡ announced l → r' ≡ announced l → r ≡ r'
announced_by_determined l p q = p ∙ sym q
