-- Two answers that a reading's contract allows are equal, and so are the tables that they leave. Assumes nothing.
use Prim.Native.Nat.{ℕ}
use mathlib.Core.Path.{◌≡◌, sym, ◌∙◌}
use mathlib.Core.List.{List}
use Rattle.reference.specs.declared.TypeIdRule.{TypeIdRule}
use Rattle.reference.specs.declared.Reading.{Reading}
use Rattle.reference.specs.Refusals.{Told}
use Rattle.reference.specs.Meaning.{Reference}
use Rattle.reference.specs.Steps.{Answer}
use Rattle.reference.specs.Reader.{read_leading, read_whole, answered}
use Rattle.reading.specs.Into.{ReadInto}

module _ (rule : TypeIdRule) where
  same_into : {x : Answer Reference} {t e e' : List ℕ} {r r' : Told} → ReadInto rule x t e r → ReadInto rule x t e' r' → (r ≡ r') × (e ≡ e')
  same_into h h' = (h.answers ∙ sym h'.answers, h.leaves ∙ sym h'.leaves)

  module _ (d t : List ℕ) {e e' : List ℕ} {r r' : Told} where
    pub leading_into_determined : ReadInto rule (read_leading rule d) t e r → ReadInto rule (read_leading rule d) t e' r' → (r ≡ r') × (e ≡ e')
    leading_into_determined h h' = same_into h h'

    pub whole_into_determined : ReadInto rule (read_whole rule d) t e r → ReadInto rule (read_whole rule d) t e' r' → (r ≡ r') × (e ≡ e')
    whole_into_determined h h' = same_into h h'

  module _ (d : List ℕ) {r r' : Reading} where
    pub leading_determined : r ≡ answered rule (read_leading rule d) → r' ≡ answered rule (read_leading rule d) → r ≡ r'
    leading_determined h h' = h ∙ sym h'

    pub whole_determined : r ≡ answered rule (read_whole rule d) → r' ≡ answered rule (read_whole rule d) → r ≡ r'
    whole_determined h h' = h ∙ sym h'
