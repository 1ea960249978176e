-- What a reading into a lent table answers and leaves: an accepted one files its profiles and the six numbers at the front, and keeps what stands behind
-- the entries it fills; a refused one leaves zeros. Assumes nothing.
use Rattle.std.specs.Prelude.{ℕ, ◌≡◌, List, replicate}
use Rattle.reference.specs.declared.TypeIdRule.{TypeIdRule}
use Rattle.reference.specs.Refusals.{Told}
use Rattle.reference.specs.Meaning.{Reference}
use Rattle.reference.specs.Steps.{Answer, ok, refused}
use Rattle.reference.specs.Reader.{answered}
use Rattle.table.specs.Flat.{table_size}
use Rattle.table.specs.Filed.{reference_filed}

abbrev pub table_left : TypeIdRule → Answer Reference → List ℕ → List ℕ
table_left rule (ok m n) t = reference_filed rule t m
table_left rule (refused x) t = replicate table_size 0

-- A reading x under the rule, into the table t, left e and answered r.
pub record ReadInto (rule : TypeIdRule) (x : Answer Reference) (t e : List ℕ) (r : Told) : Type 0 where
  pub answers : r ≡ (answered rule x).answer
  pub leaves : e ≡ table_left rule x t
