-- What measuring and writing from a lent table answer: of an exact table what its tables give; of one that holds a number wider than its field, or an
-- unknown sort, 255, and the output stays. Assumes nothing.
use Rattle.std.specs.Prelude.{ℕ, ◌≡◌, List, Err}
use Rattle.reference.specs.declared.TypeIdRule.{TypeIdRule}
use Rattle.reference.specs.declared.AddressWay.{AddressWay}
use Rattle.reference.specs.Refusals.{Told, refusal}
use Rattle.reference.specs.Steps.{pick}
use Rattle.reference.specs.Writer.{measured, written}
use Rattle.reference.specs.Writer as Writer
use Rattle.table.specs.Flat.{tables_from}
use Rattle.survey.specs.Exact.{exact}

-- a table that is not exact
abbrev pub not_exact : Told
not_exact = Err (refusal 255 0 0 0)

-- length_from_by(table, src, rule), of the table t over the source s
unfoldable pub measured_from : TypeIdRule → (t s : List ℕ) → Told
measured_from rule t s = pick (exact t) (measured rule (tables_from t) s) not_exact

-- write_from_by(table, src, out, rule, way), of the table t over the source s, into an output that held d and then holds e; r is the answer
pub record WritesFrom (rule : TypeIdRule) (way : AddressWay) (t s d : List ℕ) (r : Told) (e : List ℕ) : Type 0 where
  pub answers : r ≡ pick (exact t) (written rule (tables_from t) s d) not_exact
  pub leaves : e ≡ pick (exact t) (Writer.leaves rule way (tables_from t) s d) d
