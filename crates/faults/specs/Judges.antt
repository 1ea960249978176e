-- What one survey lets say of the lent table t over a source of n octets, under rule 1: exact and passed by measuring, with the length of its image; or what
-- was seen of a table that is not both. And the length that an image has under each rule. Assumes nothing.
use Rattle.std.specs.Prelude.{ℕ, min, ◌≡◌, true, false, ◌&&◌, List, Result, Ok, Err}
use Rattle.reference.specs.declared.TypeIdRule.{TypeIdRule}
use Rattle.reference.specs.declared.TypeIdRule.TheVariants.{Multiple}
use Rattle.reference.specs.Refusals.{Told}
use Rattle.reference.specs.Used.{Used}
use Rattle.reference.specs.Tabled.{used_of}
use Rattle.reference.specs.Writer.{size_of, image_check, measure_check, told}
use Rattle.table.specs.Flat.{tables_from}
use Rattle.faults.specs.declared.Unsound.{Unsound}
use Rattle.faults.specs.declared.Unsound.TheVariants.{NotExact, Refused}
use Rattle.survey.specs.declared.Survey.{Survey}
use Rattle.survey.specs.Exact.{exact}
use Rattle.survey.specs.Seen.{passing, Surveyed}

abbrev pub Judges : List ℕ → ℕ → Result ℕ Survey → Type 0
Judges t n (Ok x) = (exact t ≡ true) × (measure_check Multiple (tables_from t) n ≡ Ok tt) × (x ≡ size_of Multiple (used_of (tables_from t)))
Judges t n (Err s) = Surveyed (min n 65535) t s × ((exact t && passing (measure_check Multiple (tables_from t) n)) ≡ false)

-- the length of a sound table's image under rule 1; or why the table is refused under the rule
abbrev pub Sounds : TypeIdRule → List ℕ → ℕ → Result ℕ Unsound → Type 0
Sounds rule t n (Ok x) = Judges t n (Ok x)
Sounds rule t n (Err NotExact) = exact t ≡ false
Sounds rule t n (Err (Refused x)) = (exact t ≡ true) × (measure_check rule (tables_from t) n ≡ Err x)

-- the length of the entries' image under the rule; or 10
abbrev pub length_told : TypeIdRule → Used → Told
length_told rule u = told (image_check (size_of rule u)) (size_of rule u)
