-- The reading by value is the reading into a table of zeros. Assumes nothing.
use Prim.Native.Nat.{ℕ}
use mathlib.Core.Path.{◌≡◌, refl, ap, ◌∙◌}
use mathlib.Core.Bool.{Bool, true, false}
use mathlib.Core.List.{List}
use mir.Syntax.{w8}
use mir.Val.{Fits}
use lib.ListN.{get_or, replicate}
use Rattle.reference.specs.declared.TypeIdRule.{TypeIdRule}
use Rattle.octets.specs.Octets.{Octets}
use Rattle.reference.specs.declared.Tables.{Tables}
use Rattle.reference.specs.declared.Reading.{Reading}
use Rattle.reference.specs.Refusals.{Told}
use Rattle.reference.specs.Meaning.{Reference, Room}
use Rattle.reference.specs.Layout.{WellFormed}
use Rattle.reference.specs.Steps.{Answer, ok, refused}
use Rattle.reference.specs.Reader.{read_leading, read_whole, answered}
use Rattle.reference.proofs.Accept.{only_accepted, only_whole}
use Rattle.table.specs.Flat.{tables_from, table_size}
use Rattle.read_parts.proofs.Moves.{octets_of_slice}
use Rattle.table_struct.proofs.Accepted.{tables_read}
use Rattle.table_struct.proofs.Back.{tables_cleared}
use Rattle.reading.specs.Open.{read_as}
use Rattle.reading.specs.Into.{table_left, ReadInto}

module _ (rule : TypeIdRule) where
  -- ---- what was accepted is well formed and fits

  pub leading_good : (d : List ℕ) → Octets d → (m : Reference) (n : ℕ) → read_leading rule d ≡ ok m n → (WellFormed rule m) × (Room m)
  leading_good d o m n e = let l = (only_accepted rule d o m n e).1 in (l.formed, l.room)

  pub whole_good : (d : List ℕ) → Octets d → (m : Reference) (n : ℕ) → read_whole rule d ≡ ok m n → (WellFormed rule m) × (Room m)
  whole_good d o m n e = let l = (only_whole rule d o m n e).1 in (l.formed, l.room)

  -- ---- the tables

  -- what an answer leaves in a table of zeros, as a struct
  left_tables : (x : Answer Reference) → ((m : Reference) (n : ℕ) → x ≡ ok m n → (WellFormed rule m) × (Room m)) → tables_from (table_left rule x (replicate table_size 0)) ≡ (answered rule x).tables
  left_tables (ok m n) good = let g = good m n refl in tables_read rule m g.1 g.0
  left_tables (refused y) good = tables_cleared

  valued : (x : Answer Reference) → ((m : Reference) (n : ℕ) → x ≡ ok m n → (WellFormed rule m) × (Room m)) → {e : List ℕ} {r : Told} {t : Tables} → ReadInto rule x (replicate table_size 0) e r → t ≡ tables_from e
      → ◌≡◌ {A = Reading} (record { answer = r; tables = t }) (answered rule x)
  valued x good {e} {r} {t} h q =
      let p = q ∙ ap tables_from h.leaves ∙ left_tables x good in
      λ j. record { answer = h.answers j; tables = p j }

  pub read_valued : (whole : Bool) (d : List ℕ) {e : List ℕ} {r : Told} {t : Tables} → ((k : ℕ) → Fits w8 (get_or d k 0)) → t ≡ tables_from e
      → ReadInto rule (read_as rule whole d) (replicate table_size 0) e r → ◌≡◌ {A = Reading} (record { answer = r; tables = t }) (answered rule (read_as rule whole d))
  read_valued true d octs q h = valued (read_whole rule d) (whole_good d (octets_of_slice d (λ k. (octs k).fits))) h q
  read_valued false d octs q h = valued (read_leading rule d) (leading_good d (octets_of_slice d (λ k. (octs k).fits))) h q
