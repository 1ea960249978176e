-- Where the rules for type ids agree, a reading leaves the same numbers in a lent table under both (document 02, No. 11). Assumes nothing.
use Prim.Native.Nat.{ℕ, ◌+◌, ◌%◌}
use mathlib.Core.Path.{◌≡◌, refl, ap, ◌∙◌}
use mathlib.Core.List.{List}
use lib.ListN.{length}
use Rattle.octets.specs.Octets.{Octets, part, be, splice}
use Rattle.reference.specs.declared.TypeIdRule.TheVariants.{Multiple, Gap}
use Rattle.reference.specs.Meaning.{Reference, sum, taps_of, names_of, extras_of}
use Rattle.reference.specs.Steps.{Answer, ok, refused}
use Rattle.reference.specs.Reader.{read_leading, read_whole}
use Rattle.reference.specs.Placed.{view}
use Rattle.reference.proofs.Gaps.{no_gap}
use Rattle.reference.proofs.Rules.{leading_same, whole_same, leading_multiple, whole_multiple}
use Rattle.table.specs.Flat.{front_numbers}
use Rattle.table.specs.Filed.{profiles_filed, no_counts, reference_filed}
use Rattle.reading.specs.Into.{table_left}

filed_same : (t : List ℕ) (m : Reference) → length m.type_id % 4 ≡ 0 → reference_filed Gap t m ≡ reference_filed Multiple t m
filed_same t m h =
    let l = m.profiles in
    ap (λ (k : ℕ). splice (profiles_filed (4 + length m.type_id + k + 4) t 0 no_counts l) 0 (front_numbers (view 4 m.type_id) (length l) (sum taps_of l) (sum names_of l) (sum extras_of l)))
    (no_gap Gap (length m.type_id) h)

left_same : (t : List ℕ) (a : Answer Reference) → ((m : Reference) (n : ℕ) → a ≡ ok m n → length m.type_id % 4 ≡ 0) → table_left Gap a t ≡ table_left Multiple a t
left_same t (ok m n) h = filed_same t m (h m n refl)
left_same t (refused x) h = refl

module _ (d : List ℕ) (o : Octets d) (h : be (part d 0 4) % 4 ≡ 0) (t : List ℕ) where
  pub leading_left : table_left Gap (read_leading Gap d) t ≡ table_left Multiple (read_leading Multiple d) t
  leading_left = ap (λ (a : Answer Reference). table_left Gap a t) (leading_same d h) ∙ left_same t (read_leading Multiple d) (leading_multiple d o)

  pub whole_left : table_left Gap (read_whole Gap d) t ≡ table_left Multiple (read_whole Multiple d) t
  whole_left = ap (λ (a : Answer Reference). table_left Gap a t) (whole_same d h) ∙ left_same t (read_whole Multiple d) (whole_multiple d o)
