-- A reference that is read into a table of zeros leaves its tables: so an accepted reading says its tables by value. Read into any other table it
-- leaves the same used entries. Assumes nothing.
use Prim.Native.Nat.{ℕ, zero, suc, ◌-◌, ◌≤◌}
use mathlib.Core.Path.{◌≡◌, refl, sym, ap, ◌∙◌}
use mathlib.Core.List.{List, [], ◌∷◌, ◌++◌}
use native.Mathlib.Nat.{sub-zero}
use native.Mathlib.Omega.{arith}
use lib.ListN.{length, take, drop, replicate}
use lib.Seq.{take_at}
use Rattle.reference.specs.declared.TypeIdRule.{TypeIdRule}
use Rattle.octets.specs.Octets.{Each, splice}
use Rattle.reference.specs.Meaning.{Reference, Room}
use Rattle.reference.specs.Layout.{WellFormed}
use Rattle.reference.specs.Placed.{tables_of}
use Rattle.reference.specs.Tabled.{tabled, used_of, filled, no_tap, no_name, no_extra, no_profile}
use Rattle.reference.specs.Typed.{EntryFits, TapFits}
use Rattle.reference.proofs.Fitting.{sums}
use Rattle.reference.proofs.Shows.{tables_typed}
use Rattle.table.specs.Region.{listed}
use Rattle.table.specs.Flat.{table_size, Lent, body_from, tables_from}
use Rattle.table.specs.Filed.{reference_filed}
use Rattle.table.proofs.Lent.{read_begins}
use Rattle.table_struct.proofs.Back.{Tells, tells}

each_first : {A : Type 0} (P : A → Type 0) (xs ys : List A) → Each P (xs ++ ys) → Each P xs
each_first P [] ys e = tt
each_first P (x ∷ xs) ys e = (e.0, each_first P xs ys e.1)

module _ (rule : TypeIdRule) where
  read_tells : (t : List ℕ) → Lent t → (m : Reference) → Room m → WellFormed rule m → Tells t (reference_filed rule t m) (tables_of rule m)
  unfolding filled
  read_tells t l m r w =
      let u = tables_of rule m in
      let y = tables_typed rule m w r in
      tells t (reference_filed rule t m) u (read_begins rule t l m r) (each_first EntryFits u.profiles _ y.profiles) (each_first TapFits u.taps _ y.taps)

-- fillers behind the first ones
replicate_drop : {A : Type 0} (k n : ℕ) (z : A) → k ≤ n → drop k (replicate n z) ≡ replicate (n - k) z
replicate_drop zero n z h = ap (λ (j : ℕ). replicate j z) (sym (sub-zero n))
replicate_drop (suc k) zero z h = absurd (omega arith)
replicate_drop (suc k) (suc n) z h = let e : n - k ≡ suc n - suc k = omega arith in replicate_drop k n z (omega arith) ∙ ap (λ (j : ℕ). replicate j z) e

fillers : {A : Type 0} (xs : List A) (n : ℕ) (z : A) → length xs ≤ n → xs ++ drop (length xs) (replicate n z) ≡ filled n z xs
unfolding filled
fillers {A} xs n z h = ap (λ (l : List A). xs ++ l) (replicate_drop (length xs) n z h)

module _ (rule : TypeIdRule) where
  module _ (m : Reference) (r : Room m) (w : WellFormed rule m) where
    pub tables_read : tables_from (reference_filed rule (replicate table_size 0) m) ≡ tabled (tables_of rule m)
    unfolding tables_from listed body_from splice
    tables_read =
        let u = tables_of rule m in
        let s = sums rule m in
        let z = read_tells rule (replicate table_size 0) refl m r w in
        let ps = z.profiles ∙ fillers u.profiles 8 no_profile (omega (arith, s.profiles, r.profiles)) in
        let ts = z.taps ∙ fillers u.taps 36 no_tap (omega (arith, s.taps, r.taps)) in
        let ns = z.names ∙ fillers u.names 32 no_name (omega (arith, s.names, r.names)) in
        let es = z.extras ∙ fillers u.extras 32 no_extra (omega (arith, s.extras, r.extras)) in
        λ j.
        record {
          type_id = u.type_id;
          profiles_used = sym s.profiles j;
          taps_used = sym s.taps j;
          names_used = sym s.names j;
          extras_used = sym s.extras j;
          profiles = ps j;
          taps = ts j;
          names = ns j;
          extras = es j;
        }

taken : {A : Type 0} {l : List A} {n : ℕ} (xs ys : List A) → l ≡ xs ++ drop (length xs) ys → length xs ≡ n → take n l ≡ xs
taken {n = n} xs ys e h = ap (take n) e ∙ take_at xs (drop (length xs) ys) n h

module _ (rule : TypeIdRule) where
  -- The used entries of a table, whatever it held, are the reference's.
  pub lent_shows : (t : List ℕ) → Lent t → (m : Reference) → WellFormed rule m → Room m → used_of (tables_from (reference_filed rule t m)) ≡ tables_of rule m
  unfolding tables_from splice
  lent_shows t l m w r =
      let u = tables_of rule m in
      let s = sums rule m in
      let z = read_tells rule t l m r w in
      let ps = taken u.profiles (tables_from t).profiles z.profiles s.profiles in
      let ts = taken u.taps (tables_from t).taps z.taps s.taps in
      let ns = taken u.names (tables_from t).names z.names s.names in
      let es = taken u.extras (tables_from t).extras z.extras s.extras in
      λ j. record { type_id = u.type_id; profiles = ps j; taps = ts j; names = ns j; extras = es j }
