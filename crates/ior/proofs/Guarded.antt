-- A lent table that is exact is measured and written as its tables are; any other is refused with 255, and the output stays. Assumes nothing.
use Prim.Native.Nat.{ℕ}
use mathlib.Core.Path.{◌≡◌, refl, sym, ap, ap₂, subst, ◌∙◌}
use Prim.Native.Nat.{◌≤◌}
use lib.ListN.{length}
use mathlib.Core.Bool.{Bool, true, false}
use mathlib.Core.List.{List, [], ◌∷◌}
use mathlib.Core.Logic.{◌↔◌, inl, inr}
use native.Mathlib.Omega.{arith}
use Rattle.reference.specs.declared.TypeIdRule.{TypeIdRule}
use Rattle.reference.specs.declared.AddressWay.{AddressWay}
use Rattle.reference.specs.declared.AddressWay.TheVariants.{Constants}
use Rattle.reference.specs.Refusals.{Told}
use Rattle.std.specs.Prelude.{Ok, Err, IsErrAnd}
use Rattle.reference.specs.declared.Refusal.{Refusal}
use Rattle.reference.specs.Checks.{Among}
use Rattle.reference.specs.Refusals.{refusal}
use Rattle.reference.specs.Steps.{pick}
use Rattle.reference.specs.Writer.{image_of, measured, written, leaves}
use Rattle.reference.specs.Promises.{LengthIsWritten}
use Rattle.reference.proofs.Asked.{picks_first, picks_second}
use Rattle.reference.proofs.Cases.{by_test}
use Rattle.reference.proofs.Measured as measuredly
use Rattle.reference.proofs.Numbers.{writing_number}
use Rattle.table.specs.Flat.{tables_from, Lent}
use Rattle.table.specs.Filed.{SameEntries}
use Rattle.table.proofs.Alike.{same_used}
use Rattle.survey.specs.Exact.{exact}
use Rattle.survey.specs.Uncut.{Uncut}
use Rattle.survey.proofs.Uncut.{exact_exactly}
use Rattle.survey.proofs.Alike.{same_exact}
use Rattle.survey.proofs.Read.{read_exact}
use Rattle.reading.proofs.Lent.{Taken}
use Rattle.writing.specs.Writes.{Writes}
use Rattle.writing.proofs.Answers.{measure_refuses, refuses}
use Rattle.reference.specs.declared.TypeIdRule.TheVariants.{Multiple}
use Rattle.reference.specs.Writer.{size_of}
use Rattle.reference.proofs.Steps.{passed_on}
use Rattle.survey.specs.ByTable.{used_in}
use Rattle.faults.specs.declared.Unsound.{Unsound}
use Rattle.faults.specs.declared.Unsound.TheVariants.{NotExact, Refused}
use Rattle.faults.specs.Judges.{Judges, Sounds, length_told}
use Rattle.faults.proofs.Judging.{passed_limit, gap_measured, refused_measured}
use Rattle.ior.specs.Judged.{refusal_for, SoundOr}
use Rattle.ior.specs.Lent.{not_exact, measured_from, WritesFrom}

module _ (rule : TypeIdRule) where
  -- the table that an accepted reading left
  pub taken_exact : (s t e : List ℕ) (n : ℕ) → Lent t → Taken rule s t e n → exact e ≡ true
  taken_exact s t e n l k = ap exact k.left ∙ read_exact rule t l k.meaning k.leads.formed k.leads.room

  -- measuring
  module _ (t s : List ℕ) where
    pub exact_measured : exact t ≡ true → measured_from rule t s ≡ measured rule (tables_from t) s
    unfolding measured_from
    exact_measured x = picks_first (exact t) (measured rule (tables_from t) s) not_exact x

    pub inexact_measured : exact t ≡ false → measured_from rule t s ≡ not_exact
    unfolding measured_from
    inexact_measured x = picks_second (exact t) (measured rule (tables_from t) s) not_exact x

    -- by the length of a sound table under rule 1, or the refusal of one that is not
    module _ {v : Told} (j : SoundOr rule t (length s) v) where
      module _ {x : ℕ} (q : v ≡ Ok x) where
        sound_says : Judges t (length s) (Ok x)
        sound_says = subst (SoundOr rule t (length s)) q j

        pub sound_fits : (x ≡ size_of Multiple (used_in t)) × (x ≤ 65535)
        sound_fits = let (_, p, e) = sound_says in (e, passed_limit (tables_from t) (length s) p e)

        pub sound_measured : {r : Told} → r ≡ length_told rule (used_in t) → r ≡ measured_from rule t s
        sound_measured a = let (y, p, e) = sound_says in gap_measured rule (tables_from t) s p a ∙ sym (exact_measured y)

      pub unsound_measured : {x : Refusal} → v ≡ Err x → (w : Told) → IsErrAnd w (λ y. y ≡ x) → w ≡ measured_from rule t s
      unsound_measured q w p = let (u, e, k) = subst (SoundOr rule t (length s)) q j in passed_on w p ∙ ap Err e ∙ go u k
        where
          go : (u : Unsound) → Sounds rule t (length s) (Err u) → Err (refusal_for u) ≡ measured_from rule t s
          go NotExact x = sym (inexact_measured x)
          go (Refused y) k = refused_measured rule (tables_from t) s k.1 ∙ sym (exact_measured k.0)

  -- the table that an accepted reading left: no number is cut, and the part's length is measured
  module _ (s t e : List ℕ) (n : ℕ) (l : Lent t) (k : Taken rule s t e n) where
    pub taken_uncut : Uncut e
    taken_uncut = (exact_exactly e k.shows.long).0 (taken_exact s t e n l k)

    pub taken_measured : measured_from rule e s ≡ Ok n
    taken_measured = exact_measured e s (taken_exact s t e n l k) ∙ (measuredly.length_is_written rule Constants (tables_from e) s s).length n (k.back Constants s k.leads.inside).0

module _ (rule : TypeIdRule) (way : AddressWay) where
  -- writing: what the code shows
  module _ {t s d : List ℕ} {w : Told} where
    pub writes_exact : {f : List ℕ} → exact t ≡ true → Writes rule way (tables_from t) s d w f → WritesFrom rule way t s d w f
    writes_exact x c =
        record {
          answers = c.answers ∙ sym (picks_first (exact t) (written rule (tables_from t) s d) not_exact x);
          leaves = c.leaves ∙ sym (picks_first (exact t) (leaves rule way (tables_from t) s d) d x);
        }

    pub refuses_inexact : exact t ≡ false → w ≡ not_exact → WritesFrom rule way t s d w d
    refuses_inexact x e =
        record {
          answers = e ∙ sym (picks_second (exact t) (written rule (tables_from t) s d) not_exact x);
          leaves = sym (picks_second (exact t) (leaves rule way (tables_from t) s d) d x);
        }

  module _ {t s : List ℕ} (d : List ℕ) {v : Told} (j : SoundOr rule t (length s) v) where
    pub sound_writes : {x : ℕ} → v ≡ Ok x → {w : Told} {f : List ℕ} → Writes rule way (tables_from t) s d w f → WritesFrom rule way t s d w f
    sound_writes q c = writes_exact (subst (SoundOr rule t (length s)) q j).0 c

    pub unsound_writes : {x : Refusal} → v ≡ Err x → (w : Told) → IsErrAnd w (λ y. y ≡ x) → WritesFrom rule way t s d w d
    unsound_writes q w p =
        let (u, e, k) = subst (SoundOr rule t (length s)) q j in
        subst (λ (z : Told). WritesFrom rule way t s d z d) (sym (passed_on w p ∙ ap Err e)) (go u k)
      where
        go : (u : Unsound) → Sounds rule t (length s) (Err u) → WritesFrom rule way t s d (Err (refusal_for u)) d
        go NotExact x = refuses_inexact x refl
        go (Refused y) k = writes_exact k.0 (refuses rule way (tables_from t) s d (measure_refuses rule (tables_from t) (length s) (length d) k.1))

  -- .. and what it says
  module _ (t s d : List ℕ) (w : Told) (f : List ℕ) (c : WritesFrom rule way t s d w f) where
    pub exact_writes : exact t ≡ true → Writes rule way (tables_from t) s d w f
    exact_writes x =
        record {
          answers = c.answers ∙ picks_first (exact t) (written rule (tables_from t) s d) not_exact x;
          leaves = c.leaves ∙ picks_first (exact t) (leaves rule way (tables_from t) s d) d x;
        }

    pub inexact_refused : exact t ≡ false → (w ≡ not_exact) × (f ≡ d)
    inexact_refused x = (c.answers ∙ picks_second (exact t) (written rule (tables_from t) s d) not_exact x, c.leaves ∙ picks_second (exact t) (leaves rule way (tables_from t) s d) d x)

    -- what is accepted is exact
    pub accepted_writes : (n : ℕ) → w ≡ Ok n → Writes rule way (tables_from t) s d w f
    accepted_writes n h =
        by_test (exact t) exact_writes (λ x. let q = sym h ∙ (inexact_refused x).0 in let z : ◌≡◌ {A = ℕ} 0 1 = cc in absurd (omega arith))

    pub refused_leaves : (x : Refusal) → w ≡ Err x → f ≡ d
    refused_leaves x h =
        by_test (exact t) (λ y. let v = exact_writes y in v.leaves ∙ measuredly.refused_writing_leaves_all rule way (tables_from t) s d x (sym v.answers ∙ h)) (λ y. (inexact_refused y).1)

    -- an exact table is never refused with 255
    not_exact_lem : w ≡ not_exact → exact t ≡ false
    not_exact_lem h =
        by_test (exact t) (λ x. let n = (writing_number rule (tables_from t) s d (refusal 255 0 0 0) (sym (exact_writes x).answers ∙ h)).1 in absurd (omega arith)) (λ x. x)

    pub writing_cuts_nothing : Lent t → (w ≡ not_exact) ↔ (Uncut t → ⊥)
    writing_cuts_nothing l =
        let e = exact_exactly t l in (
          λ h u. let x = sym (e.1 u) ∙ not_exact_lem h in let z : ◌≡◌ {A = ℕ} 0 1 = cc in omega arith,
          λ never. by_test (exact t) (λ x. absurd (never (e.0 x))) (λ x. (inexact_refused x).0),
        )

    pub length_is_written : (q : Told) → q ≡ measured_from rule t s → LengthIsWritten (255 ∷ 6 ∷ 8 ∷ 9 ∷ 10 ∷ []) (image_of rule way s (tables_from t)) q w
    length_is_written q h = by_test (exact t) yes no
      where
        yes : exact t ≡ true → LengthIsWritten (255 ∷ 6 ∷ 8 ∷ 9 ∷ 10 ∷ []) (image_of rule way s (tables_from t)) q w
        yes x =
            let a : q ≡ measured rule (tables_from t) s = h ∙ exact_measured rule t s x in
            let b : w ≡ written rule (tables_from t) s d = (exact_writes x).answers in
            let l = measuredly.length_is_written rule way (tables_from t) s d in
            record {
              image = λ n e. l.image n (sym a ∙ e);
              length = λ n e. a ∙ l.length n (sym b ∙ e);
              refused = λ y e. let (p, k) = l.refused y (sym a ∙ e) in (b ∙ p, inr k);
              early = λ y e k. a ∙ l.early y (sym b ∙ e) (late y (sym b ∙ e) k);
            }
          where
            -- 255 is none of writing's numbers
            late : (y : Refusal) → written rule (tables_from t) s d ≡ Err y → Among y.number (255 ∷ 6 ∷ 8 ∷ 9 ∷ 10 ∷ []) → Among y.number (6 ∷ 8 ∷ 9 ∷ 10 ∷ [])
            late y e (inl k) = let n = (writing_number rule (tables_from t) s d y e).1 in absurd (omega arith)
            late y e (inr k) = k

        no : exact t ≡ false → LengthIsWritten (255 ∷ 6 ∷ 8 ∷ 9 ∷ 10 ∷ []) (image_of rule way s (tables_from t)) q w
        no x =
            let a : q ≡ not_exact = h ∙ inexact_measured rule t s x in
            let b : w ≡ not_exact = (inexact_refused x).0 in
            record {
              image = λ n e. let z : ◌≡◌ {A = ℕ} 0 1 = cc in absurd (omega arith);
              length = λ n e. let z : ◌≡◌ {A = ℕ} 0 1 = cc in absurd (omega arith);
              refused = λ y e. let p : refusal 255 0 0 0 ≡ y = cc in (b ∙ sym a ∙ e, inl (sym (ap (λ (v : Refusal). v.number) p)));
              early = λ y e k. a ∙ sym b ∙ e;
            }

  -- tables with the same front and the same numbers in their used entries
  pub only_used_matter : (t t' : List ℕ) → SameEntries t t' → (s d : List ℕ) (w w' : Told) (f f' : List ℕ) → WritesFrom rule way t s d w f → WritesFrom rule way t' s d w' f'
      → (measured_from rule t s ≡ measured_from rule t' s) × (w ≡ w') × (f ≡ f')
  unfolding measured_from
  only_used_matter t t' h s d w w' f f' c c' =
      let x = measuredly.only_used_matter rule way (tables_from t) (tables_from t') (same_used t t' h) s d in
      let e = same_exact t t' h in (
        ap₂ (λ (b : Bool) (q : Told). pick b q not_exact) e x.measures,
        c.answers ∙ ap₂ (λ (b : Bool) (q : Told). pick b q not_exact) e x.answers ∙ sym c'.answers,
        c.leaves ∙ ap₂ (λ (b : Bool) (l : List ℕ). pick b l d) e x.leave ∙ sym c'.leaves,
      )
