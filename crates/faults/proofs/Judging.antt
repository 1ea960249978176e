-- What a survey lets judge of a lent table, and what a judgement says of it: whether it is exact, what measuring finds, and the image's length. Assumes nothing.
use Prim.Native.Nat.{ℕ, ◌+◌, ◌<◌, ◌≤◌, min}
use mathlib.Core.Path.{◌≡◌, refl, sym, ap, ap₂, ◌∙◌, subst}
use mathlib.Core.Bool.{Bool, true, false, ◌&&◌}
use mathlib.Core.List.{List}
use native.Mathlib.Nat.{min-eq_left}
use native.Mathlib.Omega.{arith}
use lib.Bits.{bit_or}
use lib.ListN.{length}
use borrow.Author.Tests.{lt-ltb, le-ltb}
use Rattle.reference.specs.declared.TypeIdRule.{TypeIdRule}
use Rattle.reference.specs.declared.TypeIdRule.TheVariants.{Multiple}
use Rattle.reference.specs.declared.Refusal.{Refusal}
use Rattle.reference.specs.declared.View.{View}
use Rattle.reference.specs.Refusals.{Check}
use Rattle.std.specs.Prelude.{Result, Ok, Err}
use Rattle.reference.specs.Refusals.{Told}
use Rattle.reference.specs.declared.Tables.{Tables}
use Rattle.reference.specs.Layout.{gap_length}
use Rattle.reference.specs.Refusals.{refusal}
use Rattle.reference.specs.Used.{Used}
use Rattle.reference.specs.Tabled.{used_of}
use Rattle.reference.specs.Writer.{size_of, told, views_check, image_check, measure_check, measured}
use Rattle.reference.proofs.Checks.{le_test, lt_test}
use Rattle.reference.proofs.Measured.{told_refused}
use Rattle.reference.proofs.Written.{count_pass}
use Rattle.table.specs.Flat.{view_from, tables_from}
use Rattle.survey.specs.declared.Survey.{Survey}
use Rattle.survey.specs.ByTable.{used_in}
use Rattle.survey.specs.Exact.{exact}
use Rattle.survey.specs.Seen.{holds, passing, Surveyed}
use Rattle.survey.proofs.Every.{and_left}
use Rattle.survey.proofs.Marks.{or_more}
use Rattle.faults.specs.Judges.{Judges, length_told}
use Rattle.faults.proofs.ByTable.{octets_told}
use Rattle.faults.proofs.Order.{passed_pass, at_image, each_passes}

module _ (rule : TypeIdRule) where
  -- ---- measuring's answer, by what its check finds

  module _ (t : Tables) (s : List ℕ) where
    pub passed_measured : {x : ℕ} → measure_check rule t (length s) ≡ Ok tt → x ≡ size_of rule (used_of t) → Ok x ≡ measured rule t s
    unfolding measured
    passed_measured p e = ap Ok e ∙ ap (λ (k : Check). told k (size_of rule (used_of t))) (sym p)

    pub refused_measured : {r : Refusal} → measure_check rule t (length s) ≡ Err r → Err r ≡ measured rule t s
    unfolding measured
    refused_measured e = ap (λ (k : Check). told k (size_of rule (used_of t))) (sym e)

  -- ---- from a survey to the judgement

  -- where measuring passes, the views lie within as much of the source as counts
  views_passed : (t : List ℕ) (n : ℕ) → measure_check rule (tables_from t) n ≡ Ok tt → passing (views_check (min n 65535) (used_in t)) ≡ true
  views_passed t n e =
      let (source, counts, views, image) = each_passes rule (tables_from t) n e in
      ap (λ (m : ℕ). passing (views_check m (used_in t))) (min-eq_left source) ∙ ap passing views

-- not both, if not both of a and what c implies
not_both : (a b : Bool) (c : Check) → (c ≡ Ok tt → b ≡ true) → (a && b) ≡ false → (a && passing c) ≡ false
not_both false b c f e = refl
not_both true b (Ok _) f e = sym (f refl) ∙ e
not_both true b (Err r) f e = refl

fails : (a : Bool) {b : Bool} → b ≡ false → (a && b) ≡ false
fails true e = e
fails false e = refl

pub passed_octets : (rule : TypeIdRule) (n : ℕ) {t : List ℕ} {s : Survey} → Surveyed (min n 65535) t s → passing (measure_check rule (tables_from t) n) ≡ true
    → {x : ℕ} → x ≡ s.octets + gap_length rule (view_from t 0).len → (measure_check rule (tables_from t) n ≡ Ok tt) × (x ≡ size_of rule (used_in t))
passed_octets rule n k e q = let p = passed_pass _ e in (p, octets_told rule k (each_passes rule _ n p).1 q)

module _ (n : ℕ) {t : List ℕ} {s : Survey} (k : Surveyed (min n 65535) t s) where
  marks : holds (bit_or s.fields s.ends) ≡ (exact t && passing (views_check (min n 65535) (used_in t)))
  marks = or_more s.fields s.ends k.fields k.ends

  pub judge_sound : bit_or s.fields s.ends < 65536 → passing (measure_check Multiple (tables_from t) n) ≡ true → Judges t n (Ok s.octets)
  judge_sound h e = let (p, q) = passed_octets Multiple n k e {x = s.octets} (omega arith) in (and_left (exact t) _ (sym marks ∙ lt-ltb _ _ h), p, q)

  pub judge_refused : passing (measure_check Multiple (tables_from t) n) ≡ false → Judges t n (Err s)
  judge_refused e = (k, fails (exact t) e)

  pub judge_marked : 65536 ≤ bit_or s.fields s.ends → Judges t n (Err s)
  judge_marked h = (k, not_both (exact t) _ (measure_check Multiple (tables_from t) n) (views_passed Multiple t n) (sym marks ∙ le-ltb _ _ h))

-- ---- the rule's gap behind it

gap_added : (rule : TypeIdRule) (u : Used) → size_of rule u ≡ size_of Multiple u + gap_length rule u.type_id.len
unfolding size_of
gap_added rule u = omega arith

-- a length that fits is told, and one that passes is 10
fitting : (rule : TypeIdRule) (u : Used) {x : ℕ} → x ≡ size_of rule u → x ≤ 65535 → Ok x ≡ length_told rule u
fitting rule u e h = ap Ok e ∙ ap (λ (c : Check). told c (size_of rule u)) (sym (le_test (size_of rule u) 65535 _ (subst (λ (k : ℕ). k ≤ 65535) e h)))

module _ (t : List ℕ) {total : ℕ} (e : total ≡ size_of Multiple (used_in t)) where
  pub length_alone : {rule : TypeIdRule} → rule ≡ Multiple → total ≤ 65535 → Ok total ≡ length_told rule (used_in t)
  length_alone q h = fitting Multiple (used_in t) e h ∙ ap (λ (x : TypeIdRule). length_told x (used_in t)) (sym q)

  module _ (rule : TypeIdRule) {v : View} {k : ℕ} (g : k ≡ gap_length rule v.len) (shown : v ≡ view_from t 0) where
    size : total + k ≡ size_of rule (used_in t)
    unfolding tables_from
    size = ap₂ ◌+◌ e (g ∙ ap (λ (x : View). gap_length rule x.len) shown) ∙ sym (gap_added rule (used_in t))

    pub length_fits : total + k ≤ 65535 → Ok (total + k) ≡ length_told rule (used_in t)
    length_fits h = fitting rule (used_in t) size h

    pub length_passes : {r : Refusal} → r ≡ refusal 10 0 (total + k) 65535 → 65535 < total + k → Err r ≡ length_told rule (used_in t)
    length_passes q h =
        ap Err (q ∙ ap (λ (n : ℕ). refusal 10 0 n 65535) size)
        ∙ ap (λ (c : Check). told c (size_of rule (used_in t))) (sym (lt_test (size_of rule (used_in t)) 65535 _ (subst (λ (n : ℕ). 65535 < n) size h)))

module _ (rule : TypeIdRule) (t : Tables) (n : ℕ) where
  -- where rule 1 passes, each rule's measuring is left with the image's length
  pub left_to_image : measure_check Multiple t n ≡ Ok tt → measure_check rule t n ≡ image_check (size_of rule (used_of t))
  left_to_image e = let (source, counts, views, image) = each_passes Multiple t n e in at_image rule t n source counts views

  first_passes : measure_check rule t n ≡ Ok tt → measure_check Multiple t n ≡ Ok tt
  first_passes e =
      let (source, counts, views, image) = each_passes rule t n e in
      let size = gap_added rule (used_of t) in
      at_image Multiple t n source counts views ∙ le_test (size_of Multiple (used_of t)) 65535 _ (omega (arith, size, image))

  -- and what rule 1 refuses, each rule refuses
  pub each_refuses : passing (measure_check Multiple t n) ≡ false → passing (measure_check rule t n) ≡ false
  each_refuses e = by_check (measure_check rule t n) refl
    where
      by_check : (c : Check) → measure_check rule t n ≡ c → passing c ≡ false
      by_check (Ok _) p = ap passing (sym (first_passes p)) ∙ e
      by_check (Err r) p = refl

pub passed_limit : (t : Tables) (n : ℕ) {x : ℕ} → measure_check Multiple t n ≡ Ok tt → x ≡ size_of Multiple (used_of t) → x ≤ 65535
passed_limit t n p e = subst (λ (k : ℕ). k ≤ 65535) (sym e) (each_passes Multiple t n p).3

-- what the length that is told then says of measuring under the rule
module _ (rule : TypeIdRule) (t : Tables) (n : ℕ) (e : measure_check Multiple t n ≡ Ok tt) {r : Told} (a : r ≡ length_told rule (used_of t)) where
  pub gap_passed : {x : ℕ} → r ≡ Ok x → (measure_check rule t n ≡ Ok tt) × (x ≡ size_of rule (used_of t))
  gap_passed {x} h = let (p, q) = count_pass (image_check (size_of rule (used_of t))) _ x (sym a ∙ h) in (left_to_image rule t n e ∙ p, sym q)

  pub gap_refused : {y : Refusal} → r ≡ Err y → measure_check rule t n ≡ Err y
  gap_refused {y} h = left_to_image rule t n e ∙ told_refused (image_check (size_of rule (used_of t))) _ y (sym a ∙ h)

pub gap_measured : (rule : TypeIdRule) (t : Tables) (s : List ℕ) → measure_check Multiple t (length s) ≡ Ok tt → {r : Told} → r ≡ length_told rule (used_of t) → r ≡ measured rule t s
unfolding measured
gap_measured rule t s e a = a ∙ ap (λ (c : Check). told c (size_of rule (used_of t))) (sym (left_to_image rule t (length s) e))

-- ---- what a judgement says

module _ (t : List ℕ) (n : ℕ) {r : Result ℕ Survey} (j : Judges t n r) where
  pub sound_says : {x : ℕ} → r ≡ Ok x → Judges t n (Ok x)
  sound_says e = subst (Judges t n) e j

  module _ {s : Survey} (e : r ≡ Err s) where
    pub unsound_says : Judges t n (Err s)
    unsound_says = subst (Judges t n) e j

    pub cut : 65536 ≤ s.fields → exact t ≡ false
    cut h = sym unsound_says.0.fields ∙ le-ltb _ _ h

    -- all fields fit: the table is exact, and so measuring refuses it
    module _ (h : s.fields < 65536) where
      pub fits : exact t ≡ true
      fits = sym unsound_says.0.fields ∙ lt-ltb _ _ h

      pub may_refuse : (rule : TypeIdRule) → (Surveyed (min n 65535) t s) × (passing (measure_check rule (tables_from t) n) ≡ false)
      may_refuse rule =
          (unsound_says.0, each_refuses rule (tables_from t) n (ap (λ (b : Bool). b && passing (measure_check Multiple (tables_from t) n)) (sym fits) ∙ unsound_says.1))
