-- The order of measuring's refusals: the source, the counts, the views, the image. Assumes nothing.
use Prim.Native.Nat.{ℕ, ◌<◌, ◌≤◌}
use mathlib.Core.Path.{◌≡◌, refl, sym, ap, ◌∙◌}
use mathlib.Core.Bool.{Bool, true, false}
use mathlib.Core.Logic.{◌≢◌, ◌⊎◌, inl, inr}
use mathlib.Core.List.{List}
use native.Mathlib.Omega.{arith}
use lib.Dec.{leb}
use borrow.Author.Tests.{leb-false}
use Rattle.reference.specs.declared.TypeIdRule.{TypeIdRule}
use Rattle.reference.specs.declared.Refusal.{Refusal}
use Rattle.reference.specs.declared.Tables.{Tables}
use Rattle.reference.specs.Refusals.{Check}
use Rattle.std.specs.Prelude.{Ok, Err}
use Rattle.std.specs.Result.{is_ok}
use Rattle.reference.specs.Refusals.{refusal}
use Rattle.reference.specs.Tabled.{used_of}
use Rattle.reference.specs.Used.{taps_in, names_in, extras_in}
use Rattle.reference.specs.Checks.{both, test}
use Rattle.reference.specs.Writer.{size_of, source_check, used_check, sum_check, counted, counts_check, views_check, image_check, measure_check}
use Rattle.reference.proofs.Checks.{stop, go, passes, test_le, le_test, lt_test, ne_test}
use Rattle.table.specs.Flat.{tables_from, profile_region, profiles_used, taps_used, names_used, extras_used}
use Rattle.survey.specs.ByTable.{used_in}
use Rattle.survey.specs.Seen.{passing}

-- ---- a check as a truth value

pub differ : {A : Type 0} → ◌≡◌ {A = Bool} false true → A
differ e = let z : ◌≡◌ {A = ℕ} 0 1 = cc in absurd (omega arith)

pub passed_pass : (c : Check) → passing c ≡ true → c ≡ Ok tt
passed_pass (Ok _) e = refl
passed_pass (Err r) e = differ e

pub ok_passes : (c : Check) → is_ok c ≡ true → c ≡ Ok tt
ok_passes (Ok _) e = refl
ok_passes (Err r) e = differ e

pub err_fails : (c : Check) → is_ok c ≡ false → passing c ≡ false
err_fails (Ok _) e = differ (sym e)
err_fails (Err r) e = refl

stopped : (a b : Check) → passing a ≡ false → passing (both a b) ≡ false
unfolding both
stopped (Ok _) b e = differ (sym e)
stopped (Err r) b e = refl

-- ---- 8, over a lent table

-- a used count, as it was read, beyond its size or not the sum
pub count_fails : (place size total : ℕ) {read used : ℕ} → read ≡ used → (size < read) ⊎ ((read ≤ size) × (total ≢ read))
    → Err (refusal 8 place 0 0) ≡ both (used_check place size used) (sum_check place total used)
count_fails place size total {used = used} e (inl h) = sym (stop (used_check place size used) _ _ (lt_test used size _ (omega arith)))
count_fails place size total {used = used} e (inr (h, q)) =
    sym (go (used_check place size used) _ (le_test used size _ (omega arith)) ∙ ne_test total used _ (λ p. q (p ∙ sym e)))

pub too_many_profiles : (t : List ℕ) → profile_region.size < profiles_used t → counts_check (tables_from t) ≡ Err (refusal 8 40 0 0)
unfolding counts_check tables_from
too_many_profiles t h = stop (used_check 40 8 (profiles_used t)) _ _ (lt_test (profiles_used t) 8 _ h)

-- .. and after them each table
abbrev table_check : ℕ → ℕ → ℕ → ℕ → Check
table_check place size total used = both (used_check place size used) (sum_check place total used)

module _ (t : List ℕ) (few : profiles_used t ≤ profile_region.size) {a b d : ℕ} (taps : a ≡ counted taps_in (used_in t).profiles)
    (names : b ≡ counted names_in (used_in t).profiles) (extras : d ≡ counted extras_in (used_in t).profiles) where
  abbrev taps_check : Check
  taps_check = table_check 41 36 a (taps_used t)

  abbrev names_check : Check
  names_check = table_check 42 32 b (names_used t)

  abbrev extras_check : Check
  extras_check = table_check 43 32 d (extras_used t)

  table_by_table : both taps_check (both names_check extras_check) ≡ counts_check (tables_from t)
  unfolding counts_check tables_from
  table_by_table =
      (λ j. both (table_check 41 36 (taps j) (taps_used t)) (both (table_check 42 32 (names j) (names_used t)) (table_check 43 32 (extras j) (extras_used t))))
      ∙ sym (go (used_check 40 8 (profiles_used t)) _ (le_test (profiles_used t) 8 _ few))

  pub from_counts : {w : Check} → w ≡ both taps_check (both names_check extras_check) → w ≡ counts_check (tables_from t)
  from_counts e = e ∙ table_by_table

module _ (rule : TypeIdRule) where
  -- ---- 6, 8, 9, 10

  module _ (t : Tables) (n : ℕ) where
    pub stop_source : 65535 < n → measure_check rule t n ≡ Err (refusal 6 0 n 65535)
    unfolding measure_check
    stop_source h = stop (source_check n) _ _ (lt_test n 65535 _ h)

    module _ (source : n ≤ 65535) where
      beyond_source : measure_check rule t n ≡ both (counts_check t) (both (views_check n (used_of t)) (image_check (size_of rule (used_of t))))
      unfolding measure_check
      beyond_source = go (source_check n) _ (le_test n 65535 _ source)

      pub stop_counts : {r : Refusal} → counts_check t ≡ Err r → measure_check rule t n ≡ Err r
      stop_counts e = beyond_source ∙ stop (counts_check t) _ _ e

      pub counts_fail : passing (counts_check t) ≡ false → passing (measure_check rule t n) ≡ false
      counts_fail e = ap passing beyond_source ∙ stopped (counts_check t) _ e

      module _ (counts : counts_check t ≡ Ok tt) where
        beyond_counts : measure_check rule t n ≡ both (views_check n (used_of t)) (image_check (size_of rule (used_of t)))
        beyond_counts = beyond_source ∙ go (counts_check t) _ counts

        pub stop_views : {r : Refusal} → views_check n (used_of t) ≡ Err r → measure_check rule t n ≡ Err r
        stop_views e = beyond_counts ∙ stop (views_check n (used_of t)) _ _ e

        pub views_fail : passing (views_check n (used_of t)) ≡ false → passing (measure_check rule t n) ≡ false
        views_fail e = ap passing beyond_counts ∙ stopped (views_check n (used_of t)) _ e

        pub at_image : views_check n (used_of t) ≡ Ok tt → measure_check rule t n ≡ image_check (size_of rule (used_of t))
        at_image views = beyond_counts ∙ go (views_check n (used_of t)) _ views

    -- tables that measuring passes: each of its four checks does
    pub each_passes : measure_check rule t n ≡ Ok tt → (n ≤ 65535) × (counts_check t ≡ Ok tt) × (views_check n (used_of t) ≡ Ok tt) × (size_of rule (used_of t) ≤ 65535)
    unfolding measure_check
    each_passes e =
        let (source, counted) = passes (source_check n) _ e in
        let (counts, viewed) = passes (counts_check t) _ counted in
        let (views, image) = passes (views_check n (used_of t)) _ viewed in
        (test_le n 65535 _ source, counts, views, test_le (size_of rule (used_of t)) 65535 _ image)

-- 10, by its test
pub image_passing : (size : ℕ) → leb size 65535 ≡ passing (image_check size)
unfolding test
image_passing size = by_test (leb size 65535)
  where
    by_test : (b : Bool) → b ≡ passing (test b (refusal 10 0 size 65535))
    by_test true = refl
    by_test false = refl

pub image_refused : (size : ℕ) → passing (image_check size) ≡ false → image_check size ≡ Err (refusal 10 0 size 65535)
image_refused size e = lt_test size 65535 _ (leb-false size 65535 (image_passing size ∙ e))
