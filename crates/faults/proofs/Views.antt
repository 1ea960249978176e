-- The views of a table one by one, as they stand in it, against the checks of its used entries. Assumes nothing.
use Prim.Native.Nat.{ℕ, ◌+◌, ◌*◌, min}
use mathlib.Core.Path.{◌≡◌, sym, ap, ◌∙◌}
use mathlib.Core.List.{List}
use Rattle.reference.specs.Refusals.{Check}
use Rattle.reference.specs.Checks.{both, each}
use Rattle.reference.specs.Writer.{view_check, entry_views, tap_views, name_views, extra_views, views_check}
use Rattle.table.specs.Flat.{view_from, tables_from, profile_of_table, tap_of_table, extra_of_table, profile_region, tap_region, name_region, extra_region, profiles_used, taps_used, names_used, extras_used}
use Rattle.table.specs.Region.{listed}
use Rattle.survey.specs.ByTable.{used_in}
use Rattle.survey.specs.Seen.{name_view, extra_view}
use Rattle.survey.proofs.Whole.{used_profiles, used_taps, used_names, used_extras, tap_view, extra_view_lem, names_views}
use Rattle.faults.proofs.Going.{each_alike}

module _ (n : ℕ) (t : List ℕ) where
  -- the views that stand at first, first + width, ..
  abbrev pub row : (place first width count : ℕ) → Check
  row place first width count = each (view_check n place) (listed count (λ i. view_from t (first + width * i)))

  abbrev pub rows : Check
  rows =
      both (view_check n 0 (view_from t 0))
      (both (each (entry_views n) (listed (min (profiles_used t) profile_region.size) (profile_of_table t)))
      (both (row 41 (tap_region.start + 3) tap_region.width (min (taps_used t) tap_region.size))
      (both (row 42 name_view 2 (2 * min (names_used t) name_region.size)) (row 43 extra_view extra_region.width (min (extras_used t) extra_region.size)))))

  by_row : rows ≡ views_check n (used_in t)
  unfolding views_check tables_from
  by_row =
      let ps = ap (each (entry_views n)) (sym (used_profiles t)) in
      let ts = each_alike (view_check n 41) (tap_views n) _ (tap_of_table t) (λ i. ap (view_check n 41) (tap_view t i)) _ ∙ ap (each (tap_views n)) (sym (used_taps t)) in
      let ns = names_views t n _ ∙ ap (each (name_views n)) (sym (used_names t)) in
      let es = each_alike (view_check n 43) (extra_views n) _ (extra_of_table t) (λ i. ap (view_check n 43) (extra_view_lem t i)) _ ∙ ap (each (extra_views n)) (sym (used_extras t)) in
      λ j. both (view_check n 0 (view_from t 0)) (both (ps j) (both (ts j) (both (ns j) (es j))))

  pub from_rows : {w : Check} → w ≡ rows → w ≡ views_check n (used_in t)
  from_rows e = e ∙ by_row
