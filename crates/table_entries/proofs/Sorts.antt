-- What the first number of a profile's entry makes of it: 1 is BIOP, 2 LiteOptions, any other opaque. Assumes nothing.
use Prim.Native.Nat.{ℕ}
use borrow.Author.Tests.{ne_eqb}
use mathlib.Core.Path.{◌≡◌, refl, ap, ◌∙◌}
use mathlib.Core.Logic.{◌≢◌}
use mathlib.Core.Bool.{Bool, true, false}
use mathlib.Core.List.{List}
use lib.Dec.{eqb}
use lib.ListN.{get_or}
use Rattle.reference.specs.Steps.{pick}
use Rattle.reference.specs.Used.{taps_in, names_in}
use Rattle.table.specs.Flat.{biop_from, lite_from, opaque_from, body_from}

module _ (t : List ℕ) (k : ℕ) where
  pub body_biop : get_or t k 0 ≡ 1 → body_from t k ≡ biop_from t k
  unfolding body_from
  body_biop e = ap (λ (s : ℕ). pick (eqb s 1) (biop_from t k) (pick (eqb s 2) (lite_from t k) (opaque_from t k))) e

  pub body_lite : get_or t k 0 ≡ 2 → body_from t k ≡ lite_from t k
  unfolding body_from
  body_lite e = ap (λ (s : ℕ). pick (eqb s 1) (biop_from t k) (pick (eqb s 2) (lite_from t k) (opaque_from t k))) e

  not_first : get_or t k 0 ≢ 1 → body_from t k ≡ pick (eqb (get_or t k 0) 2) (lite_from t k) (opaque_from t k)
  unfolding body_from
  not_first h = ap (λ (b : Bool). pick b (biop_from t k) (pick (eqb (get_or t k 0) 2) (lite_from t k) (opaque_from t k))) (ne_eqb (get_or t k 0) 1 h)

  not_second : get_or t k 0 ≢ 2 → body_from t k ≡ pick (eqb (get_or t k 0) 1) (biop_from t k) (opaque_from t k)
  unfolding body_from
  not_second h = ap (λ (b : Bool). pick (eqb (get_or t k 0) 1) (biop_from t k) (pick b (lite_from t k) (opaque_from t k))) (ne_eqb (get_or t k 0) 2 h)

  pub body_opaque : get_or t k 0 ≢ 1 → get_or t k 0 ≢ 2 → body_from t k ≡ opaque_from t k
  body_opaque h l = not_first h ∙ ap (λ (b : Bool). pick b (lite_from t k) (opaque_from t k)) (ne_eqb (get_or t k 0) 2 l)

  -- a profile that is not BIOP has no taps, one that is not LiteOptions no names
  pub no_taps_lem : get_or t k 0 ≢ 1 → taps_in (body_from t k) ≡ 0
  no_taps_lem h = ap taps_in (not_first h) ∙ go (eqb (get_or t k 0) 2)
    where
      go : (b : Bool) → taps_in (pick b (lite_from t k) (opaque_from t k)) ≡ 0
      go true = refl
      go false = refl

  pub no_names_lem : get_or t k 0 ≢ 2 → names_in (body_from t k) ≡ 0
  no_names_lem h = ap names_in (not_second h) ∙ go (eqb (get_or t k 0) 1)
    where
      go : (b : Bool) → names_in (pick b (biop_from t k) (opaque_from t k)) ≡ 0
      go true = refl
      go false = refl

-- what a function uses that goes by the sort
pub ruleset by_sort = (body_biop, body_lite, body_opaque, no_taps_lem, no_names_lem)
