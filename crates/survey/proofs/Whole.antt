-- What is seen of a whole table is what its used entries are: their counts and octets, and whether their fields fit and their views lie in the source.
-- Assumes nothing.
use Prim.Native.Nat.{ℕ, suc, ◌+◌, ◌-◌, ◌*◌, ◌≤◌, min}
use mathlib.Core.Path.{◌≡◌, refl, sym, ap, ap₂, ◌∙◌}
use mathlib.Core.Bool.{Bool, true, false, ◌&&◌, and-true}
use mathlib.Core.List.{List}
use native.Mathlib.Omega.{arith}
use lib.Dec.{eqb}
use lib.ListN.{get_or}
use Rattle.reference.specs.declared.Refusal.{Refusal}
use Rattle.reference.specs.declared.View.{View}
use Rattle.reference.specs.declared.TaggedProfile.{TaggedProfile}
use Rattle.reference.specs.Refusals.{Check}
use Rattle.reference.specs.Steps.{pick}
use Rattle.reference.specs.Checks.{test, both, each}
use Rattle.reference.specs.Meaning.{sum}
use Rattle.reference.specs.Used.{taps_in, names_in, extras_in}
use Rattle.reference.specs.Writer.{tap_size, name_size, extra_size, view_check, body_views, entry_views, tap_views, name_views, extra_views, views_check}
use Rattle.table.specs.Flat.{view_at, view_from, biop_from, lite_from, opaque_from, body_from, tables_from, profile_of_table, tap_of_table, name_of_table, extra_of_table, profile_region, tap_region, name_region, extra_region, profiles_used, taps_used, names_used, extras_used}
use Rattle.table.specs.Region.{entry, listed}
use Rattle.survey.specs.declared.Survey.{Survey}
use Rattle.survey.specs.Exact.{location_exact, address_exact, profile_exact, profiles_exact, tap_exact, taps_exact, exact}
use Rattle.survey.specs.ByTable.{front_fixed, tap_fixed, name_fixed, extra_fixed, body_octets, entry_size, used_in}
use Rattle.survey.specs.Seen.{holds, passing, biop_seen, lite_seen, opaque_seen, profile_seen, tap_seen, view_seen, added, all_seen, with_fixed, table_seen, name_view, extra_view, Surveyed}
use Rattle.survey.proofs.Marks.{or_more, end_holds, location_holds, address_holds, tap_holds, sort_holds}
use Rattle.survey.proofs.Rows.{take_listed, sum_pairs, sum_fixed, sum_alike, each_pairs, sum_seen, kept, fields_seen, ends_seen, fixed_ends, both_more}

-- ---- the used entries, and where their views stand

module _ (t : List ℕ) where
  pub used_profiles : (used_in t).profiles ≡ listed (min (profiles_used t) profile_region.size) (profile_of_table t)
  unfolding tables_from
  used_profiles = take_listed (profiles_used t) profile_region.size (profile_of_table t)

  pub used_taps : (used_in t).taps ≡ listed (min (taps_used t) tap_region.size) (tap_of_table t)
  unfolding tables_from
  used_taps = take_listed (taps_used t) tap_region.size (tap_of_table t)

  pub used_names : (used_in t).names ≡ listed (min (names_used t) name_region.size) (name_of_table t)
  unfolding tables_from
  used_names = take_listed (names_used t) name_region.size (name_of_table t)

  pub used_extras : (used_in t).extras ≡ listed (min (extras_used t) extra_region.size) (extra_of_table t)
  unfolding tables_from
  used_extras = take_listed (extras_used t) extra_region.size (extra_of_table t)

  view_here : {i k j l : ℕ} → i ≡ k → j ≡ l → view_at t i j ≡ view_at t k l
  view_here p q = λ x. view_at t (p x) (q x)

  pub tap_view : (i : ℕ) → view_from t (tap_region.start + 3 + tap_region.width * i) ≡ (tap_of_table t i).selector
  tap_view i = view_here (omega arith) (omega arith)

  pub extra_view_lem : (i : ℕ) → view_from t (extra_view + extra_region.width * i) ≡ (extra_of_table t i).«data»
  extra_view_lem i = view_here (omega arith) (omega arith)

  id_view : (i : ℕ) → view_from t (name_view + 2 * (2 * i)) ≡ (name_of_table t i).id
  id_view i = view_here (omega arith) (omega arith)

  kind_view : (i : ℕ) → view_from t (name_view + 2 * suc (2 * i)) ≡ (name_of_table t i).kind
  kind_view i = view_here (omega arith) (omega arith)

  abbrev name_views_of : ℕ → View
  name_views_of j = view_from t (name_view + 2 * j)

  pub names_views : (n k : ℕ) → each (view_check n 42) (listed (2 * k) name_views_of) ≡ each (name_views n) (listed k (name_of_table t))
  names_views n k = each_pairs name_views_of (name_of_table t) (view_check n 42) (name_views n) (λ i. ap₂ (λ (v w : View). both (view_check n 42 v) (view_check n 42 w)) (id_view i) (kind_view i)) k

  names_octets : (k : ℕ) → 8 * k + sum (λ v. v.len) (listed (2 * k) name_views_of) ≡ sum name_size (listed k (name_of_table t))
  names_octets k =
      omega (
        arith,
        sum_pairs name_views_of (name_of_table t) (λ v. v.len) (λ x. x.id.len + x.kind.len)
            (λ i. omega (arith, ap (λ (v : View). v.len) (id_view i), ap (λ (v : View). v.len) (kind_view i))) k,
        sum_fixed 8 (λ x. x.id.len + x.kind.len) (name_of_table t) k,
        sum_alike name_size (λ x. 8 + (x.id.len + x.kind.len)) (name_of_table t) (λ x. omega arith) k,
      )

-- ---- over a source of n octets

module _ (n : ℕ) (few : n ≤ 65535) where
  view_ends : (place : ℕ) (v : View) → holds (v.at + v.len + (65535 - n)) ≡ passing (view_check n place v)
  unfolding test
  view_ends place v = end_holds (v.at + v.len) n few ∙ told _ _
    where
      told : (b : Bool) (r : Refusal) → b ≡ passing (test b r)
      told true r = refl
      told false r = refl

  module _ (t : List ℕ) where
    -- a profile, by its sort
    by_sort : (k : ℕ) {B : Type 0} (f : Survey → B) (g : TaggedProfile → B)
        → f (biop_seen n t k) ≡ g (biop_from t k) → f (lite_seen n t k) ≡ g (lite_from t k) → f (opaque_seen n t k) ≡ g (opaque_from t k) → f (profile_seen n t k) ≡ g (body_from t k)
    unfolding profile_seen body_from
    by_sort k f g a b c = go (eqb (get_or t k 0) 1) (eqb (get_or t k 0) 2)
      where
        go : (p q : Bool) → f (pick p (biop_seen n t k) (pick q (lite_seen n t k) (opaque_seen n t k))) ≡ g (pick p (biop_from t k) (pick q (lite_from t k) (opaque_from t k)))
        go true q = a
        go false true = b
        go false false = c

    pub profile_fields : (k : ℕ) → holds (profile_seen n t k).fields ≡ profile_exact t k
    unfolding profile_seen profile_exact
    profile_fields k = go (eqb (get_or t k 0) 1) (eqb (get_or t k 0) 2)
      where
        go : (p q : Bool) → holds (pick p (biop_seen n t k) (pick q (lite_seen n t k) (opaque_seen n t k))).fields ≡ pick p (location_exact t k) (pick q (address_exact t k) (eqb (get_or t k 0) 0))
        go true q = location_holds (get_or t (k + 2) 0) (get_or t (k + 3) 0) (get_or t (k + 4) 0)
        go false true = address_holds (get_or t (k + 2) 0) (get_or t (k + 3) 0) (get_or t (k + 4) 0) (get_or t (k + 5) 0)
        go false false = sort_holds (get_or t k 0)

    pub tap_fields : (k : ℕ) → holds (tap_seen n t k).fields ≡ tap_exact t k
    tap_fields k = tap_holds (get_or t k 0) (get_or t (k + 1) 0) (get_or t (k + 2) 0)

    -- ---- table by table
    abbrev profile : ℕ → Survey
    profile i = profile_seen n t (entry profile_region i)

    abbrev tap : ℕ → Survey
    tap i = tap_seen n t (entry tap_region i)

    abbrev name_half : ℕ → Survey
    name_half i = view_seen n t (name_view + 2 * i)

    abbrev extra : ℕ → Survey
    extra i = view_seen n t (extra_view + extra_region.width * i)

    abbrev np : ℕ
    np = min (profiles_used t) profile_region.size

    abbrev nt : ℕ
    nt = min (taps_used t) tap_region.size

    abbrev nn : ℕ
    nn = min (names_used t) name_region.size

    abbrev ne : ℕ
    ne = min (extras_used t) extra_region.size

    -- what is seen before the entries of each table
    abbrev front : Survey
    front = with_fixed (view_seen n t 0) front_fixed

    abbrev profiled : Survey
    profiled = with_fixed (all_seen profile np front) (tap_fixed * nt)

    abbrev tapped : Survey
    tapped = with_fixed (all_seen tap nt profiled) (name_fixed * nn)

    abbrev named : Survey
    named = with_fixed (all_seen name_half (2 * nn) tapped) (extra_fixed * ne)

    -- only profiles count entries
    counts : (p : Survey → ℕ) (g : TaggedProfile → ℕ) → ((a b : Survey) → p (added a b) ≡ p a + p b) → ((s : Survey) (k : ℕ) → p (with_fixed s k) ≡ p s) → ((k : ℕ) → p (view_seen n t k) ≡ 0) → ((k : ℕ) → p (tap_seen n t k) ≡ 0)
        → ((k : ℕ) → p (profile_seen n t k) ≡ g (body_from t k)) → p (table_seen n t) ≡ sum (λ q. g q.body) (listed np (profile_of_table t))
    counts p g plus fixed view tapless same =
        omega (
          arith,
          kept extra p (λ a i. omega (arith, plus a (extra i), view (extra_view + extra_region.width * i))) ne named,
          fixed (all_seen name_half (2 * nn) tapped) (extra_fixed * ne),
          kept name_half p (λ a i. omega (arith, plus a (name_half i), view (name_view + 2 * i))) (2 * nn) tapped,
          fixed (all_seen tap nt profiled) (name_fixed * nn),
          kept tap p (λ a i. omega (arith, plus a (tap i), tapless (entry tap_region i))) nt profiled,
          fixed (all_seen profile np front) (tap_fixed * nt),
          sum_seen profile p plus (λ q. g q.body) (profile_of_table t) (λ i. same (entry profile_region i)) np front,
          fixed (view_seen n t 0) front_fixed,
          view 0,
        )

    pub seen_octets : (table_seen n t).octets
        ≡ 8 + get_or t 1 0 + sum entry_size (listed np (profile_of_table t)) + sum tap_size (listed nt (tap_of_table t)) + sum name_size (listed nn (name_of_table t)) + sum extra_size (listed ne (extra_of_table t))
    seen_octets =
        omega (
          arith,
          sum_seen extra (λ s. s.octets) (λ a b. refl) (λ x. x.«data».len) (extra_of_table t) (λ i. omega (arith, ap (λ (v : View). v.len) (extra_view_lem t i))) ne named,
          sum_fixed 5 (λ x. x.«data».len) (extra_of_table t) ne,
          sum_seen name_half (λ s. s.octets) (λ a b. refl) (λ v. v.len) (name_views_of t) (λ i. omega arith) (2 * nn) tapped,
          names_octets t nn,
          sum_seen tap (λ s. s.octets) (λ a b. refl) (λ x. x.selector.len) (tap_of_table t) (λ i. refl) nt profiled,
          sum_fixed 7 (λ x. x.selector.len) (tap_of_table t) nt,
          sum_seen profile (λ s. s.octets) (λ a b. refl) entry_size (profile_of_table t) (λ i. by_sort (entry profile_region i) (λ s. s.octets) body_octets refl refl refl) np front,
        )

    pub seen_fields : holds (table_seen n t).fields ≡ (profiles_exact t np && taps_exact t nt)
    seen_fields =
        kept extra (λ s. holds s.fields) (λ a i. or_more a.fields 0 refl refl ∙ and-true _) ne named
        ∙ kept name_half (λ s. holds s.fields) (λ a i. or_more a.fields 0 refl refl ∙ and-true _) (2 * nn) tapped
        ∙ fields_seen tap (λ i. tap_exact t (entry tap_region i)) (λ i. tap_fields (entry tap_region i)) nt profiled
        ∙ ap (λ (b : Bool). b && taps_exact t nt) (fields_seen profile (λ i. profile_exact t (entry profile_region i)) (λ i. profile_fields (entry profile_region i)) np front)

    pub seen_ends : holds (table_seen n t).ends
        ≡ passing (both (view_check n 0 (view_from t 0))
        (both (each (entry_views n) (listed np (profile_of_table t))) (both (each (tap_views n) (listed nt (tap_of_table t))) (both (each (name_views n) (listed nn (name_of_table t))) (each (extra_views n) (listed ne (extra_of_table t)))))))
    seen_ends =
        (ends_seen extra (extra_views n) (extra_of_table t) (λ i. view_ends 43 (view_from t (extra_view + extra_region.width * i)) ∙ ap (λ (v : View). passing (view_check n 43 v)) (extra_view_lem t i)) ne
        (fixed_ends (extra_fixed * ne) (ends_seen name_half (view_check n 42) (name_views_of t) (λ i. view_ends 42 (name_views_of t i)) (2 * nn)
        (fixed_ends (name_fixed * nn) (ends_seen tap (tap_views n) (tap_of_table t) (λ i. view_ends 41 (tap_of_table t i).selector) nt
        (fixed_ends (tap_fixed * nt) (ends_seen profile (entry_views n) (profile_of_table t) (λ i. by_sort (entry profile_region i) (λ s. holds s.ends) (λ b. passing (body_views n b)) (view_ends 40 _) (view_ends 40 _) (view_ends 40 _)) np
        (fixed_ends front_fixed (record { told = view_ends 0 (view_from t 0) }))))))))).told
        ∙ ap passing (both_more _ _ _ ∙ both_more _ _ _ ∙ both_more _ _ _ ∙ ap (λ (c : Check). both (view_check n 0 (view_from t 0)) (both (each (entry_views n) (listed np (profile_of_table t))) (both (each (tap_views n) (listed nt (tap_of_table t))) (both c (each (extra_views n) (listed ne (extra_of_table t))))))) (names_views t n nn))

    pub surveyed : (table_seen n t).octets ≤ 500 * 0x200000000 → Surveyed n t (table_seen n t)
    unfolding exact views_check tables_from
    surveyed b =
        let ps = sym (used_profiles t) in
        let ts = sym (used_taps t) in
        let ns = sym (used_names t) in
        let es = sym (used_extras t) in
        record {
          taps = counts (λ s. s.taps) taps_in (λ a b. refl) (λ s k. refl) (λ k. refl) (λ k. refl) (λ k. by_sort k (λ s. s.taps) taps_in refl refl refl) ∙ ap (sum (λ p. taps_in p.body)) ps;
          names = counts (λ s. s.names) names_in (λ a b. refl) (λ s k. refl) (λ k. refl) (λ k. refl) (λ k. by_sort k (λ s. s.names) names_in refl refl refl) ∙ ap (sum (λ p. names_in p.body)) ps;
          extras = counts (λ s. s.extras) extras_in (λ a b. refl) (λ s k. refl) (λ k. refl) (λ k. refl) (λ k. by_sort k (λ s. s.extras) extras_in refl refl refl) ∙ ap (sum (λ p. extras_in p.body)) ps;
          octets = seen_octets ∙ (λ j. 8 + get_or t 1 0 + sum entry_size (ps j) + sum tap_size (ts j) + sum name_size (ns j) + sum extra_size (es j));
          bounded = b;
          fields = seen_fields;
          ends = seen_ends ∙ (λ j. passing (both (view_check n 0 (view_from t 0)) (both (each (entry_views n) (ps j)) (both (each (tap_views n) (ts j)) (both (each (name_views n) (ns j)) (each (extra_views n) (es j)))))));
        }
