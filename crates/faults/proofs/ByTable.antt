-- The image's length is the same summed by table as summed by profile, where the used counts agree. Assumes nothing.
use Prim.Native.Nat.{ℕ, zero, suc, ◌+◌, ◌≤◌, min}
use mathlib.Core.Path.{◌≡◌, refl, sym, ap, ◌∙◌}
use mathlib.Core.List.{List, [], ◌∷◌}
use native.Mathlib.Nat.{min-eq_left}
use native.Mathlib.Omega.{arith}
use lib.ListN.{length, take, drop, length-drop}
use Rattle.reference.specs.declared.TypeIdRule.{TypeIdRule}
use Rattle.reference.specs.declared.Tap.{Tap}
use Rattle.reference.specs.declared.NameComponent.{NameComponent}
use Rattle.reference.specs.declared.LiteComponent.{LiteComponent}
use Rattle.reference.specs.declared.TaggedProfile.{TaggedProfile}
use Rattle.reference.specs.declared.TaggedProfile.TheVariants as Sort
use Rattle.reference.specs.declared.Profile.{Profile as Entry}
use Rattle.reference.specs.declared.View.{View}
use Rattle.std.specs.Prelude.{Ok}
use Rattle.reference.specs.Layout.{gap_length}
use Rattle.reference.specs.Used.{taps_in, names_in, extras_in, owned, body_view}
use Rattle.reference.specs.Meaning.{sum}
use Rattle.reference.specs.Writer.{tap_size, name_size, extra_size, body_size, own_size, size_of, counted, counts_check, view_check, views_check, body_views}
use Rattle.table.specs.Flat.{view_from, tables_from}
use Rattle.survey.specs.declared.Survey.{Survey}
use Rattle.survey.specs.Seen.{holds, passing, Surveyed}
use Rattle.survey.specs.ByTable.{fixed_size, entry_size, used_in, octets_in}
use Rattle.faults.proofs.Tables.{agreeing, taps_listed, names_listed, extras_listed}

sum_split : {A : Type 0} (g : A → ℕ) (k : ℕ) (xs : List A) → sum g xs ≡ sum g (take k xs) + sum g (drop k xs)
sum_split g zero xs = omega arith
sum_split g (suc k) [] = refl
sum_split g (suc k) (x ∷ xs) = omega (arith, sum_split g k xs)

none : {A : Type 0} (g : A → ℕ) (xs : List A) → 0 ≡ length xs → sum g xs ≡ 0
none g [] h = refl
none g (x ∷ xs) h = absurd (omega arith)

-- a profile's octets: its own, and its entries'
body_parts : (b : TaggedProfile) (ts : List Tap) (ns : List NameComponent) (es : List LiteComponent)
    → 8 + body_size b (take (taps_in b) ts) (take (names_in b) ns) (take (extras_in b) es)
    ≡ fixed_size b + (body_view b).len + sum tap_size (take (taps_in b) ts) + sum name_size (take (names_in b) ns) + sum extra_size (take (extras_in b) es)
body_parts (Sort.Opaque t v) ts ns es = omega arith
body_parts (Sort.Biop l nt ne) ts ns es = omega arith
body_parts (Sort.LiteOptions a nn c ne) ts ns es = omega arith

owned_parts : (l : List Entry) (ts : List Tap) (ns : List NameComponent) (es : List LiteComponent)
    → counted taps_in l ≡ length ts → counted names_in l ≡ length ns → counted extras_in l ≡ length es
    → sum own_size (owned l ts ns es) ≡ sum entry_size l + (sum tap_size ts + (sum name_size ns + sum extra_size es))
owned_parts [] ts ns es ht hn he = omega (arith, none tap_size ts ht, none name_size ns hn, none extra_size es he)
owned_parts (p ∷ l) ts ns es ht hn he =
    let a = taps_in p.body in
    let b = names_in p.body in
    let c = extras_in p.body in
    let rest =
    owned_parts l (drop a ts) (drop b ns) (drop c es) (omega (arith, length-drop a ts)) (omega (arith, length-drop b ns)) (omega (arith, length-drop c es)) in
    omega (arith, body_parts p.body ts ns es, rest, sum_split tap_size a ts, sum_split name_size b ns, sum_split extra_size c es)

module _ (rule : TypeIdRule) where
  pub sizes_by_table : (t : List ℕ) → counts_check (tables_from t) ≡ Ok tt → octets_in (used_in t) + gap_length rule (view_from t 0).len ≡ size_of rule (used_in t)
  unfolding size_of tables_from
  sizes_by_table t h =
      let g = agreeing t h in
      let u = used_in t in
      let o = owned_parts u.profiles u.taps u.names u.extras
      (g.taps_sum ∙ sym (taps_listed t g.taps).size) (g.names_sum ∙ sym (names_listed t g.names).size)
      (g.extras_sum ∙ sym (extras_listed t g.extras).size) in
      omega (arith, o)

-- what a survey of the table over n octets says, where they are no more than 65535 and the counts agree
pub ends_told : {n : ℕ} {t : List ℕ} {s : Survey} → Surveyed (min n 65535) t s → n ≤ 65535 → holds s.ends ≡ passing (views_check n (used_in t))
ends_told {t = t} k h = k.ends ∙ ap (λ (m : ℕ). passing (views_check m (used_in t))) (min-eq_left h)

module _ (rule : TypeIdRule) where
  pub octets_told : {m : ℕ} {t : List ℕ} {s : Survey} → Surveyed m t s → counts_check (tables_from t) ≡ Ok tt → {x : ℕ} → x ≡ s.octets + gap_length rule (view_from t 0).len → x ≡ size_of rule (used_in t)
  octets_told {t = t} k h e = e ∙ ap (λ (n : ℕ). n + gap_length rule (view_from t 0).len) k.octets ∙ sizes_by_table rule t h

-- a profile's view is its key, its context or its data
pub body_views_lem : (n : ℕ) (b : TaggedProfile) {v : View} → v ≡ body_view b → view_check n 40 v ≡ body_views n b
body_views_lem n b e = ap (view_check n 40) e ∙ by_sort b
  where
    by_sort : (b : TaggedProfile) → view_check n 40 (body_view b) ≡ body_views n b
    by_sort (Sort.Opaque t v) = refl
    by_sort (Sort.Biop l nt ne) = refl
    by_sort (Sort.LiteOptions a nn c ne) = refl
