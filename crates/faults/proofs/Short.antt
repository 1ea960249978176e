-- Check 2 over a lent table: a profile's by its sort, and what a loop over the profiles goes by. Assumes nothing.
use Prim.Native.Nat.{ℕ, ◌+◌, ◌<◌, ◌≤◌}
use borrow.Author.Tests.{eqb-true, eqb-false}
use mathlib.Core.Path.{◌≡◌, refl, sym, ap, ◌∙◌}
use mathlib.Core.Logic.{◌≢◌}
use mathlib.Core.Bool.{Bool, true, false}
use mathlib.Core.List.{List}
use native.Mathlib.Omega.{arith}
use lib.Dec.{eqb}
use lib.ListN.{get_or, take}
use Rattle.octets.specs.Octets.{part}
use Rattle.reference.specs.declared.Tap.{Tap}
use Rattle.reference.specs.declared.LiteComponent.{LiteComponent}
use Rattle.reference.specs.declared.TaggedProfile.{TaggedProfile}
use Rattle.reference.specs.declared.Profile.{Profile as Entry}
use Rattle.reference.specs.declared.Refusal.{Refusal}
use Rattle.reference.specs.Refusals.{Check}
use Rattle.std.specs.Prelude.{Ok, Err}
use Rattle.reference.specs.Used.{Own, taps_in, names_in, extras_in, owned_of, body_view}
use Rattle.reference.specs.Tabled.{no_profile}
use Rattle.reference.specs.Checks.{both, each}
use Rattle.reference.specs.Meaning.{sum}
use Rattle.reference.specs.Writer.{tap_size, counted, short_check, extra_short, own_short}
use Rattle.reference.proofs.Checks.{stop, go}
use Rattle.reference.proofs.Walk.{ahead, ahead_open, ahead_end, counted_open, counted_within}
use Rattle.table.specs.Flat.{body_from, body_of_table, profiles_used, profile_of_table}
use Rattle.table_entries.proofs.Sorts.{body_biop, body_lite, body_opaque}
use Rattle.survey.specs.ByTable.{used_in}
use Rattle.faults.specs.Short.{short_at, short_here, Within}
use Rattle.faults.proofs.Listed.{Listed}
use Rattle.faults.proofs.Tables.{Agreeing, profiles_listed}

-- ---- a profile whose taps begin at a and whose extras begin at c

module _ (ts : List Tap) (es : List LiteComponent) (a c : ℕ) where
  abbrev extras_at : TaggedProfile → Check
  extras_at b = each extra_short (part es c (extras_in b))

  abbrev biop_at : TaggedProfile → Check
  biop_at b = both (short_check (9 + (body_view b).len)) (both (short_check (1 + sum tap_size (part ts a (taps_in b)))) (extras_at b))

  module _ (t : List ℕ) (k : ℕ) where
    pub short_biop : get_or t k 0 ≡ 1 → {w : Check} → w ≡ biop_at (body_from t k) → w ≡ short_at ts es a c (body_from t k)
    short_biop e h = h ∙ ap biop_at (body_biop t k e) ∙ sym (ap (short_at ts es a c) (body_biop t k e))

    pub short_other : get_or t k 0 ≢ 1 → {w : Check} → w ≡ extras_at (body_from t k) → w ≡ short_at ts es a c (body_from t k)
    unfolding each
    short_other h {w} q = by_sort (eqb (get_or t k 0) 2) refl
      where
        by_sort : (b : Bool) → eqb (get_or t k 0) 2 ≡ b → w ≡ short_at ts es a c (body_from t k)
        by_sort true e = let p = body_lite t k (eqb-true _ _ e) in q ∙ ap extras_at p ∙ sym (ap (short_at ts es a c) p)
        by_sort false e = let p = body_opaque t k h (eqb-false _ _ e) in q ∙ ap extras_at p ∙ sym (ap (short_at ts es a c) p)

-- ---- the profiles in a row

module _ (t : List ℕ) where
  abbrev left : ℕ → ℕ → ℕ → ℕ → List Own
  left = let u = used_in t in ahead u.profiles u.taps u.names u.extras no_profile

-- the first i profiles have passed; their taps and extras are so many
pub record Passed (t : List ℕ) (tap extra i : ℕ) : Type 0 where
  pub taps : tap ≡ counted taps_in (take i (used_in t).profiles)
  pub extras : extra ≡ counted extras_in (take i (used_in t).profiles)
  pub rest : each own_short (left t i tap (counted names_in (take i (used_in t).profiles)) extra) ≡ each own_short (owned_of (used_in t))

pub passed_begin : {t : List ℕ} → Passed t 0 0 0
passed_begin = record { taps = refl; extras = refl; rest = refl }

module _ {t : List ℕ} (g : Agreeing t) {tap extra i : ℕ} (p : Passed t tap extra i) where
  profiles_here : Listed (used_in t).profiles (profile_of_table t) (profiles_used t)
  profiles_here = profiles_listed t g.profiles

  pub passed_end : profiles_used t ≤ i → Ok tt ≡ each own_short (owned_of (used_in t))
  unfolding each
  passed_end h =
      let u = used_in t in
      let b = counted names_in (take i u.profiles) in
      let none = ahead_end u.profiles u.taps u.names u.extras no_profile i tap b extra (omega (arith, profiles_here.size)) in
      sym (ap (each own_short) none) ∙ p.rest

  module _ (h : i < profiles_used t) where
    body_here : (get_or (used_in t).profiles i no_profile).body ≡ body_of_table t i
    body_here = ap (λ (x : Entry). x.body) (profiles_here.tells i no_profile h)

    -- the count goes on
    more : (f : TaggedProfile → ℕ) → counted f (take i (used_in t).profiles) + f (body_of_table t i) ≡ counted f (take (i + 1) (used_in t).profiles)
    more f =
        ap (λ (b : TaggedProfile). counted f (take i (used_in t).profiles) + f b) (sym body_here)
        ∙ counted_open f (used_in t).profiles i no_profile (omega (arith, profiles_here.size))

    pub passed_within : Within t i tap extra
    passed_within =
        let ps = (used_in t).profiles in
        record {
          profile = omega (arith, g.profiles);
          taps = g.taps;
          extras = g.extras;
          taps_within = omega (arith, p.taps, more taps_in, counted_within taps_in ps (i + 1), g.taps_sum);
          extras_within = omega (arith, p.extras, more extras_in, counted_within extras_in ps (i + 1), g.extras_sum);
        }

    here : each own_short (owned_of (used_in t))
        ≡ both (short_here t i tap extra)
        (each own_short (left t (i + 1) (tap + taps_in (body_of_table t i)) (counted names_in (take (i + 1) (used_in t).profiles)) (extra + extras_in (body_of_table t i))))
    unfolding each
    here =
        let u = used_in t in
        let b = counted names_in (take i u.profiles) in
        let n = ap (λ (x : TaggedProfile). b + names_in x) body_here ∙ more names_in in
        let q = body_here in
        sym p.rest
        ∙ ap (each own_short) (ahead_open u.profiles u.taps u.names u.extras no_profile i tap b extra (omega (arith, profiles_here.size)))
        ∙ (λ j.
        both (short_at u.taps u.extras tap extra (q j)) (each own_short (left t (i + 1) (tap + taps_in (q j)) (n j) (extra + extras_in (q j)))))

    pub passed_turn : short_here t i tap extra ≡ Ok tt → {m n : ℕ} → m ≡ taps_in (body_of_table t i) → n ≡ extras_in (body_of_table t i) → Passed t (tap + m) (extra + n) (i + 1)
    passed_turn e p₁ p₂ =
        record {
          taps = omega (arith, p.taps, p₁, more taps_in);
          extras = omega (arith, p.extras, p₂, more extras_in);
          rest =
              (λ j. each own_short (left t (i + 1) (tap + p₁ j) (counted names_in (take (i + 1) (used_in t).profiles)) (extra + p₂ j)))
              ∙ sym (here ∙ go (short_here t i tap extra) _ e);
        }

    pub passed_stop : {r : Refusal} → short_here t i tap extra ≡ Err r → Err r ≡ each own_short (owned_of (used_in t))
    passed_stop e = sym (here ∙ stop (short_here t i tap extra) _ _ e)
