-- What the loop over a lent table's profiles goes by: where a profile's entries begin, that they lie within the tables, and which profiles are
-- left. Assumes nothing.
use Prim.Native.Nat.{ℕ, ◌+◌, ◌<◌, ◌≤◌}
use mathlib.Core.Path.{◌≡◌, sym, ap, ◌∙◌}
use mathlib.Core.List.{List, ◌∷◌, map}
use native.Mathlib.Omega.{arith}
use lib.ListN.{length, take, get_or}
use lib.Seq.{get_or-take, length-take-le}
use Rattle.reference.specs.declared.TaggedProfile.{TaggedProfile}
use Rattle.reference.specs.declared.Profile.{Profile}
use Rattle.reference.specs.Used.{Used, Own, owned_of, taps_in, names_in, extras_in}
use Rattle.reference.specs.Tabled.{no_profile}
use Rattle.reference.specs.Writer.{counted}
use Rattle.reference.proofs.Walk.{some, some_used, ahead, ahead_open, counted_open, counted_within}
use Rattle.reference.proofs.Agreeing.{AgreeingIn}
use Rattle.reference.proofs.Formed.{length_owned}
use Rattle.reference.proofs.Sizes.{length-map}
use Rattle.table.specs.declared.Counts.{Counts}
use Rattle.table.specs.Flat.{tables_from, body_of_table}
use Rattle.table.proofs.Entries.{profiles_length, profile_entry, profiles_used_lem}
use Rattle.survey.specs.ByTable.{used_in}
use Rattle.writing.specs.Own.{counts_in, own_on, after_of, Placed}

-- the profiles that are left at profile i, whose entries begin at f
abbrev pub left_at : List ℕ → ℕ → Counts → List Own
left_at t i f = ahead (used_in t).profiles (used_in t).taps (used_in t).names (used_in t).extras no_profile i f.taps f.names f.extras

-- the profile b with its entries among the used ones
abbrev here_with : Used → Counts → TaggedProfile → Own
here_with u f b =
    record { body = b; taps = some u.taps f.taps (taps_in b); names = some u.names f.names (names_in b); extras = some u.extras f.extras (extras_in b) }

-- f is what the i profiles before count
pub record Walked (t : List ℕ) (i : ℕ) (f : Counts) : Type 0 where
  pub taps : f.taps ≡ counted taps_in (take i (used_in t).profiles)
  pub names : f.names ≡ counted names_in (take i (used_in t).profiles)
  pub extras : f.extras ≡ counted extras_in (take i (used_in t).profiles)

module _ (t : List ℕ) (p : AgreeingIn (tables_from t)) where
  -- as many as are used
  pub profiles_count : length (used_in t).profiles ≡ (tables_from t).profiles_used
  profiles_count = length-take-le (tables_from t).profiles_used (tables_from t).profiles (omega (arith, profiles_length t, p.profiles))

  pub meanings_count : {B : Type 0} (g : Own → B) → length (map g (owned_of (used_in t))) ≡ get_or t 2 0
  meanings_count g =
      length-map g (owned_of (used_in t)) ∙ length_owned (used_in t).profiles (used_in t).taps (used_in t).names (used_in t).extras ∙ profiles_count ∙ profiles_used_lem t

  module _ (i : ℕ) (f : Counts) (w : Walked t i f) (h : i < (tables_from t).profiles_used) where
    here_body : (get_or (used_in t).profiles i no_profile).body ≡ body_of_table t i
    here_body =
        ap (λ (x : Profile). x.body)
        (get_or-take (tables_from t).profiles_used (tables_from t).profiles i no_profile h ∙ profile_entry t i (omega (arith, p.profiles)))

    -- one profile more, of whatever it counts
    more : (g : TaggedProfile → ℕ) → counted g (take i (used_in t).profiles) + g (body_of_table t i) ≡ counted g (take (i + 1) (used_in t).profiles)
    more g =
        ap (λ (x : TaggedProfile). counted g (take i (used_in t).profiles) + g x) (sym here_body)
        ∙ counted_open g (used_in t).profiles i no_profile (omega (arith, profiles_count))

    within : (g : TaggedProfile → ℕ) → counted g (take i (used_in t).profiles) + g (body_of_table t i) ≤ counted g (used_in t).profiles
    within g = omega (arith, more g, counted_within g (used_in t).profiles (i + 1))

    pub walk_placed : Placed f (counts_in (body_of_table t i))
    walk_placed =
        record {
          taps = omega (arith, w.taps, within taps_in, p.taps_sum, p.taps);
          names = omega (arith, w.names, within names_in, p.names_sum, p.names);
          extras = omega (arith, w.extras, within extras_in, p.extras_sum, p.extras);
        }

    pub walk_on_lem : Walked t (i + 1) (after_of f (counts_in (body_of_table t i)))
    walk_on_lem =
        record {
          taps = ap (λ (x : ℕ). x + taps_in (body_of_table t i)) w.taps ∙ more taps_in;
          names = ap (λ (x : ℕ). x + names_in (body_of_table t i)) w.names ∙ more names_in;
          extras = ap (λ (x : ℕ). x + extras_in (body_of_table t i)) w.extras ∙ more extras_in;
        }

    -- profile i with its entries, and those after it
    pub walk_open : left_at t i f ≡ own_on t i f ∷ left_at t (i + 1) (after_of f (counts_in (body_of_table t i)))
    walk_open =
        let u = used_in t in
        let b = body_of_table t i in
        let ts = some_used (tables_from t).taps_used (tables_from t).taps f.taps (taps_in b) (omega (arith, w.taps, within taps_in, p.taps_sum)) in
        let ns = some_used (tables_from t).names_used (tables_from t).names f.names (names_in b) (omega (arith, w.names, within names_in, p.names_sum)) in
        let es = some_used (tables_from t).extras_used (tables_from t).extras f.extras (extras_in b) (omega (arith, w.extras, within extras_in, p.extras_sum)) in
        ahead_open u.profiles u.taps u.names u.extras no_profile i f.taps f.names f.extras (omega (arith, profiles_count))
        ∙ ap (λ (x : TaggedProfile). here_with u f x ∷ left_at t (i + 1) (after_of f (counts_in x))) here_body
        ∙ (λ j. record { body = b; taps = ts j; names = ns j; extras = es j } ∷ left_at t (i + 1) (after_of f (counts_in b)))
