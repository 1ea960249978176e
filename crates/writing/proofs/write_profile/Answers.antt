use mathlib.Core.Path.{◌≡◌, sym, ◌∙◌, subst}
use mathlib.Core.List.{List}
use Prim.Native.Nat.{ℕ, ◌+◌, ◌≤◌}
use native.Mathlib.Omega.{arith}
use lib.ListN.{length}
use Rattle.reference.specs.declared.TaggedProfile.{TaggedProfile}
use Rattle.reference.specs.Writer.{own_size}
use Rattle.table.specs.declared.Counts.{Counts}
use Rattle.table.specs.Flat.{body_of_table, profile_region}
use Rattle.table.specs.Region.{entry}
use Rattle.write_bodies.specs.Own.{OwnSound, PutOwn}
use Rattle.writing.specs.Own.{own_on, own_with}
use Rattle.writing.proofs.Told.{biop_told, lite_told, opaque_told}
use Rattle.writing.proofs.write_profile.Goals as goal

-- what is asked and said of profile i is asked and said of the profile b that was told
module _ (t : List ℕ) (i : ℕ) (f : Counts) {b : TaggedProfile} (e : body_of_table t i ≡ b) where
  sound : (n : ℕ) → OwnSound n (own_on t i f) → OwnSound n (own_with t f b)
  sound n h = subst (λ (x : TaggedProfile). OwnSound n (own_with t f x)) e h

  roomy : (at m : ℕ) → at + own_size (own_on t i f) ≤ m → at + own_size (own_with t f b) ≤ m
  roomy at m h = subst (λ (x : TaggedProfile). at + own_size (own_with t f x) ≤ m) e h

  wrote : (s : List ℕ) {d out : List ℕ} {at r : ℕ} → PutOwn d at s (own_with t f b) out r → PutOwn d at s (own_on t i f) out r
  wrote s {d} {out} {at} {r} p = subst (λ (x : TaggedProfile). PutOwn d at s (own_with t f x) out r) (sym e) p

pub write_biop-requires : goal.write_biop-requires
write_biop-requires c =
    let a = c.args in
    let (n, placed) = c.requires.count_value in
    let e = biop_told _ _ _ a.count n (sym c.sort_at.ensures ∙ c.in-1.is) c.location_at.ensures in
    record {
      entries_within = (placed.taps, placed.extras);
      own_sound = sound a.t.now a.i a.first e (length a.src.now) c.requires.own_sound;
      extras_in_bounds = roomy a.t.now a.i a.first e a.at (length a.out.now) c.requires.first_in_bounds;
    }

pub returns-in-1 : goal.returns-in-1
returns-in-1 c =
    let a = c.args in
    let e = biop_told _ _ _ a.count c.requires.count_value.0 (sym c.sort_at.ensures ∙ c.in-1.is) c.location_at.ensures in
    wrote a.t.now a.i a.first e a.src.now c.write_biop.ensures

pub write_lite-requires : goal.write_lite-requires
write_lite-requires c =
    let a = c.args in
    let (n, placed) = c.requires.count_value in
    let e = lite_told _ _ _ _ a.count n (sym c.sort_at.ensures ∙ c.in-2.is) c.address_at-address.ensures c.profile_view.ensures in
    record {
      entries_within = (placed.names, placed.extras);
      own_sound = sound a.t.now a.i a.first e (length a.src.now) c.requires.own_sound;
      extras_in_bounds = roomy a.t.now a.i a.first e a.at (length a.out.now) c.requires.first_in_bounds;
    }

pub returns-in-2 : goal.returns-in-2
returns-in-2 c =
    let a = c.args in
    let e = lite_told _ _ _ _ a.count c.requires.count_value.0 (sym c.sort_at.ensures ∙ c.in-2.is) c.address_at-address.ensures c.profile_view.ensures in
    wrote a.t.now a.i a.first e a.src.now c.write_lite.ensures

pub returns-in_default : goal.returns-in_default
returns-in_default c =
    let a = c.args in
    let e =
    opaque_told a.t.now (entry profile_region a.i) _ _ (λ k. omega (arith, c.sort_at.ensures, k)) (λ k. omega (arith, c.sort_at.ensures, k)) c.tag_at.ensures
    c.profile_view-in_default.ensures in
    wrote a.t.now a.i a.first e a.src.now c.write_opaque.ensures
