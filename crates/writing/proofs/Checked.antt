-- What the writers ask of the used profiles is what the checks have passed; and in an image of at most 255 octets no component is too long.
-- Assumes nothing.
use Prim.Native.Nat.{ℕ, ◌+◌, ◌≤◌}
use mathlib.Core.Path.{◌≡◌, refl}
use mathlib.Core.List.{List, [], ◌∷◌}
use native.Mathlib.Omega.{arith}
use lib.ListN.{length}
use Rattle.reference.specs.declared.TypeIdRule.{TypeIdRule}
use Rattle.octets.specs.Octets.{Each}
use Rattle.reference.specs.declared.Tap.{Tap}
use Rattle.reference.specs.declared.NameComponent.{NameComponent}
use Rattle.reference.specs.declared.LiteComponent.{LiteComponent}
use Rattle.reference.specs.declared.TaggedProfile.{TaggedProfile}
use Rattle.reference.specs.declared.TaggedProfile.TheVariants as Sort
use Rattle.reference.specs.declared.Tables.{Tables}
use Rattle.std.specs.Prelude.{Ok}
use Rattle.reference.specs.Layout.{gap_length}
use Rattle.reference.specs.Used.{Used, Own, owned_of}
use Rattle.reference.specs.Tabled.{used_of}
use Rattle.reference.specs.Checks.{each}
use Rattle.reference.specs.Meaning.{sum}
use Rattle.reference.specs.Refusals.{refusal}
use Rattle.reference.specs.Writer.{tap_size, extra_size, location_size, binder_size, body_size, own_size, size_of, body_views, tap_views, name_views, extra_views, views_check, short_check, extra_short, body_short, own_short}
use Rattle.reference.proofs.Checks.{passes, passed, test_le, le_test, each_cons, cons_each, each_nil}
use Rattle.reference.proofs.Sizes.{own_views, views_own}
use Rattle.reference.proofs.Formed.{Passing}
use Rattle.write_parts.specs.Sound.{Within, TapSound, NameSound, ExtraSound}
use Rattle.write_bodies.specs.Own.{BodySound, OwnSound}

module _ (n : ℕ) where
  taps_sound : (l : List Tap) → each (tap_views n) l ≡ Ok tt → sum tap_size l ≤ 254 → Each (TapSound n) l
  taps_sound [] h k = tt
  taps_sound (t ∷ l) h k = let (p, q) = each_cons (tap_views n) t l h in (record { within = test_le _ _ _ p; short = omega arith }, taps_sound l q (omega arith))

  names_sound : (l : List NameComponent) → each (name_views n) l ≡ Ok tt → Each (NameSound n) l
  names_sound [] h = tt
  names_sound (x ∷ l) h =
      let (p, q) = each_cons (name_views n) x l h in
      let (a, b) = passes _ _ p in
      (record { id = test_le _ _ _ a; kind = test_le _ _ _ b }, names_sound l q)

  extras_sound : (l : List LiteComponent) → each (extra_views n) l ≡ Ok tt → each extra_short l ≡ Ok tt → Each (ExtraSound n) l
  extras_sound [] h k = tt
  extras_sound (e ∷ l) h k =
      let (p, q) = each_cons (extra_views n) e l h in
      let (y, z) = each_cons extra_short e l k in
      (record { within = test_le _ _ _ p; short = test_le _ _ _ y }, extras_sound l q z)

  body_sound : (b : TaggedProfile) (ts : List Tap) (ns : List NameComponent) (es : List LiteComponent)
      → body_views n b ≡ Ok tt → each (tap_views n) ts ≡ Ok tt → each (name_views n) ns ≡ Ok tt → each (extra_views n) es ≡ Ok tt → body_short b ts es ≡ Ok tt → BodySound n b ts ns es
  body_sound (Sort.Opaque t v) ts ns es hb ht hn he k = test_le _ _ _ hb
  body_sound (Sort.Biop l nt ne) ts ns es hb ht hn he k =
      let (kl, r) = passes _ _ k in
      let (kb, ke) = passes _ _ r in
      let short : binder_size ts ≤ 255 = test_le _ _ _ kb in
      record {
        location = record { within = test_le _ _ _ hb; short = test_le _ _ _ kl };
        binder = record { taps = taps_sound ts ht (omega arith); short = short };
        extras = extras_sound es he ke;
      }
  body_sound (Sort.LiteOptions a nn c ne) ts ns es hb ht hn he k =
      record { service = record { names = names_sound ns hn; context = test_le _ _ _ hb }; extras = extras_sound es he k }

  own_sound : (o : Own) → own_views n o ≡ Ok tt → own_short o ≡ Ok tt → own_size o ≤ 65535 → OwnSound n o
  unfolding own_views
  own_sound o h k size =
      let (h₁, r₁) = passes _ _ h in
      let (h₂, r₂) = passes _ _ r₁ in
      let (h₃, h₄) = passes _ _ r₂ in
      record { body = body_sound o.body o.taps o.names o.extras h₁ h₂ h₃ h₄ k; small = omega arith }

  owns_sound : (l : List Own) → each (own_views n) l ≡ Ok tt → each own_short l ≡ Ok tt → sum own_size l ≤ 65535 → Each (OwnSound n) l
  owns_sound [] h k size = tt
  owns_sound (o ∷ l) h k size =
      let (p, q) = each_cons (own_views n) o l h in
      let (y, z) = each_cons own_short o l k in
      (own_sound o p y (omega arith), owns_sound l q z (omega arith))

module _ (rule : TypeIdRule) where
  -- the used profiles, once all checks have passed
  pub used_sound : (s : List ℕ) (t : Tables) (m : ℕ) → Passing rule t (length s) m → Each (OwnSound (length s)) (owned_of (used_of t))
  unfolding size_of
  used_sound s t m p = owns_sound (length s) (owned_of (used_of t)) (views_own s (used_of t) p.views) p.short (omega (arith, p.image))

  -- the type id lies within the source, and the whole image has room
  pub type_within : (t : Tables) (n m : ℕ) → Passing rule t n m → Within n t.type_id
  unfolding views_check
  type_within t n m p = test_le _ _ _ (passes _ _ p.views).0

  pub whole_room : (t : Tables) (n m : ℕ) → Passing rule t n m → 4 + t.type_id.len + gap_length rule t.type_id.len + 4 + sum own_size (owned_of (used_of t)) ≤ m
  unfolding size_of
  whole_room t n m p = p.room

-- ---- a small image has no component that is too long

short_pass : (k : ℕ) → k ≤ 255 → short_check k ≡ Ok tt
short_pass k h = le_test k 255 (refusal 2 0 k 255) h

extras_short : (l : List LiteComponent) → sum extra_size l ≤ 255 → each extra_short l ≡ Ok tt
extras_short [] h = each_nil extra_short
extras_short (e ∷ l) h = cons_each extra_short e l (short_pass e.«data».len (omega arith)) (extras_short l (omega arith))

body_short_lem : (b : TaggedProfile) (ts : List Tap) (ns : List NameComponent) (es : List LiteComponent) → body_size b ts ns es ≤ 255 → body_short b ts es ≡ Ok tt
body_short_lem (Sort.Opaque t v) ts ns es h = refl
body_short_lem (Sort.Biop l nt ne) ts ns es h =
    passed (short_pass (location_size l) (omega arith)) (passed (short_pass (binder_size ts) (omega arith)) (extras_short es (omega arith)))
body_short_lem (Sort.LiteOptions a nn c ne) ts ns es h = extras_short es (omega arith)

owns_short : (l : List Own) → sum own_size l ≤ 255 → each own_short l ≡ Ok tt
owns_short [] h = each_nil own_short
owns_short (o ∷ l) h = cons_each own_short o l (body_short_lem o.body o.taps o.names o.extras (omega arith)) (owns_short l (omega arith))

module _ (rule : TypeIdRule) where
  pub small_short : (u : Used) → size_of rule u ≤ 255 → each own_short (owned_of u) ≡ Ok tt
  unfolding size_of
  small_short u h = owns_short (owned_of u) (omega arith)
