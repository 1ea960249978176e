-- An entry is told by its own numbers: by a part of the table as by the table. Assumes nothing.
use Prim.Native.Nat.{ℕ, ◌+◌, ◌/◌, ◌%◌, ◌<◌}
use mathlib.Core.Path.{◌≡◌, sym, ap, ◌∙◌}
use mathlib.Core.List.{List}
use native.Mathlib.Nat.{add-zero}
use lib.Dec.{eqb, lit<}
use lib.ListN.{get_or}
use Rattle.octets.specs.Octets.{part}
use Rattle.octets.proofs.Part.{part_get}
use Rattle.reference.specs.declared.TaggedProfile.TheVariants as Sort
use Rattle.reference.specs.Steps.{pick}
use Rattle.table.specs.Flat.{view_at, tap_from, name_from, extra_from, location_from, address_from, body_from, profile_from, profile_region, tap_region, name_region, extra_region}

module _ (t : List ℕ) (k : ℕ) where
  -- number j, and the view at numbers i and j, of n numbers from k on
  pub number : (n j : ℕ) → j < n → get_or (part t k n) j 0 ≡ get_or t (k + j) 0
  number n j h = sym (part_get t k n j 0 h)

  pub first : (n : ℕ) → 0 < n → get_or (part t k n) 0 0 ≡ get_or t k 0
  first n h = number n 0 h ∙ ap (λ (i : ℕ). get_or t i 0) (add-zero k)

  view : (n i j : ℕ) → i < n → j < n → view_at (part t k n) i j ≡ view_at t (k + i) (k + j)
  view n i j h l = λ x. record { at = number n i h x; len = number n j l x }

  pub tap_near : tap_from (part t k tap_region.width) 0 ≡ tap_from t k
  tap_near =
      λ i. record { id = first tap_region.width (lit< tt) i % 65536; use_ = number tap_region.width 1 (lit< tt) i % 65536; association = number tap_region.width 2 (lit< tt) i % 65536; selector = view tap_region.width 3 4 (lit< tt) (lit< tt) i }

  pub name_near : name_from (part t k name_region.width) 0 ≡ name_from t k
  name_near = λ i. record { id = record { at = first name_region.width (lit< tt) i; len = number name_region.width 1 (lit< tt) i }; kind = view name_region.width 2 3 (lit< tt) (lit< tt) i }

  pub extra_near : extra_from (part t k extra_region.width) 0 ≡ extra_from t k
  extra_near = λ i. record { tag = first extra_region.width (lit< tt) i; «data» = view extra_region.width 1 2 (lit< tt) (lit< tt) i }

  abbrev w : ℕ
  w = profile_region.width

  location_near : location_from (part t k w) 0 ≡ location_from t k
  location_near =
      λ i.
      record {
        carousel = number w 1 (lit< tt) i;
        «module» = number w 2 (lit< tt) i % 65536;
        version_major = number w 3 (lit< tt) i % 256;
        version_minor = number w 4 (lit< tt) i % 256;
        key = view w 5 6 (lit< tt) (lit< tt) i;
      }

  address_near : address_from (part t k w) 0 ≡ address_from t k
  address_near =
      λ i.
      record {
        carousel = number w 1 (lit< tt) i;
        specifier0 = number w 2 (lit< tt) i / 65536 % 256;
        specifier1 = number w 2 (lit< tt) i / 256 % 256;
        specifier2 = number w 2 (lit< tt) i % 256;
        transport_stream = number w 3 (lit< tt) i % 65536;
        original_network = number w 4 (lit< tt) i % 65536;
        service = number w 5 (lit< tt) i % 65536;
      }

  body_near : body_from (part t k w) 0 ≡ body_from t k
  unfolding body_from
  body_near =
      λ i.
      pick (eqb (first w (lit< tt) i) 1) (Sort.Biop (location_near i) (number w 7 (lit< tt) i) (number w 8 (lit< tt) i))
      (pick (eqb (first w (lit< tt) i) 2) (Sort.LiteOptions (address_near i) (number w 6 (lit< tt) i) (view w 7 8 (lit< tt) (lit< tt) i) (number w 9 (lit< tt) i))
      (Sort.Opaque (number w 1 (lit< tt) i) (view w 2 3 (lit< tt) (lit< tt) i)))

  pub profile_near : profile_from (part t k w) 0 ≡ profile_from t k
  profile_near = λ i. record { body = body_near i }
