-- A profile has no more entries than octets, so that counts of entries stay below the position. Assumes nothing.
use Prim.Native.Nat.{ℕ, ◌≤◌}
use mathlib.Core.List.{List, [], ◌∷◌, map}
use native.Mathlib.Omega.{arith}
use lib.ListN.{length, length-append}
use Rattle.octets.specs.Octets.{joined}
use Rattle.octets.proofs.Inverse.{length_octets}
use Rattle.reference.specs.Meaning.{Profile, biop, lite, opaque, taps_of, names_of, extras_of}
use Rattle.reference.specs.Layout.{layout_tap, layout_name, layout_named, layout_extra, layout_binder, layout_service, layout_biop, layout_lite, data_of, layout_profile}

-- parts that are not empty are no more than their octets
crowd : {A : Type 0} (lay : A → List ℕ) → ((a : A) → 1 ≤ length (lay a)) → (l : List A) → length l ≤ length (joined (map lay l))
crowd lay some [] = omega arith
crowd lay some (a ∷ l) = omega (arith, some a, crowd lay some l, length-append (lay a) (joined (map lay l)))

pub entries_below : (p : Profile) → (taps_of p ≤ length (layout_profile p)) × (names_of p ≤ length (layout_profile p)) × (extras_of p ≤ length (layout_profile p))
unfolding layout_profile data_of layout_biop layout_binder layout_lite layout_service layout_tap layout_named layout_extra
entries_below (biop b) =
    let taps = crowd layout_tap (λ t. simp (length-append, length_octets) (omega arith)) b.taps in
    let extras = crowd layout_extra (λ e. simp (length-append, length_octets) (omega arith)) b.extras in
    simp (length-append, length_octets) (omega arith)
entries_below (lite l) =
    let names = crowd layout_name (λ n. simp (length-append, length_octets) (omega arith)) l.service.names in
    let extras = crowd layout_extra (λ e. simp (length-append, length_octets) (omega arith)) l.extras in
    simp (length-append, length_octets) (omega arith)
entries_below (opaque t s) = omega arith
