-- What a profile adds, by its sort; and that the numbers of an entry alone tell whether it is exact. Assumes nothing.
use Prim.Native.Nat.{ℕ}
use mathlib.Core.Path.{◌≡◌}
use mathlib.Core.Bool.{◌&&◌}
use mathlib.Core.List.{List}
use lib.Dec.{ltb, eqb, lit<}
use lib.ListN.{get_or}
use borrow.Author.Tests.{ne_eqb}
use Rattle.octets.specs.Octets.{part}
use Rattle.reference.specs.Steps.{pick}
use Rattle.table.proofs.Near.{first, number}
use Rattle.table.specs.Flat.{profile_region, tap_region}
use Rattle.survey.specs.Exact.{profile_exact, tap_exact}
use Rattle.survey.specs.Seen.{biop_seen, lite_seen, opaque_seen, profile_seen}

module _ (t : List ℕ) (k : ℕ) where
  module _ (n : ℕ) where
    pub seen_biop : get_or t k 0 ≡ 1 → profile_seen n t k ≡ biop_seen n t k
    unfolding profile_seen
    seen_biop e = rw e

    pub seen_lite : get_or t k 0 ≡ 2 → profile_seen n t k ≡ lite_seen n t k
    unfolding profile_seen
    seen_lite e = rw e

    pub seen_opaque : (get_or t k 0 ≡ 1 → ⊥) → (get_or t k 0 ≡ 2 → ⊥) → profile_seen n t k ≡ opaque_seen n t k
    unfolding profile_seen
    seen_opaque a b = rw (ne_eqb (get_or t k 0) 1 a, ne_eqb (get_or t k 0) 2 b)

  pub tap_near : tap_exact (part t k tap_region.width) 0 ≡ tap_exact t k
  tap_near = λ i. ltb (first t k tap_region.width (lit< tt) i) 65536 && ltb (number t k tap_region.width 1 (lit< tt) i) 65536 && ltb (number t k tap_region.width 2 (lit< tt) i) 65536

  pub profile_near : profile_exact (part t k profile_region.width) 0 ≡ profile_exact t k
  unfolding profile_exact
  profile_near =
      λ i.
      let w = profile_region.width in
      let a = first t k w (lit< tt) i in
      let b = number t k w 2 (lit< tt) i in
      let c = number t k w 3 (lit< tt) i in
      let d = number t k w 4 (lit< tt) i in
      let e = number t k w 5 (lit< tt) i in
      pick (eqb a 1) (ltb b 65536 && ltb c 256 && ltb d 256) (pick (eqb a 2) (ltb b 16777216 && ltb c 65536 && ltb d 65536 && ltb e 65536) (eqb a 0))

-- what the pass over a profile uses
pub ruleset by_sort = (seen_biop, seen_lite, seen_opaque)
