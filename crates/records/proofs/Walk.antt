-- The walk over a cache, known by what follows what, and step by step. Assumes nothing.
use Prim.Native.Nat.{ℕ, zero, suc, ◌-◌, ◌≤◌, ◌<◌}
use mathlib.Core.Path.{◌≡◌, refl, ap, ◌∙◌}
use mathlib.Core.List.{List, [], ◌∷◌}
use native.Mathlib.Omega.{arith}
use lib.ListN.{length}
use Rattle.octets.specs.Octets.{Each}
use Rattle.records.specs.declared.Record.{Record}
use Rattle.records.specs.declared.Record.TheVariants.{Got, Broken, End}
use Rattle.records.specs.Records.{record_at}
use Rattle.records.specs.Walk.{Piece, Ending, whole, broken, over, before, onward, walk_from, walk_on, walk}
use Rattle.records.proofs.Recorded.{at_end, got_stands, end_past}

-- The records from `at` on, and how they end: each is the one at its mark, and the next mark stands where it stops.
pub data Follows (l : List ℕ) : ℕ → List Piece → Ending → Type 0 where
  got : {at a b : ℕ} {ps : List Piece} {e : Ending} → record_at l at ≡ Got a b → Follows l b ps e → Follows l at (record { mark = at; start = a; stop = b } ∷ ps) e
  stuck : {at : ℕ} → record_at l at ≡ Broken → Follows l at [] (broken at)
  ended : {at : ℕ} → at ≡ length l → Follows l at [] whole

module _ (l : List ℕ) where
  follows_from : (n at : ℕ) → length l - at < n → at ≤ length l → Follows l at (walk_from n l at).pieces (walk_from n l at).ending
  unfolding walk_from
  follows_from zero at h p = absurd (omega arith)
  follows_from (suc n) at h p = by (record_at l at) refl (follows_from n)
    where
      by : (r : Record) → record_at l at ≡ r → ((b : ℕ) → length l - b < n → b ≤ length l → Follows l b (walk_from n l b).pieces (walk_from n l b).ending)
          → Follows l at (onward at r (walk_from n l)).pieces (onward at r (walk_from n l)).ending
      by (Got a b) e f = let s = got_stands l at e in got e (f b (omega arith) s.room)
      by Broken e f = stuck e
      by End e f = let h : at ≡ length l = omega (arith, end_past l at e) in ended h

  from_follows : {at : ℕ} {ps : List Piece} {e : Ending} → Follows l at ps e → (n : ℕ) → length l - at ≤ n → walk_from (suc n) l at ≡ record { pieces = ps; ending = e }
  unfolding walk_from
  from_follows (got {at = at} e f) zero h = let s = got_stands l at e in absurd (omega arith)
  from_follows (got {at = at} {a = a} {b = b} e f) (suc n) h =
      let s = got_stands l at e in
      ap (λ (r : Record). onward at r (walk_from (suc n) l)) e ∙ ap (before (record { mark = at; start = a; stop = b })) (from_follows f n (omega arith))
  from_follows (stuck {at = at} e) n h = ap (λ (r : Record). onward at r (walk_from n l)) e
  from_follows (ended {at = at} e) n h = ap (λ (r : Record). onward at r (walk_from n l)) (at_end l at (omega arith))

  -- the walk is the one list of pieces and the one ending that follow
  pub walk_follows : (at : ℕ) → at ≤ length l → Follows l at (walk_on l at).pieces (walk_on l at).ending
  unfolding walk_on
  walk_follows at h = follows_from (suc (length l)) at (omega arith) h

  pub follows_walk : {at : ℕ} {ps : List Piece} {e : Ending} → Follows l at ps e → walk_on l at ≡ record { pieces = ps; ending = e }
  unfolding walk_on
  follows_walk f = from_follows f (length l) (omega arith)

  -- the number of steps does not matter, if there are enough
  pub walk_enough : (n at : ℕ) → at ≤ length l → length l - at ≤ n → walk_from (suc n) l at ≡ walk_on l at
  walk_enough n at h k = from_follows (walk_follows at h) n k

  -- What is left at a place: a record and what is left behind it, a break, or nothing. A loop goes by these.
  module _ (at : ℕ) where
    pub walk_got : {a b : ℕ} → record_at l at ≡ Got a b → walk_on l at ≡ before (record { mark = at; start = a; stop = b }) (walk_on l b)
    walk_got {a} {b} e = follows_walk (got e (walk_follows b (got_stands l at e).room))

    pub walk_broken : record_at l at ≡ Broken → walk_on l at ≡ over (broken at)
    walk_broken e = follows_walk (stuck e)

    pub walk_ended : record_at l at ≡ End → walk_on l at ≡ over whole
    unfolding walk_from walk_on
    walk_ended e = ap (λ (r : Record). onward at r (walk_from (length l) l)) e

  -- each piece is the record at its mark, and so lies inside (`got_stands`)
  follows_inside : {at : ℕ} {ps : List Piece} {e : Ending} → Follows l at ps e → Each (λ p. record_at l p.mark ≡ Got p.start p.stop) ps
  follows_inside (got e f) = (e, follows_inside f)
  follows_inside (stuck e) = tt
  follows_inside (ended e) = tt

  pub walk_inside : Each (λ p. record_at l p.mark ≡ Got p.start p.stop) (walk l).pieces
  walk_inside = follows_inside (walk_follows 0 (omega arith))
