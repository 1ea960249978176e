-- Caches put together and taken apart by the walk. Assumes nothing.
use Prim.Native.Nat.{ℕ, ◌+◌, ◌-◌}
use mathlib.Core.Path.{◌≡◌, refl, sym, ap, ap₂, subst, ◌∙◌}
use mathlib.Core.List.{List, [], ◌∷◌, ◌++◌, map}
use native.Mathlib.Nat.{add-zero}
use native.Mathlib.Omega.{arith}
use lib.ListN.{length, take, drop, length-append, length-drop, drop_of_length-le}
use lib.Seq.{drop-drop, drop_at, take_at}
use Rattle.octets.specs.Octets.{Each, Octets, part, octets}
use Rattle.octets.proofs.Part.{part_at}
use Rattle.records.specs.Records.{Fits, layout_record}
use Rattle.records.specs.Walk.{Piece, Ending, whole, Walked, walk_on, walk, content, contents, layout_cache, moved_piece, moved_ending, moved, goes_on}
use Rattle.records.proofs.Recorded.{at_end, got_stands}
use Rattle.records.proofs.Exactly.{laid_got, got_fits, got_long, got_laid}
use Rattle.records.proofs.Blocks.{moved_record, record_moved, got_before}
use Rattle.records.proofs.Walk.{Follows, got, stuck, ended, walk_got, walk_ended, walk_follows, follows_walk}

all_follows : (l : List ℕ) → (walk l).ending ≡ whole → Follows l 0 (walk l).pieces whole
all_follows l e = subst (Follows l 0 (walk l).pieces) e (walk_follows l 0 (omega arith))

-- ---- of octets

module _ (l : List ℕ) (o : Octets l) where
  fit : {at : ℕ} {ps : List Piece} {e : Ending} → Follows l at ps e → Each Fits (map (content l) ps)
  fit (got {at = at} e f) = (omega (arith, got_fits l o at e, got_long l o at e), fit f)
  fit (stuck e) = tt
  fit (ended e) = tt

  join : {at : ℕ} {ps : List Piece} → Follows l at ps whole → layout_cache (map (content l) ps) ≡ drop at l
  join (got {at = at} {a = a} {b = b} e f) =
      let s = got_stands l at e in
      let x = part l a (b - a) in
      let next : b ≡ at + (4 + length x) = omega (arith, got_long l o at e) in
      ap₂ (λ (p q : List ℕ). p ++ q) (sym (got_laid l o at e)) (join f ∙ ap (λ (k : ℕ). drop k l) next) ∙ sym (part_at l at (4 + length x))
  join (ended {at = at} e) = sym (drop_of_length-le l {i = at} (omega arith))

  -- what a record holds can be laid out again
  pub contents_fit : Each Fits (contents l (walk l))
  contents_fit = fit (walk_follows l 0 (omega arith))

  -- an unbroken cache is its records' layouts, in order
  pub unbroken_joined : (walk l).ending ≡ whole → layout_cache (contents l (walk l)) ≡ l
  unbroken_joined e = join (all_follows l e)

-- ---- of layouts

laid_walk : (xs : List (List ℕ)) (l : List ℕ) (at : ℕ) → Each Fits xs → drop at l ≡ layout_cache xs → ((walk_on l at).ending ≡ whole) × (contents l (walk_on l at) ≡ xs)
unfolding layout_record octets
laid_walk [] l at h e =
    let w = walk_ended l at (at_end l at (omega (arith, length-drop at l, ap length e))) in
    (ap (λ (v : Walked). v.ending) w, ap (contents l) w)
laid_walk (x ∷ xs) l at h e =
    let b = at + 4 + length x in
    let w = walk_got l at (laid_got l at x (layout_cache xs) h.0 e) in
    let behind : drop (at + 4) l ≡ x ++ layout_cache xs = sym (drop-drop 4 at l) ∙ ap (drop 4) e in
    let rest : drop b l ≡ layout_cache xs = sym (drop-drop (length x) (at + 4) l) ∙ ap (drop (length x)) behind ∙ drop_at x (layout_cache xs) (length x) refl in
    let size : length x ≡ b - (at + 4) = omega arith in
    let this : part l (at + 4) (b - (at + 4)) ≡ x = ap (take (b - (at + 4))) behind ∙ take_at x (layout_cache xs) (b - (at + 4)) size in
    let (i, j) = laid_walk xs l b h.1 rest in
    (ap (λ (v : Walked). v.ending) w ∙ i, ap (contents l) w ∙ ap₂ (λ (y : List ℕ) (ys : List (List ℕ)). y ∷ ys) this j)

-- the walk over layouts in a row ends where they end, and has what they hold, in order
pub joined_unbroken : (xs : List (List ℕ)) → Each Fits xs → ((walk (layout_cache xs)).ending ≡ whole) × (contents (layout_cache xs) (walk (layout_cache xs)) ≡ xs)
joined_unbroken xs h = laid_walk xs (layout_cache xs) 0 h refl

-- ---- one behind the other

module _ (l m : List ℕ) where
  follows_moved : {at : ℕ} {ps : List Piece} {e : Ending} → Follows m at ps e → Follows (l ++ m) (length l + at) (map (moved_piece (length l)) ps) (moved_ending (length l) e)
  follows_moved (got {at = at} e f) = got (record_moved l m at ∙ ap (moved_record (length l)) e) (follows_moved f)
  follows_moved (stuck {at = at} e) = stuck (record_moved l m at ∙ ap (moved_record (length l)) e)
  follows_moved (ended {at = at} e) = let h : length l + at ≡ length (l ++ m) = omega (arith, length-append l m) in ended h

  follows_both : {at : ℕ} {ps qs : List Piece} {e : Ending} → Follows l at ps whole → Follows (l ++ m) (length l) qs e → Follows (l ++ m) at (ps ++ qs) e
  follows_both (got {at = at} e f) g = got (got_before l m at e) (follows_both f g)
  follows_both {qs = qs} {e = e} (ended i) g = subst (λ (k : ℕ). Follows (l ++ m) k qs e) (sym i) g

  -- behind an unbroken cache the walk goes on as it would alone, so many octets later
  pub walk_append : (walk l).ending ≡ whole → walk (l ++ m) ≡ goes_on (walk l) (moved (length l) (walk m))
  walk_append e = follows_walk (l ++ m) (follows_both (all_follows l e) (rw add-zero at (follows_moved (walk_follows m 0 (omega arith)))))
