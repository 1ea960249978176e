-- What a block says of every file that has it: a record that stands whole in it, and a wrong mark, stand in the file. Assumes nothing.
use Prim.Native.Nat.{ℕ, zero, suc, ◌+◌, ◌-◌, ◌≤◌}
use mathlib.Core.Path.{◌≡◌, refl, sym, ap, ap₂, ◌∙◌}
use mathlib.Core.Bool.{Bool, true, false}
use mathlib.Core.List.{List, ◌++◌}
use native.Mathlib.Nat.{zero-add, suc-add, add-suc, add_assoc}
use native.Mathlib.Omega.{arith}
use borrow.Author.Tests.{eqb-true, eqb-false}
use lib.Dec.{leb, ltb, eqb, leb-suc-suc}
use lib.ListN.{length, take, drop, length-append, length-drop}
use lib.Seq.{drop-append-add, drop-append-le, take-append-le, drop-drop}
use Rattle.octets.specs.Octets.{part, be}
use Rattle.reference.specs.Steps.{pick}
use Rattle.records.specs.declared.Record.{Record}
use Rattle.records.specs.declared.Record.TheVariants.{Got, Broken, End}
use Rattle.records.specs.Records.{mark, record_at, announced}
use Rattle.records.proofs.Recorded.{got_stands, wrong_mark, whole_record, announces}

-- ---- octets in front: the same record, so much later

abbrev pub moved_record : ℕ → Record → Record
moved_record k (Got a b) = Got (k + a) (k + b)
moved_record k Broken = Broken
moved_record k End = End

leb_add : (k a b : ℕ) → leb (k + a) (k + b) ≡ leb a b
leb_add zero a b = ap₂ leb (zero-add a) (zero-add b)
leb_add (suc k) a b = ap₂ leb (suc-add k a) (suc-add k b) ∙ leb-suc-suc (k + a) (k + b) ∙ leb_add k a b

ltb_add : (k a b : ℕ) → ltb (k + a) (k + b) ≡ ltb a b
ltb_add k a b = ap (λ (i : ℕ). leb i (k + b)) (sym (add-suc k a)) ∙ leb_add k (suc a) b

pick_moved : (k : ℕ) (t : Bool) (x y : Record) → moved_record k (pick t x y) ≡ pick t (moved_record k x) (moved_record k y)
pick_moved k true x y = refl
pick_moved k false x y = refl

pub record_moved : (front l : List ℕ) (at : ℕ) → record_at (front ++ l) (length front + at) ≡ moved_record (length front) (record_at l at)
unfolding record_at
record_moved front l at = simp (length-append, add_assoc, drop-append-add, leb_add, ltb_add, pick_moved)

-- ---- octets behind

module _ (l behind : List ℕ) where
  part_before : (at n : ℕ) → at + n ≤ length l → part (l ++ behind) at n ≡ part l at n
  part_before at n h = ap (take n) (drop-append-le at l behind (omega arith)) ∙ take-append-le n (drop at l) behind (omega (arith, length-drop at l))

  pub got_before : (at : ℕ) {a b : ℕ} → record_at l at ≡ Got a b → record_at (l ++ behind) at ≡ Got a b
  got_before at {a} {b} e =
      let s = got_stands l at e in
      let long = length-append l behind in
      let size : be (part (l ++ behind) (at + 2) 2) ≡ be (part l (at + 2) 2) = ap be (part_before (at + 2) 2 (omega arith)) in
      let marked = ap be (part_before at 2 (omega arith)) ∙ s.marked in
      whole_record (l ++ behind) at (omega arith) (omega arith) marked (omega arith) ∙ ap₂ (λ (x y : ℕ). Got x y) (sym s.start) (omega arith)

-- ---- both

module _ (front l behind : List ℕ) where
  abbrev file : List ℕ
  file = front ++ (l ++ behind)

  part_there : (at n : ℕ) → at + n ≤ length l → part file (length front + at) n ≡ part l at n
  part_there at n h = ap (take n) (drop-append-add front (l ++ behind) at) ∙ part_before l behind at n h

  pub got_there : (at : ℕ) {a b : ℕ} → record_at l at ≡ Got a b → record_at file (length front + at) ≡ Got (length front + a) (length front + b)
  got_there at e = record_moved front (l ++ behind) at ∙ ap (moved_record (length front)) (got_before l behind at e)

  pub content_there : (at : ℕ) {a b : ℕ} → record_at l at ≡ Got a b → part file (length front + a) (length front + b - (length front + a)) ≡ part l a (b - a)
  content_there at {a} {b} e =
      let s = got_stands l at e in
      let size : length front + b - (length front + a) ≡ b - a = omega arith in
      ap (part file (length front + a)) size ∙ part_there a (b - a) (omega arith)

  -- What is no record in the block though it has all the octets that its head announces is broken in the file: no octet that comes behind can mend it.
  pub broken_there : (at : ℕ) → at ≤ length l → 4 + announced (drop at l) ≤ length l - at → ((a b : ℕ) → record_at l at ≡ Got a b → ⊥) → record_at file (length front + at) ≡ Broken
  broken_there at h fits none = record_moved front (l ++ behind) at ∙ ap (moved_record (length front)) (by_mark (eqb (be (part l at 2)) mark) refl)
    where
      rest : length (drop at l) ≡ length l - at
      rest = length-drop at l

      by_mark : (b : Bool) → eqb (be (part l at 2)) mark ≡ b → record_at (l ++ behind) at ≡ Broken
      by_mark true e =
          let right = eqb-true (be (part l at 2)) mark e in
          let size = announces (drop at l) (omega (arith, rest)) right in
          let n : be (part (drop at l) 2 2) ≡ be (part l (at + 2) 2) = ap (λ (x : List ℕ). be (take 2 x)) (drop-drop 2 at l) in
          absurd (none _ _ (whole_record l at (omega arith) (omega arith) right (omega (arith, size, n))))
      by_mark false e =
          let wrong = eqb-false (be (part l at 2)) mark e in
          let long : length (l ++ behind) ≡ length l + length behind = length-append l behind in
          wrong_mark (l ++ behind) at (omega arith) (omega arith) (λ q. wrong (ap be (sym (part_before l behind at 2 (omega arith))) ∙ q))
