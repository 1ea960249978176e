-- Rows put one after the other into a page: what the page holds and then the lines that are left are the lines from the start. Assumes nothing.
use Prim.Native.Nat.{ℕ, ◌+◌, ◌-◌, ◌≤◌}
use mathlib.Core.Path.{◌≡◌, refl, sym, ap, ◌∙◌}
use mathlib.Core.Bool.{Bool, true, false}
use mathlib.Core.List.{List, [], ◌∷◌, ◌++◌, append_assoc}
use native.Mathlib.Omega.{arith}
use lib.ListN.{length, take, drop, length-append}
use lib.Seq.{length-take-le, take_at}
use Rattle.octets.specs.Octets.{part, splice}
use Rattle.octets.specs.Put.{Put}
use Rattle.octets.proofs.Splice.{splice_length}
use Rattle.text.specs.Text.{decimal}
use Rattle.text.specs.Written.{Written}
use Rattle.reference.specs.Meaning.{Reference}
use Rattle.reference.specs.Steps.{Answer, ok, refused}
use Rattle.reference.specs.Today.{read_whole}
use Rattle.records.specs.declared.Record.TheVariants.{Got}
use Rattle.records.specs.Records.{record_at}
use Rattle.records.specs.Walk.{Walked, before, walk_on}
use Rattle.rows.specs.Rows.{refused_text, answer_text, row_of, lines_for, lines_of, lines_from, Rowed}
use Rattle.records.proofs.Recorded.{got_stands}
use Rattle.records.proofs.Blocks.{got_there, content_there}
use Rattle.records.proofs.Walk.{walk_got}

-- what was put stands behind what stood before it
put_behind : {d xs e : List ℕ} {at r : ℕ} → Put d at (length xs) xs e r → take r e ≡ take at d ++ xs
unfolding splice
put_behind {d} {xs} {e} {at} {r} p =
    let l : length (take at d) ≡ at = length-take-le at d (omega (arith, p.room)) in
    let n : length (take at d ++ xs) ≡ r = length-append (take at d) xs ∙ ap (λ (k : ℕ). k + length xs) l ∙ sym p.next in
    ap (take r) (p.left ∙ sym (append_assoc (take at d) xs (drop (at + length xs) d))) ∙ take_at (take at d ++ xs) (drop (at + length xs) d) r n

-- where a record stands matters only if it is asked where it broke
answer_placed : (asked : Bool) (x : Answer Reference) {p q : ℕ} → (asked ≡ true → p ≡ q) → answer_text asked p x ≡ answer_text asked q x
unfolding answer_text refused_text
answer_placed asked (ok m n) h = refl
answer_placed true (refused x) h = ap (λ (p : ℕ). refused_text true p x) (h refl)
answer_placed false (refused x) h = refl

row_placed : (asked : Bool) (k : ℕ) (s : List ℕ) {p q : ℕ} → (asked ≡ true → p ≡ q) → row_of asked p k s ≡ row_of asked q k s
unfolding row_of
row_placed asked k s h = ap (λ (x : List ℕ). decimal k ++ (32 ∷ decimal (length s)) ++ (32 ∷ []) ++ x ++ (10 ∷ [])) (answer_placed asked (read_whole s) h)

-- in a file that has the block: a record's row, and then the lines behind it
module _ (front l behind : List ℕ) where
  abbrev file : List ℕ
  file = front ++ (l ++ behind)

  record_first : (at : ℕ) {a b : ℕ} → record_at l at ≡ Got a b
      → walk_on file (length front + at) ≡ before (record { mark = length front + at; start = length front + a; stop = length front + b }) (walk_on file (length front + b))
  record_first at e = walk_got file (length front + at) (got_there front l behind at e)

  row_first : (asked : Bool) (base k at : ℕ) {a b : ℕ} → (asked ≡ true → length front ≡ base) → record_at l at ≡ Got a b
      → lines_from asked k file (length front + at) ≡ row_of asked (base + a) (k + 1) (part l a (b - a)) ++ lines_from asked (k + 1) file (length front + b)
  unfolding lines_for
  row_first asked base k at {a} {b} h e =
      ap (lines_of asked k file) (record_first at e)
      ∙ ap (λ (x : List ℕ). row_of asked (length front + a) (k + 1) x ++ lines_from asked (k + 1) file (length front + b)) (content_there front l behind at e)
      ∙ ap (λ (x : List ℕ). x ++ lines_from asked (k + 1) file (length front + b)) (row_placed asked (k + 1) (part l a (b - a)) (λ t. ap (λ (n : ℕ). n + a) (h t)))

pub begun : (asked : Bool) (base : ℕ) (l : List ℕ) (at k : ℕ) (page : List ℕ) → at ≤ length l → Rowed asked base l at k page at k 0
begun asked base l at k page h =
    record { inside = h; later = omega arith; apart = omega arith; within = omega arith; short = omega arith; lines = λ front behind there. refl; counted = λ front behind. refl }

module _ {asked : Bool} {base : ℕ} {l : List ℕ} {at k : ℕ} {page : List ℕ} {next count used : ℕ} (g : Rowed asked base l at k page next count used) where
  pub turn : {a b : ℕ} → record_at l next ≡ Got a b → {page' : List ℕ} {used' : ℕ} → Written page used 128 (row_of asked (base + a) (count + 1) (part l a (b - a))) page' used'
      → Rowed asked base l at k page' b (count + 1) used'
  turn {a} {b} e {page'} {used'} w =
      let s = got_stands l next e in
      let row = row_of asked (base + a) (count + 1) (part l a (b - a)) in
      let long : length page' ≡ length page = ap length w.put.left ∙ splice_length page used row w.put.room in
      record {
        inside = s.room;
        later = omega arith;
        apart = omega arith;
        within = omega arith;
        short = omega arith;
        lines =
            λ front behind there.
            (let more = lines_from asked (count + 1) (front ++ (l ++ behind)) (length front + b) in
            g.lines front behind there
            ∙ ap (λ (x : List ℕ). take used page ++ x) (row_first front l behind asked base count next there e)
            ∙ sym (append_assoc (take used page) row more)
            ∙ ap (λ (x : List ℕ). x ++ more) (sym (put_behind w.put)));
        counted = λ front behind. omega (arith, g.counted front behind, ap (λ (v : Walked). length v.pieces) (record_first front l behind next e));
      }
