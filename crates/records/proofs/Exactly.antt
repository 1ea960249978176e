-- A record is found exactly where its layout stands. Assumes nothing.
use Prim.Native.Nat.{ℕ, ◌+◌, ◌-◌, ◌^◌, ◌<◌, ◌≤◌}
use mathlib.Core.Path.{◌≡◌, sym, ap, ap₂, ◌∙◌}
use mathlib.Core.List.{List, ◌++◌}
use mathlib.Core.Logic.{◌↔◌}
use native.Mathlib.Omega.{arith}
use lib.ListN.{length, take, drop, length-append, length-drop}
use lib.Seq.{drop-drop}
use Rattle.octets.specs.Octets.{Octets, part, be, octets}
use Rattle.octets.proofs.Part.{length_part, octets_part, part_at, part_join}
use Rattle.octets.proofs.Inverse.{be_lt, be_octets, octets_be}
use Rattle.records.specs.declared.Record.TheVariants.{Got}
use Rattle.records.specs.Records.{mark, Fits, layout_record, record_at, Laid}
use Rattle.records.proofs.Recorded.{got_stands, whole_record}

-- a layout, whatever comes behind it, is found
pub laid_got : (l : List ℕ) (at : ℕ) (x behind : List ℕ) → Fits x → drop at l ≡ layout_record x ++ behind → record_at l at ≡ Got (at + 4) (at + 4 + length x)
unfolding layout_record octets be
laid_got l at x behind h e =
    let marked : be (part l at 2) ≡ mark = ap (λ (s : List ℕ). be (take 2 s)) e in
    let size : be (part l (at + 2) 2) ≡ length x = ap (λ (s : List ℕ). be (take 2 s)) (sym (drop-drop 2 at l) ∙ ap (drop 2) e) ∙ be_octets 2 (length x) h in
    let long : length l - at ≡ length x + length behind + 4 = sym (length-drop at l) ∙ ap length e ∙ simp length-append (omega arith) in
    whole_record l at (omega arith) (omega arith) marked (omega arith) ∙ ap (λ (n : ℕ). Got (at + 4) (at + 4 + n)) size

module _ (l : List ℕ) (o : Octets l) where
  -- two octets are those of the number that they write
  two : (at v : ℕ) → at + 2 ≤ length l → be (part l at 2) ≡ v → part l at 2 ≡ octets 2 v
  two at v h e = sym (octets_be (part l at 2) (octets_part l at 2 o)) ∙ ap₂ octets (length_part l at 2 h) e

  module _ (at : ℕ) {a b : ℕ} (e : record_at l at ≡ Got a b) where
    pub got_fits : b - a < 65536
    got_fits =
        let s = got_stands l at e in
        let h : be (part l (at + 2) 2) < 256 ^ 2 = rw (length_part l (at + 2) 2 (omega arith)) at (be_lt (part l (at + 2) 2) (octets_part l (at + 2) 2 o)) in
        omega arith

    pub got_long : length (part l a (b - a)) ≡ b - a
    got_long = let s = got_stands l at e in length_part l a (b - a) (omega arith)

    pub got_laid : part l at (4 + length (part l a (b - a))) ≡ layout_record (part l a (b - a))
    unfolding layout_record octets
    got_laid =
        let s = got_stands l at e in
        let x = part l a (b - a) in
        let size : be (part l (at + 2) 2) ≡ length x = omega (arith, got_long) in
        part_join l at 4 (length x)
        ∙ ap₂ (λ (p q : List ℕ). p ++ q)
        (part_join l at 2 2 ∙ ap₂ (λ (p q : List ℕ). p ++ q) (two at mark (omega arith) s.marked) (two (at + 2) (length x) (omega arith) size))
        (ap₂ (part l) (sym s.start) got_long)

  -- a record is found exactly if its layout stands there
  pub record_exactly : (at a b : ℕ) → record_at l at ≡ Got a b ↔ Laid l at a b
  record_exactly at a b = (
    λ e.
        let s = got_stands l at e in
        record { content = part l a (b - a); fits = omega (arith, got_fits at e, got_long at e); there = got_laid at e; start = s.start; stop = omega (arith, got_long at e) },
    λ d.
        laid_got l at d.content _ d.fits (part_at l at (4 + length d.content) ∙ ap (λ (s : List ℕ). s ++ drop (at + (4 + length d.content)) l) d.there)
        ∙ ap₂ (λ (x y : ℕ). Got x y) (sym d.start) (omega (arith, d.start, d.stop)),
  )
