use mathlib.Core.Path.{◌≡◌, refl, sym, ap, ◌∙◌}
use mathlib.Core.List.{List, [], ◌∷◌}
use Prim.Native.Nat.{ℕ, zero, suc, ◌+◌, ◌*◌, ◌-◌, ◌≤◌}
use native.Mathlib.Omega.{arith}
use borrow.Rule.Slice.PartMut.{put_mid}
use lib.ListN.{length}
use Rattle.std.specs.List.{slice_index}
use Rattle.octets.specs.Octets.{be, part}
use Rattle.octets.proofs.Part.{row, row_part}
use Rattle.octets.proofs.number_at.Goals as goal

-- the number of four octets, of which the last w stand in s at index at and the others are zero
widened : (w : ℕ) → w ≤ 4 → (s : List ℕ) (at : ℕ) → at + w ≤ length s → (ys : List ℕ) → ys ≡ part s at w → (l : List ℕ) → l ≡ put_mid (4 - w) (4 - (4 - w)) (0 ∷ 0 ∷ 0 ∷ 0 ∷ []) ys
    → slice_index l 0 * 16777216 + slice_index l 1 * 65536 + slice_index l 2 * 256 + slice_index l 3 ≡ be (part s at w)
unfolding be row
widened zero h s at r ys e l q = rw q refl
widened (suc zero) h s at r ys e l q = rw (q, e ∙ sym (row_part s at 1 r), ← row_part s at 1 r) (omega arith)
widened (suc (suc zero)) h s at r ys e l q = rw (q, e ∙ sym (row_part s at 2 r), ← row_part s at 2 r) (omega arith)
widened (suc (suc (suc zero))) h s at r ys e l q = rw (q, e ∙ sym (row_part s at 3 r), ← row_part s at 3 r) (omega arith)
widened (suc (suc (suc (suc zero)))) h s at r ys e l q = rw (q, e ∙ sym (row_part s at 4 r), ← row_part s at 4 r) (omega arith)
widened (suc (suc (suc (suc (suc w))))) h s at r ys e l q = absurd (omega arith)

pub returns : goal.returns
returns g c =
    let a = c.args in
    let e = c.copy_from_slice.ensures.after ∙ ap (part a.s.now a.at) (omega arith) in
    c.from_be_bytes.ensures ∙ widened g.row.W c.requires.0 a.s.now a.at c.requires.1 c.copy_from_slice.new.self e _ refl
