-- A move down to the front, which a read behind it leaves there. Assumes nothing.
use mathlib.Core.Path.{◌≡◌, sym, ap, ◌∙◌}
use mathlib.Core.List.{List, ◌++◌, append_assoc}
use Prim.Native.Nat.{ℕ, ◌+◌, ◌≤◌}
use native.Mathlib.Omega.{arith}
use lib.ListN.{length, take, drop, length-drop, take-append-drop}
use lib.Seq.{paste, length-take-le, take_at}
use borrow.Rule.Slice.PartMut.{put_mid, take_put}
use Rattle.octets.specs.Octets.{part, splice}
use Rattle.octets.proofs.Part.{length_part}
use Rattle.octets.proofs.Splice.{splice_length}

-- what `copy_within` does is a part put over the octets at its target
pub is_splice : (d : List ℕ) (from to n : ℕ) → from + n ≤ length d → paste d to (drop from d) n ≡ splice d to (part d from n)
unfolding splice
is_splice d from to n h =
    let fits : n ≤ length (drop from d) = simp length-drop (omega arith) in
    append_assoc (take to d) (take n (drop from d)) (drop (to + n) d)
    ∙ ap (λ (m : ℕ). take to d ++ (take n (drop from d) ++ drop (to + m) d)) (sym (length-take-le n (drop from d) fits))

-- what stands at the front is there already
pub stays : (d : List ℕ) (n : ℕ) → n ≤ length d → d ≡ splice d 0 (part d 0 n)
unfolding splice
stays d n h =
    let e : n ≡ 0 + length (take n d) = omega (arith, length-take-le n d h) in
    sym (take-append-drop n d) ∙ ap (λ (k : ℕ). take n d ++ drop k d) e

-- what was moved to the front stands there still, once octets came behind it
pub kept : (d : List ℕ) (from n : ℕ) → from + n ≤ length d → (e : List ℕ) → e ≡ splice d 0 (part d from n) → (k : ℕ) (x : List ℕ) → part (put_mid n k e x) 0 n ≡ part d from n
unfolding splice
kept d from n h e q k x =
    let p : length (part d from n) ≡ n = length_part d from n h in
    let long : length e ≡ length d = ap length q ∙ splice_length d 0 (part d from n) (omega (arith, p)) in
    take_put n k e x (omega (arith, long)) ∙ ap (take n) q ∙ take_at (part d from n) (drop (0 + length (part d from n)) d) n p
