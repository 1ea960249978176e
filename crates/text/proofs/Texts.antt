-- Text put after text is one text: how `Written` composes. Assumes nothing.
use Prim.Native.Nat.{ℕ, ◌+◌, ◌≤◌}
use mathlib.Core.Path.{◌≡◌, refl, sym}
use mathlib.Core.List.{List, ◌++◌}
use native.Mathlib.Omega.{arith}
use Rattle.octets.specs.Put.{Put}
use Rattle.octets.proofs.Put.{same}
use Rattle.octets.proofs.Put.{then as put_then}
use Rattle.text.specs.Written.{Written}

-- what was put has a known size
pub sized : {d xs e : List ℕ} {at n r : ℕ} → Put d at n xs e r → Written d at n xs e r
sized {d} {xs} {e} {at} {n} {r} p =
    let s : r ≡ at + n = p.next in
    record { put = same p (sym p.size) refl refl; within = omega arith }

pub then : {d xs e ys f : List ℕ} {at m r n s : ℕ} → Written d at m xs e r → Written e r n ys f s → Written d at (m + n) (xs ++ ys) f s
then {d} {xs} {e} {ys} {f} {at} {m} {r} {n} {s} p q =
    let a : r ≤ at + m = p.within in
    let b : s ≤ r + n = q.within in
    let both = put_then p.put q.put in
    record { put = same both (sym both.size) refl refl; within = omega arith }

-- the same, said by an equal text, with room to spare
pub loose : {d xs e ys : List ℕ} {at m r : ℕ} → Written d at m xs e r → (n : ℕ) → m ≤ n → xs ≡ ys → Written d at n ys e r
loose {d} {xs} {e} {ys} {at} {m} {r} p n h x =
    let a : r ≤ at + m = p.within in
    rw (← x) (record { put = p.put; within = omega arith })
