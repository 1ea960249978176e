use mathlib.Core.Path.{◌≡◌, refl, sym, ap, ◌∙◌}
use Prim.Native.Nat.{ℕ, ◌+◌, ◌-◌, ◌≤◌}
use mathlib.Core.List.{List, ◌++◌}
use native.Mathlib.Omega.{arith}
use lib.ListN.{length}
use Rattle.octets.specs.Octets.{part, splice}
use Rattle.octets.specs.Put.{Put}
use Rattle.octets.proofs.Part.{length_part, part_join, part_start}
use Rattle.octets.proofs.Splice.{splice_again}
use Rattle.octets.proofs.Put.{none, then, same, kept}
use Rattle.octets.proofs.copy_many.Goals as goal
use Rattle.octets.proofs.copy_many.Goals.{else-loop-i-test, then-loop-i-test+else-last-i-gt8}

-- a run of eight more
eight_more : (s : List ℕ) (from i : ℕ) {d e xs f : List ℕ} {at r : ℕ}
    → Put d at i (part s from i) e (at + i) → xs ≡ part s (from + i) 8 → Put e (at + i) 8 xs f r → Put d at (i + 8) (part s from (i + 8)) f (at + (i + 8))
eight_more s from i p x q =
    same (then p q) refl (ap (λ (l : List ℕ). part s from i ++ l) x ∙ sym (part_join s from i 8)) (omega (arith, q.next))

-- the last run, which begins within the i octets that were put, or right behind them
last_eight : (s : List ℕ) (from n i : ℕ) {d e : List ℕ} {at : ℕ} → Put d at i (part s from i) e (at + i) → 8 ≤ n → n - 8 ≤ i → i ≤ n → from + n ≤ length s → at + n ≤ length d
    → splice e (at + (n - 8)) (part s (from + (n - 8)) 8) ≡ splice d at (part s from n)
last_eight s from n i {d} {e} {at} p eight low high inside room =
    let last = n - 8 in
    let xs = part s from i in
    let ys = part s (from + last) 8 in
    let lx : length xs ≡ i = length_part s from i (omega arith) in
    let ly : length ys ≡ 8 = length_part s (from + last) 8 (omega arith) in
    let whole : last + 8 ≡ n = omega arith in
    ap (λ (x : List ℕ). splice x (at + last) ys) p.left
    ∙ splice_again d at xs last ys (omega arith) (omega arith) (omega arith)
    ∙ ap (λ (x : List ℕ). splice d at (x ++ ys)) (part_start s from i last low)
    ∙ ap (splice d at) (sym (part_join s from last 8) ∙ ap (part s from) whole)

pub loop-i-init : goal.loop-i-init
loop-i-init c = (same (none _ _ (omega arith)) refl refl (omega arith), refl, omega arith, omega arith)

pub loop-i-preserved : goal.loop-i-preserved
loop-i-preserved c =
    let h = c.loop-i.invariant in
    let step = c.put_run.ensures in
    (eight_more c.args.src.now c.args.from c.loop-i.i h.0 c.run_at.ensures step, kept step ∙ h.1, omega arith, omega arith)

pub returns : goal.returns
returns c =
    let a = c.args in
    let i = c.loop-i.i in
    let h = c.loop-i.invariant in
    c.put_run-2.ensures.left
    ∙ ap (splice c.loop-i-test.out (a.at + (a.n - 8))) c.run_at-2.ensures
    ∙ elim c.loop-i-test.branch [
      | else-loop-i-test w ↦ rw w.out-is (last_eight a.src.now a.from a.n i h.0 (omega arith) (omega arith) (omega arith) (omega arith) (omega arith))
      | then-loop-i-test+else-last-i-gt8 w ↦
          rw w.out-is (last_eight a.src.now a.from a.n (i + 8) (eight_more a.src.now a.from i h.0 w.run_at.ensures w.put_run.ensures) (omega arith) (omega arith) (omega arith) (omega arith) (omega arith))
    ]
