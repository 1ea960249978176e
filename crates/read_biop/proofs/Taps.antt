-- A tap, one law for each case of the code. The premises are what the code knows there, so that a proof only names the law.
-- Assumes nothing.
use Prim.Native.Nat.{ℕ, ◌+◌, ◌-◌, ◌<◌, ◌≤◌}
use mathlib.Core.Path.{◌≡◌}
use mathlib.Core.List.{List}
use native.Mathlib.Nat.{add_assoc}
use native.Mathlib.Omega.{arith}
use borrow.Author.Tests.{lt-ltb, le-ltb}
use lib.ListN.{length}
use Rattle.octets.specs.Octets.{be, part}
use Rattle.octets.proofs.Part.{length_part}
use Rattle.reference.specs.declared.Refusal.{Refusal}
use Rattle.reference.specs.declared.View.{View}
use Rattle.reference.specs.declared.Tap.{Tap as TapEntry}
use Rattle.reference.specs.Refusals.{cut_at, long_at}
use Rattle.reference.specs.Steps.{Answer, ok, refused, seen, need, number, run, done}
use Rattle.reference.specs.Reader.{read_tap}
use Rattle.reference.specs.Placed.{tap_at}
use Rattle.reference.specs.Places.{place_tap_fixed}

module _ (d : List ℕ) (base pos end : ℕ) where
  abbrev told : Answer TapEntry
  told = seen (tap_at (base + pos)) (read_tap d pos end)

  pub tap_cut : {x : Refusal} → x ≡ cut_at place_tap_fixed pos 7 end → end < pos + 7 → refused x ≡ told
  unfolding read_tap need
  tap_cut e h = simp (e, lt-ltb)

  module _ {n : ℕ} (size : n ≡ be (part d (pos + 6) 1)) (room : pos + 7 ≤ end) where
    pub tap_over : {x : Refusal} → x ≡ long_at (pos + 7) n end → end - (pos + 7) < n → refused x ≡ told
    unfolding read_tap need number run
    tap_over e h = simp (e, add_assoc, ← size, le-ltb, lt-ltb)

    pub tap_read : {i u a : ℕ} {v : View} → i ≡ be (part d pos 2) → u ≡ be (part d (pos + 2) 2) → a ≡ be (part d (pos + 4) 2) → v ≡ record { at = base + (pos + 7); len = n }
        → n ≤ end - (pos + 7) → end ≤ length d → ok (record { id = i; use_ = u; association = a; selector = v }) (pos + 7 + n) ≡ told
    unfolding read_tap need number run done
    tap_read i u a v h m =
        let k : pos + 7 + n ≤ length d = omega arith in
        let next : pos + (7 + n) ≡ pos + (2 + (2 + (2 + (1 + n)))) = omega arith in
        simp (length_part, add_assoc, ← size, le-ltb) (λ j. ok (record { id = i j; use_ = u j; association = a j; selector = v j }) (next j))
