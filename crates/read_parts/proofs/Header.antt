-- The header of a component whose length has w octets, one law for each case of the code; and where what stands in its data is. Assumes
-- nothing.
use Prim.Native.Nat.{ℕ, ◌+◌, ◌-◌, ◌<◌, ◌≤◌}
use mathlib.Core.Path.{◌≡◌, sym, ap, ◌∙◌}
use mathlib.Core.List.{List}
use mathlib.Core.Logic.{◌≢◌}
use native.Mathlib.Nat.{add_assoc}
use native.Mathlib.Omega.{arith}
use borrow.Author.Tests.{lt-ltb, le-ltb, eq-eqb, ne_eqb}
use Rattle.std.specs.Prelude.{Ok}
use Rattle.octets.specs.Octets.{be, part}
use Rattle.reference.specs.declared.Refusal.{Refusal}
use Rattle.reference.specs.Refusals.{Told, cut_at, long_at, wrong_at}
use Rattle.reference.specs.Steps.{Answer, ok, refused, need, checked, number, within}
use Rattle.reference.specs.Heads.{edge, read_part}
use Rattle.reference.proofs.Heads.{part_known}
use Rattle.read_parts.specs.Told.{part_told}

module _ (w tag header spot : ℕ) (d : List ℕ) (pos end : ℕ) where
  abbrev told : Answer ℕ
  told = read_part w tag header spot d pos end

  pub header_cut : {x : Refusal} → x ≡ cut_at header pos (4 + w) end → end < pos + (4 + w) → refused x ≡ told
  unfolding read_part need
  header_cut e h = simp (e, lt-ltb)

  module _ {t : ℕ} (found : t ≡ be (part d pos 4)) (room : pos + (4 + w) ≤ end) where
    pub tag_wrong : {x : Refusal} → x ≡ wrong_at 3 spot pos → t ≢ tag → refused x ≡ told
    unfolding read_part need checked
    tag_wrong e h = simp (e, ← found, le-ltb, ne_eqb)

    module _ {n : ℕ} (right : t ≡ tag) (size : n ≡ be (part d (pos + 4) w)) where
      pub data_over : {x : Refusal} → x ≡ long_at (pos + (4 + w)) n end → end - (pos + (4 + w)) < n → refused x ≡ told
      unfolding read_part need checked number within
      data_over e h = simp (e, add_assoc, ← found, ← size, le-ltb, lt-ltb, eq-eqb)

      pub header_read : n ≤ end - (pos + (4 + w)) → ok (pos + (4 + w) + n) (pos + (4 + w)) ≡ told
      unfolding read_part need checked number within edge
      header_read h = simp (add_assoc, ← found, ← size, le-ltb, eq-eqb) (ap (λ (x : ℕ). ok x (pos + (4 + w))) (omega arith))

  -- what stands in a component's data stands before the end
  pub data_inside : (r : Told) → part_told w pos r ≡ told → {stop k : ℕ} → r ≡ Ok stop → k ≤ stop → k ≤ end
  data_inside r e q h = omega (arith, (part_known w tag header spot d pos end (sym e ∙ ap (part_told w pos) q)).2)
