-- Writing's answer and what it leaves, by what its checks find in their order. Assumes nothing.
use Prim.Native.Nat.{ℕ, ◌<◌, ◌≤◌}
use mathlib.Core.Path.{◌≡◌, sym, ap, ◌∙◌}
use mathlib.Core.Bool.{Bool, true, false}
use mathlib.Core.List.{List}
use native.Mathlib.Nat.{zero-add}
use lib.ListN.{length}
use Rattle.reference.specs.declared.TypeIdRule.{TypeIdRule}
use Rattle.reference.specs.declared.AddressWay.{AddressWay}
use Rattle.reference.specs.declared.AddressWay.TheVariants.{Constants}
use Rattle.octets.specs.Put.{Put}
use Rattle.reference.specs.declared.Refusal.{Refusal}
use Rattle.reference.specs.declared.View.{View}
use Rattle.reference.specs.declared.Tables.{Tables}
use Rattle.reference.specs.Refusals.{Check}
use Rattle.std.specs.Prelude.{Ok, Err}
use Rattle.reference.specs.Layout.{allowed}
use Rattle.reference.specs.Tabled.{used_of}
use Rattle.reference.specs.Used.{owned_of}
use Rattle.reference.specs.Refusals.{refusal}
use Rattle.reference.specs.Checks.{test, both, each}
use Rattle.reference.specs.Writer.{size_of, image_of, counts_check, room_check, type_check, own_short, measure_check, write_check, told, left, written, leaves}
use Rattle.reference.proofs.Checks.{stop, go, passes, le_test, lt_test}
use Rattle.writing.specs.Writes.{Writes}

module _ (rule : TypeIdRule) where
  -- the checks that follow those of measuring
  abbrev pub output_check : Tables → ℕ → Check
  output_check t m = both (room_check (size_of rule (used_of t)) m) (both (type_check rule t.type_id) (each own_short (owned_of (used_of t))))

  module _ (t : Tables) (n m : ℕ) where
    pub measure_refuses : {r : Refusal} → measure_check rule t n ≡ Err r → write_check rule t n m ≡ Err r
    unfolding write_check
    measure_refuses {r} e = stop (measure_check rule t n) (output_check t m) r e

    pub output_decides : measure_check rule t n ≡ Ok tt → write_check rule t n m ≡ output_check t m
    unfolding write_check
    output_decides e = go (measure_check rule t n) (output_check t m) e

    pub counts_pass : measure_check rule t n ≡ Ok tt → counts_check t ≡ Ok tt
    unfolding measure_check
    counts_pass e = (passes _ _ (passes _ _ e).1).0

    pub counts_written : write_check rule t n m ≡ Ok tt → counts_check t ≡ Ok tt
    unfolding write_check
    counts_written e = counts_pass (passes _ _ e).0

  -- 5, 4, 2: an output without room, a type id that the rule does not allow, and then the sizes
  module _ (t : Tables) (m : ℕ) where
    pub no_room_refuses : m < size_of rule (used_of t) → output_check t m ≡ Err (refusal 5 0 (size_of rule (used_of t)) m)
    no_room_refuses h = stop _ _ _ (lt_test (size_of rule (used_of t)) m _ h)

    module _ (v : View) (e : v ≡ t.type_id) (h : size_of rule (used_of t) ≤ m) where
      -- what the rule says of the type id
      told_by : {b c : Bool} → b ≡ allowed rule v.len → b ≡ c → allowed rule t.type_id.len ≡ c
      told_by a k = ap (λ (w : View). allowed rule w.len) (sym e) ∙ sym a ∙ k

      module _ {b : Bool} (a : b ≡ allowed rule v.len) where
        pub type_refuses : b ≡ false → output_check t m ≡ Err (refusal 4 33 0 0)
        unfolding test
        type_refuses k =
            go _ _ (le_test (size_of rule (used_of t)) m _ h) ∙ stop _ _ _ (ap (λ (x : Bool). test x (refusal 4 33 0 0)) (told_by a k))

        pub sizes_decide : b ≡ true → output_check t m ≡ each own_short (owned_of (used_of t))
        unfolding test
        sizes_decide k =
            go _ _ (le_test (size_of rule (used_of t)) m _ h) ∙ go _ _ (ap (λ (x : Bool). test x (refusal 4 33 0 0)) (told_by a k))

module _ (rule : TypeIdRule) (way : AddressWay) where
  module _ (t : Tables) (s d : List ℕ) where
    pub refuses : {r : Refusal} → write_check rule t (length s) (length d) ≡ Err r → Writes rule way t s d (Err r) d
    unfolding written leaves
    refuses e =
        record {
          answers = sym (ap (λ (k : Check). told k (size_of rule (used_of t))) e);
          leaves = sym (ap (λ (k : Check). left k d (image_of rule way s t)) e);
        }

-- there is one way, and in it the image was put
pub accepts : (rule : TypeIdRule) (way : AddressWay) (t : Tables) (s d : List ℕ) {e : List ℕ} {r : ℕ} → write_check rule t (length s) (length d) ≡ Ok tt
    → Put d 0 (size_of rule (used_of t)) (image_of rule Constants s t) e r → Writes rule way t s d (Ok r) e
unfolding written leaves
accepts rule Constants t s d h p =
    record {
      answers = ap Ok (p.next ∙ zero-add (size_of rule (used_of t))) ∙ sym (ap (λ (k : Check). told k (size_of rule (used_of t))) h);
      leaves = p.left ∙ sym (ap (λ (k : Check). left k d (image_of rule Constants s t)) h);
    }
