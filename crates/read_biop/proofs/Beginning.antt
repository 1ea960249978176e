-- What stands before the first tap: the ObjectLocation, and BIOP data up to there, one law for each case of the code. The
-- premises are what the code knows there, so that a proof only names the law. Assumes nothing.
use Prim.Native.Nat.{ℕ, ◌+◌, ◌-◌, ◌<◌, ◌≤◌}
use mathlib.Core.Path.{◌≡◌, sym, ap, ◌∙◌}
use mathlib.Core.List.{List}
use mathlib.Core.Logic.{◌≢◌}
use native.Mathlib.Nat.{add_assoc}
use native.Mathlib.Omega.{arith}
use borrow.Author.Tests.{lt-ltb, le-ltb, eq-eqb, ne_eqb}
use mir.Syntax.{w8}
use mir.Val.{Fits}
use lib.ListN.{length, get_or, length-append}
use Rattle.std.specs.Prelude.{Result, Ok, Err, IsErrAnd}
use Rattle.octets.specs.Octets.{be, part}
use Rattle.octets.proofs.Inverse.{length_octets}
use Rattle.reference.specs.declared.Refusal.{Refusal}
use Rattle.reference.specs.Meaning.{Location, Biop, biop}
use Rattle.reference.specs.Layout.{tag_location, tag_binder, layout_location, tagged}
use Rattle.reference.specs.Refusals.{Told, cut_at, left_at, long_at}
use Rattle.reference.specs.Steps.{Answer, ok, refused, seen, need, number, run, done, ending, after}
use Rattle.reference.specs.Reader.{read_count, read_location, read_object_location, read_biop, read_biop_fixed}
use Rattle.reference.specs.Heads.{read_part, read_binder_head, read_biop_head, read_biop_rest}
use Rattle.reference.specs.Places.{place_biop_components, place_biop_fixed, place_biop_order, place_location_fixed, place_location_header, place_location_leftover, place_location_tag, place_binder_header, place_binder_tag, place_tap_count}
use Rattle.reference.proofs.Parts.{object_location_reads}
use Rattle.reference.proofs.Steps.{passed_on, followed_followed}
use Rattle.reference.proofs.Heads.{biop_cut, component_no, component_data, opened_no, opened_data, count_cut, count_read}
use Rattle.table.specs.declared.Counts.{Counts}
use Rattle.read_parts.specs.Told.{fixed_told, part_told, StoresBody}
use Rattle.read_parts.proofs.Fixed.{fixed_known}
use Rattle.read_parts.proofs.Moves.{octets_of_slice, moved}
use Rattle.read_biop.specs.Told.{location_of, location_told, head_of, read_from_binder}

-- ---- the ObjectLocation: its fields, which stand at 7 and must end at stop, and its component

module _ (d : List ℕ) (stop : ℕ) where
  abbrev fields_told : Answer Location
  fields_told = ending place_location_leftover read_location d 7 stop

  pub fields_cut : {x : Refusal} → x ≡ cut_at place_location_fixed 7 9 stop → stop < 16 → refused x ≡ fields_told
  unfolding ending read_location need
  fields_cut e h = simp (e, lt-ltb)

  module _ {n : ℕ} (size : n ≡ be (part d 15 1)) (room : 16 ≤ stop) where
    pub key_over : {x : Refusal} → x ≡ long_at 16 n stop → stop - 16 < n → refused x ≡ fields_told
    unfolding ending read_location need number run
    key_over e h = simp (e, ← size, le-ltb, lt-ltb)

    module _ (fits : n ≤ stop - 16) where
      pub fields_left : {x : Refusal} → x ≡ left_at place_location_leftover (16 + n) stop → 16 + n ≢ stop → refused x ≡ fields_told
      unfolding ending read_location need number run done
      fields_left e h = simp (e, ← size, le-ltb, ne_eqb)

      pub fields_read : 16 + n ≡ stop → ok (location_of d (16 + n)) (16 + n) ≡ fields_told
      unfolding ending read_location need number run done
      fields_read h = let k : 16 + n - 16 ≡ n = omega arith in simp (← size, k, le-ltb, eq-eqb)

module _ (d : List ℕ) (r : Told) (e : part_told 1 2 r ≡ read_part 1 tag_location place_location_header place_location_tag d 2 (length d)) where
  pub part_no : {x : Refusal} → r ≡ Err x → (w : Told) → IsErrAnd w (λ y. y ≡ x) → location_told d w ≡ read_object_location d 2 (length d)
  unfolding read_object_location
  part_no q w p = ap (location_told d) (passed_on w p) ∙ sym (component_no 1 tag_location place_location_header place_location_tag d 2 (length d) _ (sym e ∙ ap (part_told 1 2) q))

  pub part_data : {stop : ℕ} {x : Answer Location} → r ≡ Ok stop → x ≡ fields_told d stop → x ≡ read_object_location d 2 (length d)
  unfolding read_object_location
  part_data q f = f ∙ sym (component_data 1 tag_location place_location_header place_location_tag d 2 (length d) _ (sym e ∙ ap (part_told 1 2) q))

-- ---- what is known where the ConnBinder stands

module _ (d : List ℕ) (octs : (k : ℕ) → Fits w8 (get_or d k 0)) (r : Told) (e : fixed_told r ≡ read_biop_fixed d 0 (length d)) {c : ℕ} (q : r ≡ Ok c) where
  counted : (2 ≤ length d) × (2 ≤ c) × (c < 256)
  counted =
      let (two, least, small, at) = fixed_known 2 place_biop_fixed place_biop_order place_biop_components d (length d) (octets_of_slice d (λ k. (octs k).fits)) (omega arith) (sym e ∙ ap fixed_told q) in
      (two, least, small)

  pub two_at_least : 2 ≤ c
  two_at_least = counted.1

  pub extras_few : c - 2 ≤ 255
  extras_few = omega (arith, counted.2)

  module _ (v : Told) (f : location_told d v ≡ read_object_location d 2 (length d)) {next : ℕ} (n : v ≡ Ok next) where
    spanned : (next ≤ length d) × (next ≡ 2 + length (tagged 1 tag_location (layout_location (location_of d next))))
    spanned = moved object_location_reads d 2 (length d) (octets_of_slice d (λ k. (octs k).fits)) counted.0 (omega arith) (sym f ∙ ap (location_told d) n)

    pub located_inside : next ≤ length d
    located_inside = spanned.0

    pub located_low : 16 ≤ next
    unfolding layout_location
    located_low = omega (arith, simp (length-append, length_octets) at spanned.1)

-- ---- the data, stored into t as profile i: that left t'

module _ (at : ℕ) (t : List ℕ) (i : ℕ) (u : Counts) (d t' : List ℕ) where
  abbrev Stored : Answer Biop → Result Counts Refusal → Type 0
  Stored x v = StoresBody at t i u (seen (λ b. biop b) x) (length d) t' v

  -- from the ConnBinder on, which stands at pos
  module _ (extras pos : ℕ) (r : Told) (e : part_told 1 pos r ≡ read_part 1 tag_binder place_binder_header place_binder_tag d pos (length d)) where
    pub binder_no : {x : Refusal} → r ≡ Err x → (w : Result Counts Refusal) → IsErrAnd w (λ y. y ≡ x) → Stored (read_from_binder extras d pos (length d)) w
    unfolding read_from_binder read_binder_head after
    binder_no q w p = record { told = rw (passed_on w p, opened_no 1 tag_binder place_binder_header place_binder_tag d pos (length d) (read_count 1 place_tap_count) (sym e ∙ ap (part_told 1 pos) q)) }

    module _ {stop : ℕ} (q : r ≡ Ok stop) where
      pub count_short : {x : Refusal} → x ≡ cut_at place_tap_count (pos + 5) 1 stop → stop < pos + 5 + 1 → Stored (read_from_binder extras d pos (length d)) (Err x)
      unfolding read_from_binder read_binder_head after
      count_short c h =
          record { told = rw (c, opened_data 1 tag_binder place_binder_header place_binder_tag d pos (length d) (read_count 1 place_tap_count) (sym e ∙ ap (part_told 1 pos) q), count_cut) }

      pub binder_read : {n : ℕ} {v : Result Counts Refusal} → n ≡ be (part d (pos + 5) 1) → pos + 5 + 1 ≤ stop
          → Stored (read_biop_rest (head_of d (record { binder = pos; stop = stop; taps = n; extras = extras })) d (pos + 6) (length d)) v → Stored (read_from_binder extras d pos (length d)) v
      unfolding read_from_binder read_binder_head after
      binder_read n h s =
          record {
            told =
                rw
                (opened_data 1 tag_binder place_binder_header place_binder_tag d pos (length d) (read_count 1 place_tap_count) (sym e ∙ ap (part_told 1 pos) q), count_read, ← n, add_assoc pos 5 1)
                s.told;
          }

  -- from the start on
  module _ (r : Told) (e : fixed_told r ≡ read_biop_fixed d 0 (length d)) where
    pub fixed_no : {x : Refusal} → r ≡ Err x → (w : Result Counts Refusal) → IsErrAnd w (λ y. y ≡ x) → Stored (read_biop d 0 (length d)) w
    unfolding read_biop_head after
    fixed_no q w p = record { told = rw (passed_on w p, biop_cut, sym e ∙ ap fixed_told q) }

    module _ {c : ℕ} (q : r ≡ Ok c) (v : Told) (f : location_told d v ≡ read_object_location d 2 (length d)) where
      pub location_no : {x : Refusal} → v ≡ Err x → (w : Result Counts Refusal) → IsErrAnd w (λ y. y ≡ x) → Stored (read_biop d 0 (length d)) w
      unfolding read_biop_head after
      location_no n w p = record { told = rw (passed_on w p, biop_cut, sym e ∙ ap fixed_told q, sym f ∙ ap (location_told d) n) }

      pub located : {next : ℕ} {w : Result Counts Refusal} → v ≡ Ok next → Stored (read_from_binder (c - 2) d next (length d)) w → Stored (read_biop d 0 (length d)) w
      unfolding read_biop_head read_from_binder after done
      located n s = record { told = rw (biop_cut, sym e ∙ ap fixed_told q, sym f ∙ ap (location_told d) n) (simp followed_followed s.told) }
