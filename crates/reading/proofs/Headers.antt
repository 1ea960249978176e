-- The header of a profile, and what stands before the profiles, one law for each case of the code. The premises
-- are what the code knows there, so that a proof only names the law. Assumes nothing.
use Prim.Native.Nat.{ℕ, ◌+◌, ◌-◌, ◌<◌, ◌≤◌}
use mathlib.Core.Path.{◌≡◌, refl, sym, ap, ◌∙◌, subst}
use mathlib.Core.Bool.{Bool, true, false}
use mathlib.Core.Logic.{◌≢◌}
use mathlib.Core.List.{List}
use native.Mathlib.Nat.{add_assoc}
use native.Mathlib.Omega.{arith}
use borrow.Author.Tests.{lt-ltb, le-ltb, eq-eqb, ne_eqb}
use lib.Dec.{eqb}
use mir.Syntax.{w8}
use mir.Val.{Fits}
use lib.ListN.{length, get_or}
use Rattle.read_parts.proofs.Moves.{octets_of_slice}
use Rattle.reference.specs.declared.TypeIdRule.{TypeIdRule}
use Rattle.octets.specs.Octets.{Octets, be, part, octets}
use Rattle.octets.proofs.Part.{length_part, octets_part}
use Rattle.octets.proofs.Inverse.{octets_be}
use Rattle.octets.specs.Blank.{blank, IsBlank}
use Rattle.octets.proofs.Blank.{length_blank, blank_octets}
use Rattle.reference.specs.declared.Refusal.{Refusal}
use Rattle.reference.specs.declared.View.{View}
use Rattle.reference.specs.Refusals.{refusal, Check}
use Rattle.std.specs.Prelude.{Result, Ok, Err, IsErrAnd}
use Rattle.reference.specs.Layout.{allowed, gap_length}
use Rattle.reference.specs.Places.{place_profile_header, place_reference_fixed, place_type_id_length, place_profile_count, place_gap_value, place_gap}
use Rattle.reference.specs.Refusals.{refusal, cut_at, long_at, wrong_at}
use Rattle.reference.specs.Steps.{Answer, ok, refused, need, number, checked, run, fits, after, done}
use Rattle.reference.specs.Reader.{read_count, read_gap}
use Rattle.reference.specs.Heads.{Header, read_header, read_head}
use Rattle.reference.proofs.Steps.{passed_on}
use Rattle.reading.specs.declared.Opening.{Opening}
use Rattle.reading.specs.Open.{opening, LengthKnown, GapIn, Opens, HeadIn}

-- ---- the header of a profile

module _ (d : List ℕ) (pos end : ℕ) where
  abbrev header : Answer Header
  header = read_header d pos end

  pub header_cut : {x : Refusal} → x ≡ cut_at place_profile_header pos 8 end → end < pos + 8 → refused x ≡ header
  unfolding read_header need
  header_cut e h = simp (e, lt-ltb)

  module _ {n : ℕ} (size : n ≡ be (part d (pos + 4) 4)) (room : pos + 8 ≤ end) where
    pub header_over : {x : Refusal} → x ≡ long_at (pos + 8) n end → end - (pos + 8) < n → refused x ≡ header
    unfolding read_header need number fits
    header_over e h = simp (e, add_assoc, ← size, le-ltb, lt-ltb)

    pub header_read : {t : ℕ} → t ≡ be (part d pos 4) → n ≤ end - (pos + 8) → ok (record { tag = t; size = n }) (pos + 8) ≡ header
    unfolding read_header need number fits done
    header_read tag h = simp (add_assoc, ← tag, ← size, le-ltb)

-- ---- what stands before the profiles: the length of the type id

module _ (rule : TypeIdRule) (d : List ℕ) where
  abbrev No : Refusal → Type 0
  No x = opening rule d ≡ refused x

  pub head_large : {x : Refusal} → x ≡ refusal 6 0 (length d) 65535 → 65535 < length d → No x
  head_large e h = simp (e, lt-ltb)

  module _ (small : length d ≤ 65535) where
    pub head_cut : {x : Refusal} → x ≡ cut_at place_reference_fixed 0 8 (length d) → length d < 8 → No x
    unfolding read_head need
    head_cut e h = simp (e, le-ltb, lt-ltb)

    module _ {n : ℕ} (size : n ≡ be (part d 0 4)) (room : 8 ≤ length d) where
      pub head_odd : {x : Refusal} {b : Bool} → b ≡ allowed rule n → x ≡ wrong_at 4 place_type_id_length 0 → b ≡ false → No x
      unfolding read_head need checked
      head_odd {x} {b} a e h = let q = sym a ∙ h in simp (e, ← size, le-ltb, q)

      module _ {b : Bool} (a : b ≡ allowed rule n) (even : b ≡ true) where
        right : allowed rule n ≡ true
        right = sym a ∙ even

        pub head_over : {x : Refusal} → x ≡ long_at 4 n (length d) → length d - 4 < n → No x
        unfolding read_head need checked number run
        head_over e h = simp (e, ← size, le-ltb, lt-ltb, right)

        pub head_length : n ≤ length d - 4 → LengthKnown rule d n
        head_length h = record { small = small; room = room; size = size; allowed = right; fits = h }

  -- what is handed on
  refused_as : {x : Refusal} → No x → (w : Result Opening Refusal) → IsErrAnd w (λ y. y ≡ x) → HeadIn rule d w
  refused_as e w p = subst (HeadIn rule d) (sym (passed_on w p)) e

-- ---- its gap

module _ (rule : TypeIdRule) (n : ℕ) (d : List ℕ) (at : ℕ) {k : ℕ} (few : k ≡ gap_length rule n) where
  pub gap_cut : {x : Refusal} → x ≡ cut_at place_gap at k (length d) → length d < at + k → GapIn rule n d at (Err x)
  unfolding read_gap need
  gap_cut e h = simp (e, ← few, lt-ltb)

  module _ (room : at + k ≤ length d) (b : Bool) (a : IsBlank d at k b) where
    pub gap_wrong : {x : Refusal} → ((i : ℕ) → Fits w8 (get_or d i 0)) → x ≡ wrong_at 3 place_gap_value at → b ≡ false → GapIn rule n d at (Err x)
    unfolding read_gap need checked
    gap_wrong o e h =
        let no : part d at k ≢ blank k = subst (IsBlank d at k) h a in
        let oct = octets_of_slice d (λ i. (o i).fits) in
        let q : eqb (be (part d at k)) (be (blank k)) ≡ false = ne_eqb (be (part d at k)) (be (blank k)) (λ p. no (be_blank oct p)) in
        simp (e, ← few, le-ltb, q)
      where
        -- as many octets that write the same number are the same
        be_blank : Octets d → be (part d at k) ≡ be (blank k) → part d at k ≡ blank k
        be_blank o p =
            sym (octets_be (part d at k) (octets_part d at k o)) ∙ (λ j. octets ((length_part d at k room ∙ sym (length_blank k)) j) (p j)) ∙ octets_be (blank k) (blank_octets k)

    pub gap_right : b ≡ true → GapIn rule n d at (Ok tt)
    unfolding read_gap need checked number done
    gap_right h =
        let yes : part d at k ≡ blank k = subst (IsBlank d at k) h a in
        let q : eqb (be (blank k)) (be (blank k)) ≡ true = eq-eqb (be (blank k)) (be (blank k)) refl in
        (simp (← few, yes, le-ltb, q), omega arith)

  pub gap_none : k ≡ 0 → at ≤ length d → GapIn rule n d at (Ok tt)
  gap_none z h = gap_right (omega (arith, z, h)) true (subst (λ (i : ℕ). part d at i ≡ blank i) (sym z) refl) refl

-- ---- and the profile count

module _ (rule : TypeIdRule) (d : List ℕ) {n : ℕ} (k : LengthKnown rule d n) where
  -- what the tests ask
  known : (length d ≤ 65535) × (8 ≤ length d) × (n ≤ length d - 4)
  known = (k.small, k.room, k.fits)

  pub head_gap : {x : Refusal} {c : Check} → GapIn rule n d (4 + n) c → c ≡ Err x → (w : Result Opening Refusal) → IsErrAnd w (λ y. y ≡ x) → HeadIn rule d w
  unfolding read_head need checked number run after
  head_gap {x} g e w p =
      let q : read_gap rule n d (4 + n) (length d) ≡ refused x = subst (GapIn rule n d (4 + n)) e g in
      let (s, r, f) = known in
      refused_as rule d {x = x} (simp (← k.size, le-ltb, k.allowed, q)) w p

  module _ {c : Check} (g : GapIn rule n d (4 + n) c) (pass : c ≡ Ok tt) where
    passed : GapIn rule n d (4 + n) (Ok tt)
    passed = subst (GapIn rule n d (4 + n)) pass g

    pub head_short : {x : Refusal} {g : ℕ} → g ≡ gap_length rule n → x ≡ cut_at place_profile_count (4 + n + g) 4 (length d) → length d < 4 + n + g + 4 → opening rule d ≡ refused x
    unfolding read_head read_count need checked number run after
    head_short p e h =
        let (s, r, f) = known in
        let g = passed.0 in
        let h' : length d < 4 + n + gap_length rule n + 4 = omega arith in
        rw (e, p) (simp (← k.size, le-ltb, lt-ltb, k.allowed, g))

    pub head_read : {v : View} {c g : ℕ} → g ≡ gap_length rule n → v ≡ record { at = 4; len = n } → c ≡ be (part d (4 + n + g) 4) → 4 + n + g + 4 ≤ length d → Opens rule d v c (4 + n + g + 4)
    unfolding read_head read_count need checked number run after done
    head_read p e f h =
        let (s, r, t) = known in
        let g = passed.0 in
        let h' : 4 + n + gap_length rule n + 4 ≤ length d = omega arith in
        let l = length_part d 4 n (omega arith) in
        record {
          small = k.small;
          inside = h;
          id = part d 4 n;
          read = simp (f, p, ← k.size, le-ltb, k.allowed, g);
          shown = e ∙ (λ j. record { at = 4; len = sym l j });
          behind = omega (arith, l, p, ap (gap_length rule) l);
        }
