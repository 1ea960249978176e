-- BIOP data from its first tap on, one law for each case of the code; the last says that what the code leaves in the table is what the definition
-- files. Assumes nothing.
use Prim.Native.Nat.{ℕ, ◌+◌, ◌-◌, ◌<◌, ◌≤◌}
use mathlib.Core.Path.{◌≡◌, sym, ap, ◌∙◌}
use mathlib.Core.List.{List, [], ◌∷◌, map}
use native.Mathlib.Omega.{arith}
use mir.Syntax.{w8}
use mir.Val.{Fits}
use lib.ListN.{length, get_or, length-append}
use Rattle.std.specs.Prelude.{Result, Ok, Err, IsErrAnd}
use Rattle.octets.specs.Octets.{joined, part, splice}
use Rattle.octets.proofs.Inverse.{length_octets}
use Rattle.octets.proofs.Part.{length_part}
use Rattle.reference.specs.declared.ObjectLocation.{ObjectLocation}
use Rattle.reference.specs.declared.Refusal.{Refusal}
use Rattle.reference.specs.declared.TaggedProfile.{TaggedProfile}
use Rattle.reference.specs.declared.TaggedProfile.TheVariants as Sort
use Rattle.reference.specs.Refusals.{Told}
use Rattle.reference.specs.Meaning.{Tap, Extra, Biop, biop}
use Rattle.reference.specs.Layout.{layout_tap, layout_extra, layout_location, layout_binder}
use Rattle.reference.specs.Steps.{Answer, ok, seen, after, done, many}
use Rattle.reference.specs.Reader.{read_tap, read_taps, read_biop_extras}
use Rattle.reference.specs.Heads.{before, read_biop_rest}
use Rattle.reference.specs.Placed.{placed, tap_at, extra_at, location_at, body_at, to_location, to_taps, to_biop_extras}
use Rattle.reference.specs.Places.{place_binder_leftover, place_biop_extra, place_biop_leftover}
use Rattle.reference.proofs.Parts.{tap_reads, extra_reads}
use Rattle.reference.proofs.Steps.{passed_on, ending_at}
use Rattle.table.specs.declared.Counts.{Counts}
use Rattle.table.specs.Region.{stored}
use Rattle.table.specs.Region as Region
use Rattle.table.specs.Flat.{profile_region, tap_region, extra_region, body_numbers, Lent}
use Rattle.table.specs.Filed.{profile_filed}
use Rattle.table.proofs.Filed.{filed_biop}
use Rattle.table.proofs.Stored.{stored_in, stored_out}
use Rattle.read_parts.specs.Told.{StoresTaps, StoresExtras, body_kept, StoresBody}
use Rattle.read_parts.proofs.Fills.{told_no, told_ok}
use Rattle.read_parts.proofs.Moves.{octets_of_slice, run_moved}
use Rattle.read_biop.specs.declared.Head.{Head}
use Rattle.read_biop.specs.Told.{LocationIn, location_of, head_of}

binder_length : (ts : List Tap) → length (layout_binder ts) ≡ 1 + length (joined (map layout_tap ts))
unfolding layout_binder
binder_length ts = simp (length-append, length_octets) (omega arith)

-- an ObjectLocation that ends at next
module _ (d : List ℕ) (next : ℕ) (low : 16 ≤ next) (inside : next ≤ length d) where
  key_length : length (part d 16 (next - 16)) ≡ next - 16
  key_length = length_part d 16 (next - 16) (omega arith)

  location_length_lem : length (layout_location (location_of d next)) ≡ next - 7
  unfolding layout_location
  location_length_lem = simp (length-append, length_octets) (omega (arith, key_length))

  location_placed : (at : ℕ) {l : ObjectLocation} → LocationIn d (at + 8) next l → l ≡ location_at (at + to_location) (location_of d next)
  location_placed at l =
      let at_key : at + 8 + 16 ≡ at + to_location + 9 = omega arith in
      let key = l.key ∙ (λ j. record { at = at_key j; len = sym key_length j }) in
      λ j. record { carousel = l.carousel j; «module» = l.module_id j; version_major = l.major j; version_minor = l.minor j; key = key j }

-- the profile's header stands at offset at, its data 8 octets on
module _ (at : ℕ) (t : List ℕ) (i : ℕ) (u : Counts) (d : List ℕ) (h : Head) where
  abbrev Stored : List ℕ → Result Counts Refusal → Type 0
  Stored t' v = StoresBody at t i u (seen (λ b. biop b) (read_biop_rest (head_of d h) d (h.binder + 6) (length d))) (length d) t' v

  -- its own entry, and the counts after it
  abbrev entry : ObjectLocation → TaggedProfile
  entry l = Sort.Biop l h.taps h.extras

  abbrev counts : Counts
  counts = record { taps = u.taps + h.taps; names = u.names; extras = u.extras + h.extras }

  rest_read : {ts : List Tap} {es : List Extra} {mid last : ℕ} → read_taps h.taps d (h.binder + 6) h.stop ≡ ok ts mid → read_biop_extras h.extras d mid (length d) ≡ ok es last
      → read_biop_rest (head_of d h) d (h.binder + 6) (length d) ≡ ok (record { location = location_of d h.binder; taps = ts; extras = es }) last
  unfolding after before done
  rest_read e f = rw (e, f)

  module _ {t₁ : List ℕ} {v : Told} (taps : StoresTaps (at + 8 + (h.binder + 6)) t u.taps (read_taps h.taps d (h.binder + 6) h.stop) t₁ v) where
    pub taps_inside : {mid : ℕ} → v ≡ Ok mid → h.stop ≤ length d → mid ≤ length d
    taps_inside q inside =
        let (ts, e, s) = told_ok taps q in
        omega (arith, ending_at place_binder_leftover (many h.taps read_tap) d (h.binder + 6) h.stop e)

    pub no_taps_lem : {x : Refusal} {t' : List ℕ} → v ≡ Err x → (r : Result Counts Refusal) → IsErrAnd r (λ y. y ≡ x) → Stored t' r
    unfolding after before
    no_taps_lem q r p = record { told = rw (passed_on r p, told_no taps q) }

    module _ {mid : ℕ} {t₂ : List ℕ} {w : Told} (q : v ≡ Ok mid) (extras : StoresExtras (at + 8 + mid) t₁ u.extras (read_biop_extras h.extras d mid (length d)) t₂ w) where
      pub no_extras_lem : {x : Refusal} {t' : List ℕ} → w ≡ Err x → (r : Result Counts Refusal) → IsErrAnd r (λ y. y ≡ x) → Stored t' r
      unfolding after before
      no_extras_lem p r o = let (ts, e, s) = told_ok taps q in record { told = rw (passed_on r o, e, told_no extras p) }

      module _ {last : ℕ} {t₃ : List ℕ} (p : w ≡ Ok last) (octs : (k : ℕ) → Fits w8 (get_or d k 0)) (low : 16 ≤ h.binder) (first : h.binder + 6 ≤ h.stop)
          (inside : h.stop ≤ length d) (long : Lent t) where
        -- what was read stands where the definition says, and is as much
        all_filed : t₃ ≡ stored profile_region t₂ i (entry (location_at (at + to_location) (location_of d h.binder)) ∷ []) → Stored t₃ (Ok counts)
        all_filed s₃ =
            let (ts, e, s₁) = told_ok taps q in
            let (es, f, s₂) = told_ok extras p in
            let b : Biop = record { location = location_of d h.binder; taps = ts; extras = es } in
            let o = octets_of_slice d (λ k. (octs k).fits) in
            let (stop, span, n) = run_moved tap_reads place_binder_leftover h.taps d (h.binder + 6) h.stop o (omega arith) (omega arith) e in
            let (last, span', m) = run_moved (extra_reads place_biop_extra) place_biop_leftover h.extras d mid (length d) o (omega arith) (omega arith) f in
            let wide = location_length_lem d h.binder (omega arith) (omega arith) in
            let tap-at : at + 8 + (h.binder + 6) ≡ at + to_taps b = omega arith in
            let extra-at : at + 8 + mid ≡ at + to_biop_extras b = omega (arith, binder_length ts) in
            let names : u.names ≡ u.names + 0 = omega arith in
            let t₁' = s₁ ∙ ap (λ (k : ℕ). stored tap_region t u.taps (placed tap_at layout_tap k ts)) tap-at in
            let t₂' = s₂ ∙ (λ j. stored extra_region (t₁' j) u.extras (placed extra_at layout_extra (extra-at j) es)) in
            let filled : t₃ ≡ profile_filed at t i u (biop b) =
            s₃ ∙ (λ j. stored profile_region (t₂' j) i (Sort.Biop (location_at (at + to_location) b.location) (sym n j) (sym m j) ∷ [])) ∙ filed_biop t i u (body_at at (biop b) ∷ []) long _ _ in
            record {
              told =
                  (λ j. ok (record { table = filled j; counts = record { taps = u.taps + sym n j; names = names j; extras = u.extras + sym m j } }) (sym last j))
                  ∙ ap (λ (x : Answer Biop). body_kept at t i u (seen (λ b. biop b) x)) (sym (rest_read e f));
            }

        pub filed_in : {l : ObjectLocation} {t' : List ℕ} → LocationIn d (at + 8) h.binder l → i < profile_region.size → t' ≡ splice t₂ (Region.entry profile_region i) (body_numbers (entry l)) → t₃ ≡ t'
            → Stored t₃ (Ok counts)
        filed_in l room e s =
            let same = location_placed d h.binder low (omega arith) at l in
            all_filed (stored_in profile_region t₂ i _ room (s ∙ e ∙ ap (λ (x : ObjectLocation). splice t₂ (Region.entry profile_region i) (body_numbers (entry x))) same))

        pub filed_out : 8 ≤ i → t₃ ≡ t₂ → Stored t₃ (Ok counts)
        filed_out full s = all_filed (stored_out profile_region t₂ i _ full s)
