-- LiteOptions data from its first name on, one law for each case of the code; the last says that what the code leaves in the table is what the
-- definition files. Assumes nothing.
use Prim.Native.Nat.{ℕ, ◌+◌, ◌<◌, ◌≤◌}
use mathlib.Core.Path.{◌≡◌, sym, ap, ◌∙◌}
use mathlib.Core.List.{List, [], ◌∷◌, map}
use native.Mathlib.Omega.{arith}
use mir.Syntax.{w8}
use mir.Val.{Fits}
use lib.ListN.{length, get_or, length-append}
use Rattle.std.specs.Prelude.{Result, Ok, Err, IsErrAnd}
use Rattle.octets.specs.Octets.{joined, splice}
use Rattle.octets.proofs.Inverse.{length_octets}
use Rattle.reference.specs.declared.Refusal.{Refusal}
use Rattle.reference.specs.declared.TaggedProfile.{TaggedProfile}
use Rattle.reference.specs.declared.TaggedProfile.TheVariants as Sort
use Rattle.reference.specs.declared.View.{View}
use Rattle.reference.specs.Meaning.{Name, Extra, Address, Service, Lite, lite}
use Rattle.reference.specs.Layout.{layout_name, layout_extra, layout_service}
use Rattle.reference.specs.Refusals.{Told}
use Rattle.reference.specs.Steps.{Answer, answer_of, ok, seen, after, done, many}
use Rattle.reference.specs.Reader.{read_run, read_name, read_context, read_lite_extras}
use Rattle.reference.specs.Heads.{before, read_lite_rest}
use Rattle.reference.specs.Placed.{placed, view, name_at, extra_at, address_at, body_at, to_names, to_context, to_lite_extras}
use Rattle.reference.specs.Places.{place_context_length, place_lite_extra, place_lite_leftover, place_service_leftover}
use Rattle.reference.proofs.Laws.{reads_many, fills_ending}
use Rattle.reference.proofs.Parts.{run_reads, name_reads, extra_reads}
use Rattle.reference.proofs.Shown.{length_address}
use Rattle.reference.proofs.Steps.{passed_on, seen_ok, seen_no, ending_at}
use Rattle.table.specs.declared.Counts.{Counts}
use Rattle.table.specs.Region.{stored}
use Rattle.table.specs.Region as Region
use Rattle.table.specs.Flat.{profile_region, name_region, extra_region, body_numbers, Lent}
use Rattle.table.specs.Filed.{profile_filed}
use Rattle.table.proofs.Filed.{filed_lite}
use Rattle.table.proofs.Stored.{stored_in, stored_out}
use Rattle.read_parts.specs.Told.{StoresNames, StoresExtras, body_told, body_kept, StoresBody}
use Rattle.read_parts.proofs.Fills.{told_no, told_ok}
use Rattle.read_parts.proofs.Moves.{octets_of_slice, run_moved}
use Rattle.read_lite.specs.declared.Head.{Head}
use Rattle.read_lite.specs.Told.{headed}

service_length_lem : (s : Service) → length (layout_service s) ≡ 29 + length (joined (map layout_name s.names)) + length s.context
unfolding layout_service
service_length_lem s = simp (length-append, length_octets, length_address) (omega arith)

-- the profile's header stands at offset at, its data 8 octets on, the first name 35 octets into that
module _ (at : ℕ) (t : List ℕ) (i : ℕ) (u : Counts) (d : List ℕ) (h : Head) where
  pub context_inside : (r : Result (View × ℕ) Refusal) (mid : ℕ) {next : ℕ} {w : View} → answer_of r ≡ seen (view (at + 8 + mid + 4)) (read_context d mid h.stop) → r ≡ Ok (w, next) → h.stop ≤ length d → next ≤ length d
  unfolding read_context
  context_inside r mid e p inside =
      let (x, f, w) = seen_ok (view (at + 8 + mid + 4)) (read_context d mid h.stop) (sym e ∙ ap answer_of p) in
      omega (arith, ending_at place_service_leftover (read_run 4 place_context_length) d mid h.stop f)

  -- the address that the head shows
  module _ (a : Address) (shown : address_at a ≡ h.address) where
    abbrev Stored : List ℕ → Result Counts Refusal → Type 0
    Stored t' v = StoresBody at t i u (seen (λ l. lite l) (read_lite_rest (headed h a) d 35 (length d))) (length d) t' v

    rest_read : {ns : List Name} {x : List ℕ} {es : List Extra} {mid next last : ℕ} → many h.names read_name d 35 h.stop ≡ ok ns mid → read_context d mid h.stop ≡ ok x next
        → read_lite_extras h.extras d next (length d) ≡ ok es last
        → read_lite_rest (headed h a) d 35 (length d) ≡ ok (record { service = record { address = a; names = ns; context = x }; extras = es }) last
    unfolding after before done
    rest_read e c f = rw (e, c, f)

    module _ {t₁ : List ℕ} {v : Told} (names : StoresNames (at + 8 + 35) t u.names (many h.names read_name d 35 h.stop) t₁ v) where
      pub no_names_lem : {x : Refusal} {t' : List ℕ} → v ≡ Err x → (b : Result Counts Refusal) → IsErrAnd b (λ y. y ≡ x) → Stored t' b
      unfolding after before
      no_names_lem {x} {t'} q b k = record { told = ap (body_told (length d) t') (passed_on b k) ∙ rw (told_no names q) }

      module _ {mid : ℕ} (q : v ≡ Ok mid) (r : Result (View × ℕ) Refusal) (context : answer_of r ≡ seen (view (at + 8 + mid + 4)) (read_context d mid h.stop)) where
        pub no_context : {x : Refusal} {t' : List ℕ} → r ≡ Err x → (b : Result Counts Refusal) → IsErrAnd b (λ y. y ≡ x) → Stored t' b
        unfolding after before
        no_context {x} {t'} p b k = let (ns, e, s) = told_ok names q in record { told = ap (body_told (length d) t') (passed_on b k) ∙ rw (e, seen_no (view (at + 8 + mid + 4)) (read_context d mid h.stop) (sym context ∙ ap answer_of p)) }

        module _ {w : View} {next : ℕ} {t₂ : List ℕ} {z : Told} (p : r ≡ Ok (w, next)) (extras : StoresExtras (at + 8 + next) t₁ u.extras (read_lite_extras h.extras d next (length d)) t₂ z)
          where
            context_read : (x : List ℕ) × (read_context d mid h.stop ≡ ok x next) × (w ≡ view (at + 8 + mid + 4) x)
            context_read = seen_ok (view (at + 8 + mid + 4)) _ (sym context ∙ ap answer_of p)

            pub no_extras_lem : {x : Refusal} {t' : List ℕ} → z ≡ Err x → (b : Result Counts Refusal) → IsErrAnd b (λ y. y ≡ x) → Stored t' b
            unfolding after before
            no_extras_lem {x} {t'} g b k = let (ns, e, s) = told_ok names q in record { told = ap (body_told (length d) t') (passed_on b k) ∙ rw (e, context_read.1, told_no extras g) }

            -- its own entry, and the counts after it
            abbrev entry : TaggedProfile
            entry = Sort.LiteOptions h.address h.names w h.extras

            abbrev counts : Counts
            counts = record { taps = u.taps; names = u.names + h.names; extras = u.extras + h.extras }

            module _ {last : ℕ} {t₃ : List ℕ} (g : z ≡ Ok last) (octs : (k : ℕ) → Fits w8 (get_or d k 0)) (first : 35 ≤ h.stop) (inside : h.stop ≤ length d) (long : Lent t) where
              -- what was read stands where the definition says, and is as much
              all_filed : t₃ ≡ stored profile_region t₂ i (entry ∷ []) → Stored t₃ (Ok counts)
              unfolding read_context
              all_filed s₃ =
                  let (ns, e, s₁) = told_ok names q in
                  let (x, c, ev) = context_read in
                  let (es, f, s₂) = told_ok extras g in
                  let l : Lite = record { service = record { address = a; names = ns; context = x }; extras = es } in
                  let o = octets_of_slice d (λ k. (octs k).fits) in
                  let (n, gn) = (reads_many name_reads h.names).sound d 35 h.stop (record { octs = o; fits = inside; room = omega arith }) ns mid e in
                  let (m, y, gm) = (fills_ending place_service_leftover (run_reads 4 place_context_length)).sound d mid h.stop (record { octs = o; fits = inside; room = omega (arith, n.room) }) x next c in
                  let (end, span, many) = run_moved (extra_reads place_lite_extra) place_lite_leftover h.extras d next (length d) o (omega arith) (omega arith) f in
                  let name-at : at + 8 + 35 ≡ at + to_names = omega arith in
                  let context-at : at + 8 + mid + 4 ≡ at + to_context l = omega (arith, n.span) in
                  let extra-at : at + 8 + next ≡ at + to_lite_extras l = omega (arith, n.span, simp (length-append, length_octets) at m.span, service_length_lem l.service) in
                  let names : h.names ≡ length ns = sym gn.1 in
                  let extras : h.extras ≡ length es = sym many in
                  let taps : u.taps ≡ u.taps + 0 = omega arith in
                  let v' = ev ∙ ap (λ (k : ℕ). view k x) context-at in
                  let t₁' = s₁ ∙ ap (λ (k : ℕ). stored name_region t u.names (placed name_at layout_name k ns)) name-at in
                  let t₂' = s₂ ∙ (λ j. stored extra_region (t₁' j) u.extras (placed extra_at layout_extra (extra-at j) es)) in
                  let filled : t₃ ≡ profile_filed at t i u (lite l) =
                  s₃ ∙ (λ j. stored profile_region (t₂' j) i (Sort.LiteOptions (sym shown j) (names j) (v' j) (extras j) ∷ [])) ∙ filed_lite t i u (body_at at (lite l) ∷ []) long _ _ in
                  record {
                    told =
                        (λ j. ok (record { table = filled j; counts = record { taps = taps j; names = u.names + names j; extras = u.extras + extras j } }) (sym end j))
                        ∙ ap (λ (y : Answer Lite). body_kept at t i u (seen (λ l. lite l) y)) (sym (rest_read e c f));
                  }

              pub filed_in : {t' : List ℕ} → i < profile_region.size → t' ≡ splice t₂ (Region.entry profile_region i) (body_numbers entry) → t₃ ≡ t' → Stored t₃ (Ok counts)
              filed_in room y s = all_filed (stored_in profile_region t₂ i entry room (s ∙ y))

              pub filed_out : 8 ≤ i → t₃ ≡ t₂ → Stored t₃ (Ok counts)
              filed_out full s = all_filed (stored_out profile_region t₂ i entry full s)
