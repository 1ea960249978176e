-- What stands before the first name, one law for each case of the code; and what a head that was read tells. The premises are what the code
-- knows there, so that a proof only names the law. Assumes nothing.
use Prim.Native.Nat.{ℕ, ◌+◌, ◌-◌, ◌<◌, ◌≤◌}
use mathlib.Core.Path.{◌≡◌, sym, ap, ◌∙◌}
use mathlib.Core.List.{List}
use mathlib.Core.Logic.{◌≢◌}
use native.Mathlib.Omega.{arith}
use borrow.Author.Tests.{lt-ltb, le-ltb, ne_eqb}
use mir.Syntax.{w8}
use mir.Val.{Fits}
use lib.ListN.{length, get_or}
use Rattle.std.specs.Prelude.{Result, Ok, Err, IsErrAnd}
use Rattle.octets.specs.Octets.{be, part}
use Rattle.reference.specs.declared.NsapAddress.{NsapAddress}
use Rattle.reference.specs.declared.Refusal.{Refusal}
use Rattle.reference.specs.Meaning.{lite}
use Rattle.reference.specs.Layout.{tag_service}
use Rattle.reference.specs.Refusals.{Told, cut_at, wrong_at}
use Rattle.reference.specs.Steps.{Answer, ok, refused, seen, need, checked, number, after, done}
use Rattle.reference.specs.Reader.{read_count, read_address, read_lite_fixed, read_lite}
use Rattle.reference.specs.Heads.{read_part, LiteHead, read_service_head, read_service_part, read_lite_head, read_lite_rest}
use Rattle.reference.proofs.Laws.{followed_ok}
use Rattle.reference.proofs.Parts.{service_head_reads}
use Rattle.reference.proofs.Steps.{passed_on, after_no, after_ok, after_done, seen_ok, seen_no, seen_seen}
use Rattle.reference.proofs.Heads.{lite_cut, opened_no, opened_data, opened_known}
use Rattle.reference.specs.Places.{place_address, place_address_length, place_address_size, place_lite_components, place_lite_fixed, place_lite_order, place_name_count, place_service_header, place_service_tag}
use Rattle.table.specs.declared.Counts.{Counts}
use Rattle.read_parts.specs.Told.{fixed_told, part_told, body_told, body_kept, StoresBody}
use Rattle.read_parts.proofs.Fixed.{fixed_known}
use Rattle.read_parts.proofs.Moves.{octets_of_slice, moved}
use Rattle.read_lite.specs.declared.Head.{Head}
use Rattle.read_lite.specs.Told.{AddressIn, head_told, head_of, head_at, headed, StoresRest}

-- ---- a ServiceLocation, whose data stands at 10

module _ (d : List ℕ) (stop extras : ℕ) where
  abbrev told : Answer Head
  told = seen (head_of extras stop) (read_service_head d 10 stop)

  pub size_cut : {x : Refusal} → x ≡ cut_at place_address_length 10 1 stop → stop < 11 → refused x ≡ told
  unfolding read_service_head need
  size_cut e h = simp (e, lt-ltb)

  module _ {n : ℕ} (size : n ≡ be (part d 10 1)) (one : 11 ≤ stop) where
    pub size_wrong : {x : Refusal} → x ≡ wrong_at 4 place_address_size 10 → n ≢ 20 → refused x ≡ told
    unfolding read_service_head need checked
    size_wrong e h = simp (e, ← size, le-ltb, ne_eqb)

    module _ (twenty : n ≡ 20) where
      pub address_cut : {x : Refusal} → x ≡ cut_at place_address 11 20 stop → stop < 31 → refused x ≡ told
      unfolding read_service_head read_address need checked number after
      address_cut e h = simp (e, ← size, twenty, le-ltb, lt-ltb)

      module _ (room : 31 ≤ stop) where
        pub count_cut : {x : Refusal} → x ≡ cut_at place_name_count 31 4 stop → stop < 35 → refused x ≡ told
        unfolding read_service_head read_address read_count need checked number after done
        count_cut e h = simp (e, ← size, twenty, le-ltb, lt-ltb)

        pub service_read : {a : NsapAddress} {c : ℕ} → AddressIn d 11 a → c ≡ be (part d 31 4) → 35 ≤ stop → ok (record { address = a; names = c; extras = extras; stop = stop }) 35 ≡ told
        unfolding read_service_head read_address read_count need checked number after done
        service_read s c h =
            simp (← size, twenty, le-ltb)
            (λ j.
            let a : NsapAddress = record { carousel = s.carousel j; specifier0 = s.specifier0 j; specifier1 = s.specifier1 j; specifier2 = s.specifier2 j; transport_stream = s.transport j; original_network = s.network j; service = s.service j } in
            ok (record { address = a; names = c j; extras = extras; stop = stop }) 35)

-- ---- its component, and the two octets before it

module _ (d : List ℕ) (extras : ℕ) where
  abbrev part_told_lem : Answer Head
  part_told_lem = seen (λ s. head_of extras s.stop s.head) (read_service_part d 2 (length d))

  module _ (r : Told) (e : part_told 4 2 r ≡ read_part 4 tag_service place_service_header place_service_tag d 2 (length d)) where
    pub part_no : {x : Refusal} → r ≡ Err x → (w : Result Head Refusal) → IsErrAnd w (λ y. y ≡ x) → head_told w ≡ part_told_lem
    unfolding read_service_part
    part_no q w h =
        ap head_told (passed_on w h) ∙ sym (ap (seen _) (opened_no 4 tag_service place_service_header place_service_tag d 2 (length d) read_service_head (sym e ∙ ap (part_told 4 2) q)))

    pub part_data : {stop : ℕ} {x : Answer Head} → r ≡ Ok stop → x ≡ told d stop extras → x ≡ part_told_lem
    unfolding read_service_part
    part_data {stop} q h =
        h ∙ sym (ap (seen _) (opened_data 4 tag_service place_service_header place_service_tag d 2 (length d) read_service_head (sym e ∙ ap (part_told 4 2) q)) ∙ seen_seen _ _ (read_service_head d 10 stop))

module _ (d : List ℕ) (r : Told) (e : fixed_told r ≡ read_lite_fixed d 0 (length d)) where
  pub fixed_no : {x : Refusal} → r ≡ Err x → (w : Result Head Refusal) → IsErrAnd w (λ y. y ≡ x) → head_told w ≡ seen head_at (read_lite_head d 0 (length d))
  unfolding read_lite_head
  fixed_no q w h = ap head_told (passed_on w h) ∙ sym (ap (seen head_at) (after_no d 0 (length d) _ _ (sym e ∙ ap fixed_told q)))

  module _ {c : ℕ} (q : r ≡ Ok c) where
    pub one_at_least : ((k : ℕ) → Fits w8 (get_or d k 0)) → 1 ≤ c
    one_at_least octs = (fixed_known 1 place_lite_fixed place_lite_order place_lite_components d (length d) (octets_of_slice d (λ k. (octs k).fits)) (omega arith) (sym e ∙ ap fixed_told q)).1

    pub fixed_on : {x : Answer Head} → x ≡ part_told_lem d (c - 1) → x ≡ seen head_at (read_lite_head d 0 (length d))
    unfolding read_lite_head
    fixed_on h =
        h ∙ sym (ap (seen head_at) (after_ok d 0 (length d) _ _ (sym e ∙ ap fixed_told q) ∙ after_done d 2 (length d) read_service_part _) ∙ seen_seen _ head_at (read_service_part d 2 (length d)))

-- ---- what the code was told of the head

module _ (d : List ℕ) (r : Result Head Refusal) (e : head_told r ≡ seen head_at (read_lite_head d 0 (length d))) where
  -- the data is stored into t as profile i: that left t'
  module _ (at : ℕ) (t : List ℕ) (i : ℕ) (u : Counts) (t' : List ℕ) where
    abbrev Stored : Result Counts Refusal → Type 0
    Stored v = StoresBody at t i u (seen (λ l. lite l) (read_lite d 0 (length d))) (length d) t' v

    pub head_no : {x : Refusal} → r ≡ Err x → (w : Result Counts Refusal) → IsErrAnd w (λ y. y ≡ x) → Stored w
    head_no q w h = record { told = ap (body_told (length d) t') (passed_on w h) ∙ rw (lite_cut, after_no d 0 (length d) read_lite_head read_lite_rest (seen_no head_at _ (sym e ∙ ap head_told q))) }

    pub head_on : {h : Head} {v : Result Counts Refusal} → r ≡ Ok h → StoresRest at t i u h d t' v → Stored v
    head_on q s =
        let (h, f, w) = seen_ok head_at (read_lite_head d 0 (length d)) (sym e ∙ ap head_told q) in
        let same = ap (λ (x : Head). body_kept at t i u (seen (λ l. lite l) (read_lite_rest (headed x h.address) d 35 (length d)))) w in
        record { told = rw (lite_cut, after_ok d 0 (length d) read_lite_head read_lite_rest f) ((s h.address (ap (λ (x : Head). x.address) (sym w))).told ∙ same) }

  -- where the names and the extras stand, and how many extras there are at most
  module _ {h : Head} (q : r ≡ Ok h) (octs : (k : ℕ) → Fits w8 (get_or d k 0)) where
    known : (35 ≤ h.stop) × (h.stop ≤ length d) × (h.extras ≤ 255)
    unfolding read_lite_head read_service_part after done
    known =
        let o = octets_of_slice d (λ k. (octs k).fits) in
        let (h, f, w) = seen_ok head_at (read_lite_head d 0 (length d)) (sym e ∙ ap head_told q) in
        let (c, p, pc, g) = followed_ok (read_lite_fixed d 0 (length d)) _ f in
        let (two, least, small, ep) = fixed_known 1 place_lite_fixed place_lite_order place_lite_components d (length d) o (omega arith) pc in
        let (s, last, ps, g') = followed_ok (read_service_part d p (length d)) _ g in
        let (read, from, to) = opened_known 4 tag_service place_service_header place_service_tag read_service_head d p (length d) ps in
        let room = (moved service_head_reads d (p + 8) s.stop o from to read).0 in
        let eh : record { address = s.head.address; names = s.head.names; extras = c - 1; stop = s.stop } ≡ h = cc in
        let en : last ≡ 35 = cc in
        let es = ap (λ (x : LiteHead). x.stop) eh in
        let ee = ap (λ (x : LiteHead). x.extras) eh in
        let ws = ap (λ (x : Head). x.stop) w in
        let we = ap (λ (x : Head). x.extras) w in
        (omega arith, omega arith, omega arith)

    pub head_low : 35 ≤ h.stop
    head_low = known.0

    pub head_inside : h.stop ≤ length d
    head_inside = known.1

    pub extras_few : h.extras ≤ 255
    extras_few = known.2
