-- The readers that are cut are those that are not: head and rest together, for each part. And what they answer, one equation for each case of
-- code that is cut where they are. Assumes nothing.
use Prim.Native.Nat.{ℕ, ◌+◌, ◌-◌, ◌<◌, ◌≤◌}
use mathlib.Core.Path.{◌≡◌, ap, ◌∙◌, sym, subst}
use mathlib.Core.Bool.{not}
use mathlib.Core.List.{List}
use mathlib.Core.Logic.{◌≢◌}
use native.Mathlib.Nat.{sub-zero}
use native.Mathlib.Omega.{arith}
use lib.ListN.{length}
use lib.Seq.{take_all}
use lib.Dec.{T, ltb, nltb→le, eqb, eqb→eq, eqb_refl, not_T}
use Rattle.octets.specs.Octets.{part, be}
use Rattle.reference.specs.declared.TypeIdRule.{TypeIdRule}
use Rattle.reference.specs.declared.Refusal.{Refusal}
use Rattle.reference.specs.Meaning.{biop, lite, opaque, Reference}
use Rattle.reference.specs.Layout.{tag_biop, tag_lite}
use Rattle.reference.specs.Places.{place_reference_leftover, place_profile_header}
use Rattle.reference.specs.Refusals.{cut_at, left_at, long_at, wrong_at}
use Rattle.reference.specs.Steps.{Answer, ok, refused, Reader, pick, followed, seen, outward, done, need, number, checked, run, rest, choose, ending, within, fits, apart, many, after}
use Rattle.reference.specs.Reader.{read_count, read_run, read_named, component, read_binder, read_biop, read_lite, read_body, read_profile, read_reference, roomy, small, read_leading, read_whole}
use Rattle.reference.specs.Heads.{edge, before, read_part, Opened, opened, read_binder_head, read_biop_head, read_biop_rest, read_service_part, read_lite_head, read_lite_rest, Header, read_header, Head, read_head}
use Rattle.reference.proofs.Laws.{guard_ok, guard_pass, pass_ok, pass_pass, followed_ok}
use Rattle.reference.proofs.Parts.{service_headed}
use Rattle.reference.proofs.Steps.{need_cut, need_pass, run_cut, run_pass, after_no, after_ok, after_done, guarded_then, passed_then, followed_followed}

unequal : {m n : ℕ} → m ≢ n → T (not (eqb m n))
unequal {m} {n} h = not_T (eqb m n) (λ t. h (eqb→eq m n t))

equal : {m n : ℕ} → m ≡ n → T (eqb m n)
equal {m} {n} e = rw e (eqb_refl n)

-- ---- head and rest are the part

pub component_cut : {A : Type 0} (w tag header wrong : ℕ) (r : Reader A) (d : List ℕ) (pos end : ℕ)
    → component w tag header wrong r d pos end ≡ after (read_part w tag header wrong) (λ stop. before stop r) d pos end
unfolding component read_part after need checked number within edge before
component_cut w tag header wrong r d pos end = simp (guarded_then, passed_then)

pub biop_cut : (d : List ℕ) (pos end : ℕ) → read_biop d pos end ≡ after read_biop_head read_biop_rest d pos end
unfolding read_biop read_binder read_biop_head read_binder_head opened after before done
biop_cut d pos end = simp (component_cut, followed_followed)

pub lite_cut : (d : List ℕ) (pos end : ℕ) → read_lite d pos end ≡ after read_lite_head read_lite_rest d pos end
unfolding read_lite read_lite_head read_service_part opened after before done
lite_cut d pos end = simp (component_cut, service_headed, followed_followed)

pub profile_cut : (d : List ℕ) (pos end : ℕ) → read_profile d pos end ≡ after read_header (λ h. apart h.size (read_body h.tag)) d pos end
unfolding read_profile read_header after need number fits done
profile_cut d pos end = simp guarded_then

module _ (rule : TypeIdRule) where
  pub reference_cut : (d : List ℕ) (pos end : ℕ)
      → read_reference rule d pos end ≡ after (read_head rule) (λ h. after (many h.count read_profile) λ l. done (record { type_id = h.type_id; profiles = l })) d pos end
  unfolding read_reference read_head need checked number run after done
  reference_cut d pos end = simp (guarded_then, passed_then, followed_followed)

-- ---- a count, and a run behind its length, of w octets

module _ (w place : ℕ) (d : List ℕ) (pos end : ℕ) where
  pub count_cut : end < pos + w → read_count w place d pos end ≡ refused (cut_at place pos w end)
  unfolding read_count
  count_cut h = need_cut d pos end w place _ h

  pub count_read : pos + w ≤ end → read_count w place d pos end ≡ ok (be (part d pos w)) (pos + w)
  unfolding read_count number done
  count_read h = need_pass d pos end w place _ h

  pub length_cut : end < pos + w → read_run w place d pos end ≡ refused (cut_at place pos w end)
  unfolding read_run
  length_cut h = need_cut d pos end w place _ h

  module _ (room : pos + w ≤ end) where
    pub run_over : end - (pos + w) < be (part d pos w) → read_run w place d pos end ≡ refused (long_at (pos + w) (be (part d pos w)) end)
    unfolding read_run number
    run_over o = need_pass d pos end w place _ room ∙ run_cut d (pos + w) end (be (part d pos w)) _ o

    pub run_read : be (part d pos w) ≤ end - (pos + w) → read_run w place d pos end ≡ ok (part d (pos + w) (be (part d pos w))) (pos + w + be (part d pos w))
    unfolding read_run number done
    run_read o = need_pass d pos end w place _ room ∙ run_pass d (pos + w) end (be (part d pos w)) _ o

-- ---- a name

module _ (w id_place kind_place : ℕ) (d : List ℕ) (pos end : ℕ) where
  pub name_no_id : {x : Refusal} → read_run w id_place d pos end ≡ refused x → read_named w id_place kind_place d pos end ≡ refused x
  unfolding read_named
  name_no_id e = after_no d pos end (read_run w id_place) _ e

  module _ {i : List ℕ} {mid : ℕ} (e : read_run w id_place d pos end ≡ ok i mid) where
    pub name_no_kind : {x : Refusal} → read_run w kind_place d mid end ≡ refused x → read_named w id_place kind_place d pos end ≡ refused x
    unfolding read_named
    name_no_kind q = after_ok d pos end (read_run w id_place) _ e ∙ after_no d mid end (read_run w kind_place) _ q

    pub name_read : {k : List ℕ} {next : ℕ} → read_run w kind_place d mid end ≡ ok k next → read_named w id_place kind_place d pos end ≡ ok (record { id = i; kind = k }) next
    unfolding read_named done
    name_read q = after_ok d pos end (read_run w id_place) _ e ∙ after_ok d mid end (read_run w kind_place) _ q

-- ---- a component: its header, and its data

module _ (w tag header wrong : ℕ) (d : List ℕ) (pos end : ℕ) where
  -- where the data stands
  pub part_known : {stop start : ℕ} → read_part w tag header wrong d pos end ≡ ok stop start → (start ≡ pos + (4 + w)) × (start ≤ stop) × (stop ≤ end)
  unfolding read_part need number checked within edge
  part_known {stop} {start} e =
      let p = pos + 4 + w in
      let n = be (part d (pos + 4) w) in
      let (a, f) = guard_ok (ltb end (pos + (4 + w))) (cut_at header pos (4 + w) end) _ e in
      let (b, g) = pass_ok (eqb (be (part d pos 4)) tag) _ (wrong_at 3 wrong pos) f in
      let (c, k) = guard_ok (ltb (end - p) n) (long_at p n end) (ok (p + n) p) g in
      let s : p + n ≡ stop = cc in
      let q : p ≡ start = cc in
      let h : pos + (4 + w) ≤ end = nltb→le end (pos + (4 + w)) a in
      let m : n ≤ end - p = nltb→le (end - p) n c in
      (omega arith, omega arith, omega arith)

  module _ {A : Type 0} (r : Reader A) where
    pub component_no : {x : Refusal} → read_part w tag header wrong d pos end ≡ refused x → component w tag header wrong r d pos end ≡ refused x
    component_no e = component_cut w tag header wrong r d pos end ∙ after_no d pos end (read_part w tag header wrong) _ e

    pub opened_no : {x : Refusal} → read_part w tag header wrong d pos end ≡ refused x → opened w tag header wrong r d pos end ≡ refused x
    unfolding opened
    opened_no e = after_no d pos end (read_part w tag header wrong) _ e

    module _ {stop start : ℕ} (e : read_part w tag header wrong d pos end ≡ ok stop start) where
      pub component_data : component w tag header wrong r d pos end ≡ r d start stop
      unfolding before
      component_data = component_cut w tag header wrong r d pos end ∙ after_ok d pos end (read_part w tag header wrong) _ e

      pub opened_data : opened w tag header wrong r d pos end ≡ seen (λ a. record { head = a; stop = stop }) (r d start stop)
      unfolding opened before
      opened_data = after_ok d pos end (read_part w tag header wrong) _ e ∙ after_done d start stop r _

-- what a beginning that was read tells
pub opened_known : {A : Type 0} (w tag header wrong : ℕ) (r : Reader A) (d : List ℕ) (pos end : ℕ) {o : Opened A} {next : ℕ} → opened w tag header wrong r d pos end ≡ ok o next
    → (r d (pos + (4 + w)) o.stop ≡ ok o.head next) × (pos + (4 + w) ≤ o.stop) × (o.stop ≤ end)
unfolding opened after before done
opened_known {A} w tag header wrong r d pos end {o} {next} e =
    let (stop, start, p, q) = followed_ok (read_part w tag header wrong d pos end) (λ stop start. followed (r d start stop) (λ a n. ok (record { head = a; stop = stop }) n)) e in
    let (a, n, p', q') = followed_ok (r d start stop) (λ a n. ok (record { head = a; stop = stop }) n) q in
    let (s, f, u) = part_known w tag header wrong d pos end p in
    let v : record { head = a; stop = stop } ≡ o = cc in
    let w' : n ≡ next = cc in
    let x : Opened A = record { head = a; stop = stop } in
    let it : (r d (pos + (4 + w)) x.stop ≡ ok x.head next) × (pos + (4 + w) ≤ x.stop) × (x.stop ≤ end) =
    (ap (λ (k : ℕ). r d k stop) (sym s) ∙ p' ∙ ap (ok a) w', omega arith, u) in
    subst (λ (x : Opened A). (r d (pos + (4 + w)) x.stop ≡ ok x.head next) × (pos + (4 + w) ≤ x.stop) × (x.stop ≤ end)) v it

-- ---- a profile: its header, and its data

module _ (d : List ℕ) (pos end : ℕ) where
  -- where the data stands
  pub header_known : {h : Header} {next : ℕ} → read_header d pos end ≡ ok h next → (next ≡ pos + 8) × (next + h.size ≤ end)
  unfolding read_header need number fits done
  header_known {h} {next} e =
      let n = be (part d (pos + 4) 4) in
      let (a, f) = guard_ok (ltb end (pos + 8)) (cut_at place_profile_header pos 8 end) _ e in
      let (b, g) = guard_ok (ltb (end - (pos + 4 + 4)) n) (long_at (pos + 4 + 4) n end) _ f in
      let room : pos + 8 ≤ end = nltb→le end (pos + 8) a in
      let size : n ≤ end - (pos + 4 + 4) = nltb→le (end - (pos + 4 + 4)) n b in
      let q : pos + 4 + 4 ≡ next = cc in
      let v : record { tag = be (part d pos 4); size = n } ≡ h = cc in
      (omega arith, omega (arith, ap (λ (x : Header). x.size) v))

  pub profile_no : {x : Refusal} → read_header d pos end ≡ refused x → read_profile d pos end ≡ refused x
  profile_no e = profile_cut d pos end ∙ after_no d pos end read_header _ e

  pub profile_data : {h : Header} {next : ℕ} → read_header d pos end ≡ ok h next → read_profile d pos end ≡ outward next h.size (read_body h.tag (part d next h.size) 0 h.size)
  unfolding apart
  profile_data e = profile_cut d pos end ∙ after_ok d pos end read_header _ e

module _ (t : ℕ) (s : List ℕ) (n : ℕ) where
  pub body_biop : t ≡ tag_biop → read_body t s 0 n ≡ seen biop (read_biop s 0 n)
  unfolding read_body choose
  body_biop e = pass_pass (eqb t tag_biop) _ _ (equal e) ∙ after_done s 0 n read_biop biop

  module _ (not_biop : t ≢ tag_biop) where
    pub body_lite : t ≡ tag_lite → read_body t s 0 n ≡ seen lite (read_lite s 0 n)
    unfolding read_body choose
    body_lite e = guard_pass (eqb t tag_biop) _ _ (unequal not_biop) ∙ pass_pass (eqb t tag_lite) _ _ (equal e) ∙ after_done s 0 n read_lite lite

    pub body_opaque : t ≢ tag_lite → n ≡ length s → read_body t s 0 n ≡ ok (opaque t s) n
    unfolding read_body choose rest done
    body_opaque h e =
        guard_pass (eqb t tag_biop) _ _ (unequal not_biop) ∙ guard_pass (eqb t tag_lite) _ _ (unequal h)
        ∙ ap (λ (x : List ℕ). ok (opaque t x) n) (ap (λ (k : ℕ). part s 0 k) (sub-zero n) ∙ take_all n s (omega arith))

-- ---- a reference: what stands before its profiles, and these

-- the profiles behind a head, and what is asked of the whole
abbrev pub profiles_behind : (Reference → ℕ → Answer Reference) → List ℕ → Head → ℕ → Answer Reference
profiles_behind ask d h next = followed (many h.count read_profile d next (length d)) (λ l last. ask (record { type_id = h.type_id; profiles = l }) last)

module _ (rule : TypeIdRule) where
  -- 6, the head, the profiles, 7
  pub leading_cut : (d : List ℕ) → read_leading rule d ≡ followed (small d (read_head rule d 0 (length d))) (profiles_behind roomy d)
  unfolding read_leading after done
  leading_cut d = simp (reference_cut rule, guarded_then, followed_followed)

  -- the same, with what is left over asked for before 7
  pub whole_cut : (d : List ℕ)
      → read_whole rule d ≡ followed (small d (read_head rule d 0 (length d))) (profiles_behind (λ m last. followed (pick (eqb last (length d)) (ok m last) (refused (left_at place_reference_leftover last (length d)))) roomy) d)
  unfolding read_whole ending after done
  whole_cut d = simp (reference_cut rule, guarded_then, followed_followed)
