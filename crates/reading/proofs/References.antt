-- A reference is what stands before its profiles, the profiles, and the checks behind them: one law for each case of the code. The premises are what the
-- code knows there, so that a proof only names the law. Assumes nothing.
use Rattle.reading.specs.Into.{ReadInto}
use Prim.Native.Nat.{ℕ, ◌≤◌}
use mathlib.Core.Path.{◌≡◌, sym, ap, ◌∙◌, subst}
use mathlib.Core.Bool.{Bool, true, false}
use mathlib.Core.List.{List, []}
use native.Mathlib.Nat.{zero-add}
use native.Mathlib.Omega.{arith}
use mir.Syntax.{w8}
use mir.Val.{Fits}
use lib.Dec.{ltb, nltb→le, eqb}
use lib.ListN.{replicate, length, get_or}
use Rattle.reference.specs.declared.TypeIdRule.{TypeIdRule}
use Rattle.octets.specs.Octets.{splice}
use Rattle.reference.specs.declared.Refusal.{Refusal}
use Rattle.reference.specs.Refusals.{Check}
use Rattle.std.specs.Prelude.{Result, Ok, Err, IsErrAnd}
use Rattle.reference.specs.Refusals.{Told}
use Rattle.reference.specs.Meaning.{Profile, Reference, taps_of, names_of, extras_of, sum}
use Rattle.reference.specs.Steps.{Answer, ok, refused, followed, seen, many}
use Rattle.reference.specs.Reader.{read_profile}
use Rattle.reference.specs.Placed.{profiles_at}
use Rattle.reference.proofs.Laws.{guard_ok, pass_ok, reads_many}
use Rattle.reference.proofs.Parts.{profile_reads}
use Rattle.reference.proofs.Steps.{passed_on, guarded_then, passed_then, seen_ok, seen_no}
use Rattle.reference.proofs.Heads.{profiles_behind, leading_cut, whole_cut}
use Rattle.table.specs.declared.Counts.{Counts}
use Rattle.table.specs.Flat.{table_size, front_numbers}
use Rattle.table.specs.Filed.{profiles_filed, no_counts, reference_filed}
use Rattle.read_parts.specs.Told.{Filled}
use Rattle.read_parts.proofs.Moves.{octets_of_slice}
use Rattle.reading.specs.declared.Opening.{Opening}
use Rattle.reading.specs.Open.{opening, Opens, HeadIn, rooms, ends, passing, read_as}
use Rattle.reading.specs.Stored.{profiles_told, filled_from, StoresProfiles, open_told, Leaves}
use Rattle.reading.proofs.Filing.{followed_seen}

-- ---- the checks behind the profiles

-- what follows an answer comes after them
ends_then : {A B : Type 0} (whole : Bool) (next end p t n e : ℕ) (x : Answer A) (f : A → ℕ → Answer B) → followed (ends whole next end p t n e x) f ≡ ends whole next end p t n e (followed x f)
unfolding ends
ends_then true next end p t n e x f = simp (guarded_then, passed_then)
ends_then false next end p t n e x f = simp guarded_then

rooms_fit : (p t n e : ℕ) → rooms {A = List ℕ} p t n e (ok [] 0) ≡ ok [] 0 → (p ≤ 8) × (t ≤ 36) × (n ≤ 32) × (e ≤ 32)
rooms_fit p t n e q =
    let (a, f) = guard_ok (ltb 8 p) _ _ q in
    let (b, g) = guard_ok (ltb 36 t) _ _ f in
    let (c, h) = guard_ok (ltb 32 n) _ _ g in
    (nltb→le 8 p a, nltb→le 36 t b, nltb→le 32 n c, nltb→le 32 e (guard_ok (ltb 32 e) _ _ h).0)

ends_fit : (whole : Bool) (next end p t n e : ℕ) → ends {A = List ℕ} whole next end p t n e (ok [] 0) ≡ ok [] 0 → (p ≤ 8) × (t ≤ 36) × (n ≤ 32) × (e ≤ 32)
unfolding ends
ends_fit true next end p t n e q = rooms_fit p t n e (pass_ok (eqb next end) _ _ q).1
ends_fit false next end p t n e q = rooms_fit p t n e q

module _ (whole : Bool) (last end p t n e : ℕ) (r : Check) (told : (x : Answer (List ℕ)) → passing r x ≡ ends whole last end p t n e x) where
  ended : (x : Answer (List ℕ)) {k : Check} → r ≡ k → passing k x ≡ ends whole last end p t n e x
  ended x q = ap (λ (k : Check). passing k x) (sym q) ∙ told x

  pub end_fits : r ≡ Ok tt → (p ≤ 8) × (t ≤ 36) × (n ≤ 32) × (e ≤ 32)
  end_fits q = ends_fit whole last end p t n e (sym (ended (ok [] 0) q))

  pub end_refused : (x : Answer (List ℕ)) {y : Refusal} {left : List ℕ} → r ≡ Err y → (w : Told) → IsErrAnd w (λ z. z ≡ y) → Leaves (ends whole last end p t n e x) left w
  end_refused x {left = left} q w f = record { told = ap (open_told left) (passed_on w f) ∙ ended x q }

  pub end_passed : (s : List ℕ) {left : List ℕ} → r ≡ Ok tt → left ≡ s → Leaves (ends whole last end p t n e (ok s last)) left (Ok last)
  end_passed s q f = record { told = ap (λ (y : List ℕ). ok y last) f ∙ ended (ok s last) q }

-- ---- the whole reading

-- the checks of a reference that ends at last
abbrev asked : Bool → List ℕ → Reference → ℕ → Answer Reference
asked whole d m last = ends whole last (length d) (length m.profiles) (sum taps_of m.profiles) (sum names_of m.profiles) (sum extras_of m.profiles) (ok m last)

module _ (rule : TypeIdRule) where
  reading_opened : (whole : Bool) (d : List ℕ) → read_as rule whole d ≡ followed (opening rule d) (profiles_behind (asked whole d) d)
  unfolding ends
  reading_opened true d = simp (whole_cut rule, passed_then)
  reading_opened false d = leading_cut rule d

  module _ (whole : Bool) (d t : List ℕ) (r : Result Opening Refusal) (o : HeadIn rule d r) where
    abbrev Left : List ℕ → Told → Type 0
    Left e v = Leaves (seen (reference_filed rule t) (read_as rule whole d)) e v

    pub no_head : {x : Refusal} {e : List ℕ} → r ≡ Err x → (w : Told) → IsErrAnd w (λ y. y ≡ x) → Left e w
    no_head {x} q w p = let no : opening rule d ≡ refused x = subst (HeadIn rule d) q o in record { told = rw (passed_on w p, reading_opened whole d, no) }

    module _ {h : Opening} (q : r ≡ Ok h) where
      opens : Opens rule d h.type_id h.count h.next
      opens = subst (HeadIn rule d) q o

      pub slice_small : length d ≤ 65535
      slice_small = opens.small

      pub profiles_inside : h.next ≤ length d
      profiles_inside = opens.inside

      module _ {t' : List ℕ} (w : Result (Counts × ℕ) Refusal) (p : StoresProfiles h.next t (many h.count read_profile d h.next (length d)) t' w) where
        pub no_profiles_lem : {x : Refusal} {e : List ℕ} → w ≡ Err x → (k : Told) → IsErrAnd k (λ y. y ≡ x) → Left e k
        no_profiles_lem f k g = record { told = rw (passed_on k g, reading_opened whole d, opens.read, seen_no (filled_from h.next t 0 no_counts) (many h.count read_profile d h.next (length d)) (sym p.told ∙ ap (profiles_told t') f)) }

        module _ {u : Counts} {last : ℕ} (f : w ≡ Ok (u, last)) (octs : (k : ℕ) → Fits w8 (get_or d k 0)) where
          -- the profiles end inside, are as many as the head says, and are filed
          read : (l : List Profile) × (many h.count read_profile d h.next (length d) ≡ ok l last) × (record { table = t'; counts = u } ≡ filled_from h.next t 0 no_counts l) × (last ≤ length d) × (length l ≡ h.count)
          read =
              let (l, e, s) = seen_ok (filled_from h.next t 0 no_counts) _ (sym p.told ∙ ap (profiles_told t') f) in
              let (found, good) =
              (reads_many profile_reads h.count).sound d h.next (length d) (record { octs = octets_of_slice d (λ k. (octs k).fits); fits = omega arith; room = omega (arith, profiles_inside) }) l last e in
              (l, e, s, found.room, good.1)

          pub last_inside : last ≤ length d
          last_inside = read.3

          -- the front is put over the profiles, if the checks pass
          pub closed : {e : List ℕ} {k : Told}
              → Leaves (ends whole last (length d) h.count u.taps u.names u.extras (ok (splice t' 0 (front_numbers h.type_id h.count u.taps u.names u.extras)) last)) e k → Left e k
          closed c =
              let (l, profiles, s, _, n) = read in
              let m : Reference = record { type_id = opens.id; profiles = l } in
              let whole-read : read_as rule whole d ≡ asked whole d m last = rw (reading_opened whole d, opens.read, profiles) in
              let counts : Counts = record { taps = sum taps_of l; names = sum names_of l; extras = sum extras_of l } in
              let filed : ◌≡◌ {A = Filled} (record { table = t'; counts = u }) (record { table = profiles_filed (profiles_at rule m) t 0 no_counts l; counts = counts }) =
              s ∙ (λ j. record { table = profiles_filed (opens.behind j) t 0 no_counts l; counts = record { taps = zero-add counts.taps j; names = zero-add counts.names j; extras = zero-add counts.extras j } }) in
              record {
                told =
                    c.told
                    ∙ (λ j. ends whole last (length d) (sym n j) (filed j).counts.taps (filed j).counts.names (filed j).counts.extras
                    (ok (splice (filed j).table 0 (front_numbers (opens.shown j) (sym n j) (filed j).counts.taps (filed j).counts.names (filed j).counts.extras)) last))
                    ∙ sym (followed_seen (reference_filed rule t) (read_as rule whole d)
                    ∙ ap (λ (x : Answer Reference). followed x (λ a n. ok (reference_filed rule t a) n)) whole-read ∙ ends_then whole last (length d) _ _ _ _ (ok m last) _);
              }

  -- ---- what is left once a refused table is cleared

  module _ (x : Answer Reference) {t e : List ℕ} (r : Told) (h : Leaves (seen (reference_filed rule t) x) e r) where
    pub read_kept : {n : ℕ} → r ≡ Ok n → ReadInto rule x t e (Ok n)
    read_kept q =
        let (m, p, f) = seen_ok (reference_filed rule t) x (sym h.told ∙ ap (open_told e) q) in
        record { answers = rw p; leaves = rw p f }

    pub read_cleared : {y : Refusal} {e' : List ℕ} → r ≡ Err y → e' ≡ replicate table_size 0 → ReadInto rule x t e' (Err y)
    read_cleared q z =
        let p = seen_no (reference_filed rule t) x (sym h.told ∙ ap (open_told e) q) in
        record { answers = rw p; leaves = rw p z }
