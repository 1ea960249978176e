-- What an accepted whole reading and its lent table say of the type id and the profiles: the type id stands behind the first four octets.
-- Assumes nothing.
use Prim.Native.Nat.{ℕ, ◌+◌, ◌-◌, ◌%◌, ◌≤◌}
use native.Mathlib.Nat.{add-sub_cancel_left}
use mathlib.Core.Path.{◌≡◌, refl, sym, ap, ◌∙◌}
use mathlib.Core.Bool.{Bool}
use mathlib.Core.List.{List}
use native.Mathlib.Omega.{arith}
use lib.Dec.{ltb, eqb, nltb→le}
use lib.ListN.{length, get_or}
use Rattle.octets.specs.Octets.{part, be, splice}
use Rattle.octets.proofs.Part.{length_part}
use Rattle.reference.specs.declared.TypeIdRule.TheVariants.{Multiple}
use Rattle.reference.specs.declared.Refusal.{Refusal}
use Rattle.reference.specs.Refusals.{Told}
use Rattle.std.specs.Prelude.{Ok, Err}
use Rattle.reference.specs.Meaning.{Reference, taps_of, names_of, extras_of, sum}
use Rattle.reference.specs.Steps.{Answer, ok, need, checked, number, run, after, done, many, ending}
use Rattle.reference.specs.Places.{place_profile_count, place_reference_leftover}
use Rattle.reference.specs.Reader.{roomy, read_count, read_profile, read_gap, read_reference, read_whole}
use Rattle.reference.specs.declared.ObjectKind.{ObjectKind}
use Rattle.reference.specs.Questions.{kind_of}
use Rattle.reference.proofs.Laws.{guard_ok, pass_ok, followed_ok}
use Rattle.reference.proofs.Blame.{whole_points}
use Rattle.reference.proofs.Promised.{counts, refuses}
use Rattle.table.specs.Filed.{reference_filed}
use Rattle.reading.specs.Into.{ReadInto, table_left}
use Rattle.rows.specs.Rows.{found_text, refused_text, answer_text}

-- the type id that a reference's reader found
found : (d : List ℕ) (end : ℕ) {m : Reference} {n : ℕ} → read_reference Multiple d 0 end ≡ ok m n → (4 + be (part d 0 4) ≤ end) × (m.type_id ≡ part d 4 (be (part d 0 4)))
unfolding read_reference need checked number run after done
found d end {m} {n} e =
    let k : ℕ = be (part d 0 4) in
    let a = guard_ok (ltb end 8) _ _ e in
    let b = pass_ok (eqb (k % 4) 0) _ _ a.1 in
    let c = guard_ok (ltb (end - 4) k) _ _ b.1 in
    let x = followed_ok (read_gap Multiple k d (4 + k) end) _ c.1 in
    let f = followed_ok (read_count 4 place_profile_count d x.1 end) _ x.3 in
    let g = followed_ok (many f.0 read_profile d f.1 end) _ f.3 in
    let q : record { type_id = part d 4 k; profiles = g.0 } ≡ m = cc g.3 in
    (omega (arith, nltb→le end 8 a.0, nltb→le (end - 4) k c.0), sym (ap (λ (r : Reference). r.type_id) q))

-- 7 changes nothing of what it lets pass
passed : (m : Reference) (next : ℕ) {a : Reference} {n : ℕ} → roomy m next ≡ ok a n → m ≡ a
passed m next {a} {n} e =
    let p = (guard_ok (ltb 8 (length m.profiles)) _ _ e).1 in
    let t = (guard_ok (ltb 36 (sum taps_of m.profiles)) _ _ p).1 in
    let s = (guard_ok (ltb 32 (sum names_of m.profiles)) _ _ t).1 in
    let x = (guard_ok (ltb 32 (sum extras_of m.profiles)) _ _ s).1 in
    cc x

-- an accepted whole reading shows its type id from offset 4 on
pub type_id_stands : (d : List ℕ) {m : Reference} {n : ℕ} → read_whole Multiple d ≡ ok m n → (4 + length m.type_id ≤ length d) × (part d 4 (length m.type_id) ≡ m.type_id)
unfolding read_whole ending
type_id_stands d {m} {n} e =
    let k : ℕ = be (part d 0 4) in
    let w = followed_ok (ending place_reference_leftover (read_reference Multiple) d 0 (length d)) roomy (guard_ok (ltb 65535 (length d)) _ _ e).1 in
    let r = followed_ok (read_reference Multiple d 0 (length d)) _ w.2 in
    let o = (pass_ok (eqb r.1 (length d)) _ _ r.3).1 in
    let same : r.0 ≡ m = cc o ∙ passed w.0 w.1 w.3 in
    let f = found d (length d) r.2 in
    let room : 4 + k ≤ length d = f.0 in
    let t : m.type_id ≡ part d 4 k = ap (λ (x : Reference). x.type_id) (sym same) ∙ f.1 in
    let l : length m.type_id ≡ k = ap length t ∙ length_part d 4 k room in
    (omega arith, ap (part d 4) l ∙ sym t)

-- a whole reading into a lent table t, which left e: what its row says
module _ (s : List ℕ) {t e : List ℕ} {r : Told} (h : ReadInto Multiple (read_whole Multiple s) t e r) where
  pub row_refused : {y : Refusal} → r ≡ Err y → (asked : Bool) (start : ℕ) → refused_text asked start y ≡ answer_text asked start (read_whole Multiple s)
  unfolding answer_text
  row_refused {y} q asked start = let x = refuses Multiple (read_whole Multiple s) y (sym h.answers ∙ q) in rw x refl

  pub offset_inside : {y : Refusal} → r ≡ Err y → y.offset ≤ length s
  offset_inside {y} q = (whole_points Multiple s y (refuses Multiple (read_whole Multiple s) y (sym h.answers ∙ q))).inside

  module _ {k : ℕ} (q : r ≡ Ok k) where
    pub meaning : (m : Reference) × (read_whole Multiple s ≡ ok m k)
    meaning = counts Multiple (read_whole Multiple s) k (sym h.answers ∙ q)

    left : e ≡ reference_filed Multiple t meaning.0
    left = h.leaves ∙ ap (λ (x : Answer Reference). table_left Multiple x t) meaning.1

    pub type_id_at : get_or e 0 0 ≡ 4
    unfolding splice
    type_id_at = ap (λ (x : List ℕ). get_or x 0 0) left

    pub type_id_long : get_or e 1 0 ≡ length meaning.0.type_id
    unfolding splice
    type_id_long = ap (λ (x : List ℕ). get_or x 1 0) left

    pub profiles_used_lem : get_or e 2 0 ≡ length meaning.0.profiles
    unfolding splice
    profiles_used_lem = ap (λ (x : List ℕ). get_or x 2 0) left

    pub view_inside : get_or e 0 0 + get_or e 1 0 ≤ length s
    view_inside = omega (arith, type_id_at, type_id_long, (type_id_stands s meaning.1).0)

    pub row_found : {d : ObjectKind} → d ≡ kind_of (part s (get_or e 0 0) (get_or e 0 0 + get_or e 1 0 - get_or e 0 0)) → (asked : Bool) (start : ℕ)
        → found_text d (get_or e 2 0) ≡ answer_text asked start (read_whole Multiple s)
    unfolding answer_text
    row_found {d} p asked start =
        let m : Reference = meaning.0 in
        let shown : part s (get_or e 0 0) (get_or e 0 0 + get_or e 1 0 - get_or e 0 0) ≡ m.type_id =
        rw (type_id_at, type_id_long) (ap (part s 4) (add-sub_cancel_left 4 (length m.type_id)) ∙ (type_id_stands s meaning.1).1) in
        ap (λ (x : ObjectKind). found_text x (get_or e 2 0)) (p ∙ ap kind_of shown) ∙ ap (found_text (kind_of m.type_id)) profiles_used_lem ∙ ap (answer_text asked start) (sym meaning.1)
