-- What reading and writing a name answer, one equation for each case of the code. Assumes nothing.
use Prim.Native.Nat.{ℕ, ◌+◌, ◌<◌, ◌≤◌}
use mathlib.Core.Path.{◌≡◌, sym, ap, ◌∙◌}
use mathlib.Core.List.{List, ◌++◌, append_assoc, append-nil}
use native.Mathlib.Nat.{zero-add}
use native.Mathlib.Omega.{arith}
use lib.ListN.{length}
use lib.Dec.{ltb, lt→ltb}
use Rattle.octets.specs.Octets.{octets, splice}
use Rattle.octets.specs.Put.{Put}
use Rattle.reference.specs.declared.View.{View}
use Rattle.reference.specs.declared.Refusal.{Refusal}
use Rattle.reference.specs.declared.NameComponent.{NameComponent}
use Rattle.reference.specs.Refusals.{Check, Told}
use Rattle.std.specs.Prelude.{Ok, Err, IsErrAnd}
use Rattle.reference.specs.Steps.{Answer, refused, seen}
use Rattle.reference.specs.Places.{place_short_id_length, place_short_kind_length}
use Rattle.reference.specs.Refusals.{refusal}
use Rattle.reference.specs.Layout.{layout_named}
use Rattle.reference.specs.Reader.{read_named}
use Rattle.reference.specs.Contents.{shown}
use Rattle.reference.specs.Placed.{view}
use Rattle.reference.specs.Checks.{both}
use Rattle.reference.specs.Writer.{room_check, view_check, short_check, told, left}
use Rattle.reference.specs.Names.{read_short, read_short_name, short_at, short_size, short_image, short_name_check, short_written, short_leaves}
use Rattle.reference.proofs.Laws.{pass_pass}
use Rattle.reference.proofs.Steps.{passed_on}
use Rattle.reference.proofs.Checks.{stop, go, passed, le_test, lt_test}
use Rattle.reference.proofs.Accept.{small_pass}
use Rattle.reference.proofs.Sizes.{length_shown}
use Rattle.reference.proofs.Names.{Passing, passing}
use Rattle.read_parts.specs.Told.{named_at}
use Rattle.names.specs.Writes.{Writes}

-- ---- reading

pub name_large : (d : List ℕ) {x : Refusal} → x ≡ refusal 6 0 (length d) 65535 → 65535 < length d → refused x ≡ seen short_at (read_short_name d)
unfolding read_short_name
name_large d e h = ap refused e ∙ ap (seen short_at) (sym (pass_pass (ltb 65535 (length d)) _ (read_short d 0 (length d)) (lt→ltb 65535 (length d) h)))

-- what the code was told of the name
pub name_given : (d : List ℕ) → length d ≤ 65535 → {r : Answer NameComponent}
    → r ≡ seen (named_at 1 0) (read_named 1 place_short_id_length place_short_kind_length d 0 (length d)) → r ≡ seen short_at (read_short_name d)
unfolding read_short_name read_short
name_given d small {r} e =
    let at : seen (named_at 1 0) (read_named 1 place_short_id_length place_short_kind_length d 0 (length d)) ≡ seen short_at (read_named 1 place_short_id_length place_short_kind_length d 0 (length d)) =
    λ j. seen (λ n. record { id = view 1 n.id; kind = view (zero-add (1 + length n.id + 1) j) n.kind }) (read_named 1 place_short_id_length place_short_kind_length d 0 (length d)) in
    e ∙ at ∙ ap (seen short_at) (sym (small_pass d _ small))

-- ---- the checks of writing, in their order

module _ (v : View) (n : ℕ) {a : ℕ} (end : a ≡ v.at + v.len) where
  pub view_over : {r : Refusal} → r ≡ refusal 9 0 v.at v.len → n < a → Err r ≡ view_check n 0 v
  view_over e h = ap Err e ∙ sym (lt_test _ _ _ (rw end at h))

  pub view_inside : a ≤ n → Ok tt ≡ view_check n 0 v
  view_inside h = sym (le_test _ _ _ (rw end at h))

module _ (n : ℕ) where
  pub length_over : {r : Refusal} → r ≡ refusal 2 0 n 255 → 255 < n → Err r ≡ short_check n
  length_over e h = ap Err e ∙ sym (lt_test _ _ _ h)

  pub length_short : n ≤ 255 → Ok tt ≡ short_check n
  length_short h = sym (le_test _ _ _ h)

module _ (x : NameComponent) (n m : ℕ) where
  abbrev checked : Check
  checked = short_name_check x n m

  pub source_over : {r : Refusal} → r ≡ refusal 6 0 n 65535 → 65535 < n → Err r ≡ checked
  unfolding short_name_check
  source_over e h = ap Err e ∙ sym (stop _ _ _ (lt_test _ _ _ h))

  -- what the code was told of the two views and of the id's length
  module _ (source : n ≤ 65535) (a : Check) (first : a ≡ view_check n 0 x.id) where
    pub id_over : {r : Refusal} → a ≡ Err r → (w : Check) → IsErrAnd w (λ y. y ≡ r) → w ≡ checked
    unfolding short_name_check
    id_over q w h = passed_on w h ∙ sym (go _ _ (le_test _ _ _ source) ∙ stop _ _ _ (stop _ _ _ (sym first ∙ q)))

    module _ (id : a ≡ Ok tt) (b : Check) (second : b ≡ view_check n 0 x.kind) where
      pub kind_over : {r : Refusal} → b ≡ Err r → (w : Check) → IsErrAnd w (λ y. y ≡ r) → w ≡ checked
      unfolding short_name_check
      kind_over q w h = passed_on w h ∙ sym (go _ _ (le_test _ _ _ source) ∙ stop _ _ _ (go _ _ (sym first ∙ id) ∙ sym second ∙ q))

      module _ (kind : b ≡ Ok tt) {k : ℕ} (size : k ≡ short_size x) where
        views : checked ≡ both (room_check (short_size x) m) (both (short_check x.id.len) (short_check x.kind.len))
        unfolding short_name_check
        views = go _ _ (le_test _ _ _ source) ∙ go _ _ (passed (sym first ∙ id) (sym second ∙ kind))

        pub room_short : {r : Refusal} → r ≡ refusal 5 0 k m → m < k → Err r ≡ checked
        room_short e h = ap Err (rw size at e) ∙ sym (views ∙ stop _ _ _ (lt_test _ _ _ (rw size at h)))

        module _ (room : k ≤ m) (c : Check) (third : c ≡ short_check x.id.len) where
          lengths : checked ≡ both (short_check x.id.len) (short_check x.kind.len)
          lengths = views ∙ go _ _ (le_test _ _ _ (rw size at room))

          pub id_long : {r : Refusal} → c ≡ Err r → (w : Check) → IsErrAnd w (λ y. y ≡ r) → w ≡ checked
          id_long q w h = passed_on w h ∙ sym (lengths ∙ stop _ _ _ (sym third ∙ q))

          pub kind_last : {d : Check} → c ≡ Ok tt → d ≡ short_check x.kind.len → d ≡ checked
          kind_last q e = e ∙ sym (lengths ∙ go _ _ (sym third ∙ q))

-- ---- the answer and the output

module _ (x : NameComponent) (s d : List ℕ) (c : Check) (check : c ≡ short_name_check x (length s) (length d)) where
  pub refused_writes : {r : Refusal} → c ≡ Err r → (w : Told) → IsErrAnd w (λ y. y ≡ r) → Writes x s d w d
  unfolding short_written short_leaves
  refused_writes q w h =
      let e = sym q ∙ check in
      record { answers = passed_on w h ∙ ap (λ (c : Check). told c (short_size x)) e; leaves = ap (λ (c : Check). left c d (short_image s x)) e }

  module _ (q : c ≡ Ok tt) where
    pub passing_all : Passing x (length s) (length d)
    passing_all = passing x (length s) (length d) (sym check ∙ q)

    -- the image, run by run
    image_runs : (octets 1 x.id.len ++ shown s x.id) ++ (octets 1 x.kind.len ++ shown s x.kind) ≡ short_image s x
    unfolding short_image layout_named
    image_runs = simp (append_assoc, append-nil, length_shown s 0 x.id passing_all.id, length_shown s 0 x.kind passing_all.kind)

    pub accepted_writes : {e : List ℕ} {r : ℕ} → Put d 0 (1 + x.id.len + (1 + x.kind.len)) ((octets 1 x.id.len ++ shown s x.id) ++ (octets 1 x.kind.len ++ shown s x.kind)) e r
        → Writes x s d (Ok r) e
    unfolding short_written short_leaves
    accepted_writes {e} {r} w =
        let p = sym q ∙ check in
        let n : r ≡ short_size x = omega (arith, w.next) in
        record {
          answers = ap Ok n ∙ ap (λ (c : Check). told c (short_size x)) p;
          leaves = w.left ∙ ap (splice d 0) image_runs ∙ ap (λ (c : Check). left c d (short_image s x)) p;
        }
