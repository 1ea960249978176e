-- The day of one reference: octets that were accepted as a whole are read again, written anew and read once more. Assumes nothing.
use Prim.Native.Nat.{ℕ}
use mathlib.Core.Path.{◌≡◌, refl, sym, ap, ◌∙◌, subst}
use mathlib.Core.List.{List}
use lib.ListN.{length, take, get_or}
use Rattle.reference.specs.declared.TypeIdRule.{TypeIdRule}
use Rattle.reference.specs.declared.AddressWay.{AddressWay}
use Rattle.octets.specs.Octets.{Octets}
use Rattle.reference.specs.Meaning.{Reference}
use Rattle.reference.specs.Layout.{Leads}
use Rattle.reference.specs.Steps.{Answer, ok}
use Rattle.reference.specs.Reader.{read_leading, read_whole, answered}
use Rattle.reference.specs.Used.{Used}
use Rattle.reference.specs.Contents.{contents, said}
use Rattle.reference.specs.Placed.{tables_of}
use Rattle.reference.specs.Standard.{canon}
use Rattle.reference.specs.Tabled.{tabled, used_of}
use Rattle.reference.specs.Writer.{leaves}
use Rattle.reference.specs.Promises.{GivesBack, SameUsed}
use Rattle.std.specs.Prelude.{Ok}
use Rattle.reference.proofs.Accept.{whole, unique}
use Rattle.reference.proofs.Back.{tables_canon}
use Rattle.reference.proofs.Saying.{same_said}
use Rattle.reference.proofs.Same.{same_both, used_shows, used_agrees, canon_twice, copy_leads, copy_octets, copy_read}
use Rattle.table.specs.Flat.{tables_from}
use Rattle.reading.proofs.Lent.{Taken, leading_taken, same_taken}
use Rattle.ior_c.specs.Said.{number_of, numbers_of}
use Rattle.ior_c.specs.Promises.{Read, Day, Kept}
use Rattle.ior_c.proofs.Readings.{leading, wholly, read_zero, read_sized, whole_is_leading}
use Rattle.ior_c.proofs.Writings.{left_written}

module _ (rule : TypeIdRule) where
  -- a reading of s that answered 0
  module _ (s : List ℕ) (o : Octets s) (x : Read rule s) where
    read_told : x.result ≡ 0 → (x.told ≡ numbers_of (Ok (length s))) × (Taken rule s x.table x.left (length s))
    read_told z =
        let (c, n) = whole_is_leading rule s o x.table x.answer x.result x.told x.left x.call z in
        let k = read_zero rule (read_leading rule s) (leading rule s) x.table x.answer x.result x.told x.left c z in
        let q : k.count ≡ length s = sym (ap (λ (v : List ℕ). get_or v 4 0) k.told) ∙ n in
        (k.told ∙ ap (λ (i : ℕ). numbers_of (Ok i)) q, leading_taken rule s o x.table x.left x.lent (Ok k.count) (length s) (ap Ok q) k.into)

    -- it answers 0 where the definition accepts
    read_accepts : (m : Reference) (n : ℕ) → read_whole rule s ≡ ok m n → x.result ≡ 0
    read_accepts m n e =
        let (p, q, i) = read_sized rule (read_whole rule s) (wholly rule s) x.table x.answer x.result x.told x.left x.call x.lent x.six in
        p ∙ ap (λ (y : Answer Reference). number_of (answered rule y).answer) e

module _ (rule : TypeIdRule) (way : AddressWay) where
  pub kept : (s : List ℕ) → Octets s → (day : Day rule way s) → (m : Reference) × (Leads rule s m (length s)) × (Kept rule way s day m)
  kept s o day =
      let n = length s in
      let t₁ = tables_from day.arrival.left in
      let t₂ = tables_from day.again.left in
      let t₄ = tables_from day.after.left in
      let (told₁, k₁) = read_told rule s o day.arrival day.accepted in
      let m = k₁.meaning in
      -- read again
      let z₂ = read_accepts rule s o day.again m n ((whole rule s o k₁.small m n).1 (k₁.leads, refl)) in
      let (told₂, k₂) = read_told rule s o day.again z₂ in
      let m₂ = k₂.meaning in
      let same : m₂ ≡ m = (unique rule s o m₂ m n n k₂.leads k₁.leads).0 in
      -- written
      let w = day.copy in
      let (z₃, told₃, left₃, back) = left_written rule way s day.again.table day.again.left n day.again.lent k₂ w.output w.answer w.result w.told w.left w.six day.room w.call in
      -- the copy
      let copy = take n (leaves rule way t₂ s w.output) in
      let here : take n w.left ≡ copy = ap (take n) left₃ in
      let (cl, cn) = copy_leads rule way m₂ t₂ k₂.same s n k₂.leads o k₂.small w.output day.room in
      let co : Octets (take n w.left) = subst Octets (sym here) (copy_octets rule way m₂ t₂ k₂.same s n k₂.leads o k₂.small w.output day.room) in
      let cr : read_whole rule (take n w.left) ≡ ok (canon way m₂) n = ap (read_whole rule) here ∙ copy_read rule way m₂ t₂ k₂.same s n k₂.leads o k₂.small w.output day.room in
      let long : length (take n w.left) ≡ n = ap length here ∙ sym cn in
      let z₄ = read_accepts rule (take n w.left) co day.after (canon way m₂) n cr in
      let (told₄, k₄) = read_told rule (take n w.left) co day.after z₄ in
      let m₄ = k₄.meaning in
      let l₄ : Leads rule copy m₄ n = subst (λ (x : List ℕ). Leads rule x m₄ n) here (subst (Leads rule (take n w.left) m₄) long k₄.leads) in
      let s₄ : m₄ ≡ canon way m₂ = (unique rule copy (subst Octets here co) m₄ (canon way m₂) n n l₄ cl).0 in
      let tables : tables_of rule m₄ ≡ tables_of rule m = ap (tables_of rule) s₄ ∙ tables_canon rule way m₂ ∙ ap (tables_of rule) same in
      let means : contents way copy (used_of t₄) ≡ contents way s (used_of t₁) =
      used_shows rule way m₄ t₄ k₄.same copy n l₄
      ∙ ap (canon way) s₄
      ∙ canon_twice rule way m₂ t₂ k₂.same s n k₂.leads
      ∙ ap (canon way) same
      ∙ sym (used_shows rule way m t₁ k₁.same s n k₁.leads) in (
        m,
        k₁.leads,
        record {
          again = (z₂, told₂ ∙ sym told₁);
          equal = same_taken rule s o k₁ k₂;
          copied = (z₃, told₃ ∙ sym told₁);
          back = subst (λ (x : Reference). GivesBack rule way s x n w.output w.left) same back;
          after = (z₄, told₄ ∙ ap (λ (i : ℕ). numbers_of (Ok i)) long ∙ sym told₁);
          stands = same_both (subst (λ (u : Used). SameUsed t₄ (tabled u)) tables k₄.same) k₁.same;
          says =
              ap (λ (x : List ℕ). said x t₄) here
              ∙ same_said way copy s t₄ t₁ (used_agrees rule m₄ t₄ k₄.same) (used_agrees rule m t₁ k₁.same) means;
        },
      )
