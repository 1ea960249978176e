-- The profile that an entry's numbers tell, from what was read of them number by number. Assumes nothing.
use Prim.Native.Nat.{ℕ, ◌+◌}
use mathlib.Core.Path.{◌≡◌, sym, ap, ◌∙◌}
use mathlib.Core.Logic.{◌≢◌}
use mathlib.Core.List.{List}
use lib.ListN.{get_or}
use Rattle.reference.specs.declared.View.{View}
use Rattle.reference.specs.declared.ObjectLocation.{ObjectLocation}
use Rattle.reference.specs.declared.NsapAddress.{NsapAddress}
use Rattle.reference.specs.declared.TaggedProfile.TheVariants as Sort
use Rattle.reference.specs.Used.{taps_in, names_in, extras_in, body_view}
use Rattle.table.specs.declared.Counts.{Counts}
use Rattle.table.specs.Flat.{body_from, location_from, address_from}
use Rattle.table_entries.proofs.Sorts.{body_biop, body_lite, body_opaque}
use Rattle.writing.specs.Own.{counts_in}

module _ (t : List ℕ) (i : ℕ) where
  pub biop_told : (p : ObjectLocation) (n : Counts) → n ≡ counts_in (body_from t i) → get_or t i 0 ≡ 1 → p ≡ location_from t i → body_from t i ≡ Sort.Biop p n.taps n.extras
  biop_told p n c s e =
      let b = body_biop t i s in
      let nt = sym (ap (λ (x : Counts). x.taps) c ∙ ap taps_in b) in
      let ne = sym (ap (λ (x : Counts). x.extras) c ∙ ap extras_in b) in
      b ∙ (λ j. Sort.Biop (sym e j) (nt j) (ne j))

  pub lite_told : (a : NsapAddress) (v : View) (n : Counts) → n ≡ counts_in (body_from t i) → get_or t i 0 ≡ 2 → a ≡ address_from t i → v ≡ body_view (body_from t i)
      → body_from t i ≡ Sort.LiteOptions a n.names v n.extras
  lite_told a v n c s e k =
      let b = body_lite t i s in
      let nn = sym (ap (λ (x : Counts). x.names) c ∙ ap names_in b) in
      let ne = sym (ap (λ (x : Counts). x.extras) c ∙ ap extras_in b) in
      let w = sym (k ∙ ap body_view b) in
      b ∙ (λ j. Sort.LiteOptions (sym e j) (nn j) (w j) (ne j))

  pub opaque_told : (a : ℕ) (v : View) → get_or t i 0 ≢ 1 → get_or t i 0 ≢ 2 → a ≡ get_or t (i + 1) 0 → v ≡ body_view (body_from t i) → body_from t i ≡ Sort.Opaque a v
  opaque_told a v p q e k =
      let b = body_opaque t i p q in
      let w = sym (k ∙ ap body_view b) in
      b ∙ (λ j. Sort.Opaque (sym e j) (w j))
