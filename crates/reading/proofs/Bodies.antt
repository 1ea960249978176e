-- The data of a profile by its tag, one law for each case of the code. The premises are what the code knows there, so that a proof only names the law.
-- Assumes nothing.
use Prim.Native.Nat.{ℕ, ◌+◌, ◌<◌, ◌≤◌}
use mathlib.Core.Path.{◌≡◌, refl, sym, ap, ◌∙◌}
use mathlib.Core.List.{List, [], ◌∷◌}
use mathlib.Core.Logic.{◌≢◌}
use native.Mathlib.Nat.{add-zero}
use lib.ListN.{length}
use Rattle.std.specs.Prelude.{Result, Ok}
use Rattle.octets.specs.Octets.{splice}
use Rattle.reference.specs.declared.Refusal.{Refusal}
use Rattle.reference.specs.declared.TaggedProfile.{TaggedProfile}
use Rattle.reference.specs.declared.TaggedProfile.TheVariants as Sort
use Rattle.reference.specs.declared.View.{View}
use Rattle.reference.specs.Meaning.{Profile, biop, lite}
use Rattle.reference.specs.Layout.{tag_biop, tag_lite}
use Rattle.reference.specs.Steps.{Answer, ok, seen}
use Rattle.reference.specs.Reader.{read_biop, read_lite, read_body}
use Rattle.reference.specs.Placed.{view}
use Rattle.reference.proofs.Heads.{body_biop, body_lite, body_opaque}
use Rattle.table.specs.declared.Counts.{Counts}
use Rattle.table.specs.Region.{entry, stored}
use Rattle.table.specs.Flat.{profile_region, body_numbers, Lent}
use Rattle.table.proofs.Filed.{filed_opaque}
use Rattle.table.proofs.Stored.{stored_in, stored_out}
use Rattle.read_parts.specs.Told.{body_kept, StoresBody}

module _ (at : ℕ) (t : List ℕ) (i : ℕ) (u : Counts) (tag : ℕ) (d e : List ℕ) where
  abbrev Told : Answer Profile → Result Counts Refusal → Type 0
  Told x v = StoresBody at t i u x (length d) e v

  abbrev Stored : Result Counts Refusal → Type 0
  Stored v = Told (read_body tag d 0 (length d)) v

  same : {x : Answer Profile} {v : Result Counts Refusal} → read_body tag d 0 (length d) ≡ x → Told x v → Stored v
  same q s = record { told = s.told ∙ ap (body_kept at t i u) (sym q) }

  pub as_biop : {v : Result Counts Refusal} → tag ≡ tag_biop → Told (seen (λ b. biop b) (read_biop d 0 (length d))) v → Stored v
  as_biop q s = same (body_biop tag d (length d) q) s

  module _ (no-biop : tag ≢ tag_biop) where
    pub as_lite : {v : Result Counts Refusal} → tag ≡ tag_lite → Told (seen (λ l. lite l) (read_lite d 0 (length d))) v → Stored v
    as_lite q s = same (body_lite tag d (length d) no-biop q) s

    module _ (no-lite : tag ≢ tag_lite) (long : Lent t) where
      abbrev its : TaggedProfile
      its = Sort.Opaque tag (view (at + 8) d)

      as_opaque : e ≡ stored profile_region t i (its ∷ []) → Stored (Ok u)
      as_opaque p =
          let q = p ∙ filed_opaque t i u (its ∷ []) long in
          let counts : u ≡ record { taps = u.taps + 0; names = u.names + 0; extras = u.extras + 0 } =
          λ j. record { taps = sym (add-zero u.taps) j; names = sym (add-zero u.names) j; extras = sym (add-zero u.extras) j } in
          same (body_opaque tag d (length d) no-biop no-lite refl) (record { told = λ j. ok (record { table = q j; counts = counts j }) (length d) })

      pub opaque_in : {v : View} {t' : List ℕ} → v ≡ view (at + 8) d → i < profile_region.size → t' ≡ splice t (entry profile_region i) (body_numbers (Sort.Opaque tag v)) → e ≡ t' → Stored (Ok u)
      opaque_in q room f s = as_opaque (stored_in profile_region t i its room (s ∙ f ∙ ap (λ (v : View). splice t (entry profile_region i) (body_numbers (Sort.Opaque tag v))) q))

      pub opaque_out : 8 ≤ i → e ≡ t → Stored (Ok u)
      opaque_out full s = as_opaque (stored_out profile_region t i its full s)
