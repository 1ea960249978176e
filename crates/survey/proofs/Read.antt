-- The table that an accepted reading leaves is exact, whatever it held before: a used entry holds what its field held. Assumes nothing.
use Prim.Native.Nat.{ℕ, zero, suc, ◌+◌, ◌*◌, ◌<◌, ◌≤◌, min}
use mathlib.Core.Path.{◌≡◌, refl, sym, ap, ◌∙◌}
use mathlib.Core.Bool.{Bool, true}
use mathlib.Core.List.{List, [], ◌∷◌, ◌++◌, map}
use native.Mathlib.Nat.{min-le_left}
use native.Mathlib.Omega.{arith}
use borrow.Author.Tests.{lt-ltb}
use lib.ListN.{length, get_or, length-map, get_or-append, get_or-map}
use Rattle.reference.specs.declared.TypeIdRule.{TypeIdRule}
use Rattle.octets.specs.Octets.{Each, part, splice}
use Rattle.reference.specs.declared.Tap.{Tap}
use Rattle.reference.specs.declared.TaggedProfile.{TaggedProfile}
use Rattle.reference.specs.declared.TaggedProfile.TheVariants as Sort
use Rattle.reference.specs.Meaning.{Reference, Room}
use Rattle.reference.specs.Layout.{WellFormed}
use Rattle.reference.specs.Placed.{tables_of}
use Rattle.reference.specs.Tabled.{filled, no_tap, no_profile}
use Rattle.reference.specs.Typed.{TapFits, BodyFits, EntryFits}
use Rattle.reference.proofs.Fitting.{sums}
use Rattle.reference.proofs.Shows.{tables_typed}
use Rattle.table.specs.Region.{Region, entry, rows}
use Rattle.table.specs.Flat.{body_numbers, tap_numbers, profile_region, tap_region, Lent}
use Rattle.table.specs.Filed.{reference_filed}
use Rattle.table.proofs.Listed.{listed_get}
use Rattle.table.proofs.Lent.{read_files}
use Rattle.survey.specs.Exact.{profile_exact, tap_exact, every, exact}
use Rattle.survey.proofs.Sorts.{tap_near, profile_near}
use Rattle.survey.proofs.Every.{and_both, all_every}

-- ---- one entry that keeps to its types

tap_exact_lem : (x : Tap) → TapFits x → tap_exact (tap_numbers x) 0 ≡ true
tap_exact_lem x f = and_both (and_both (lt-ltb x.id 65536 f.id) (lt-ltb x.use_ 65536 f.uses)) (lt-ltb x.association 65536 f.association)

specifier : (a b c : ℕ) → a < 256 → b < 256 → c < 256 → a * 65536 + b * 256 + c < 16777216
specifier a b c f g h = omega arith

body_exact : (b : TaggedProfile) → BodyFits b → profile_exact (body_numbers b) 0 ≡ true
unfolding profile_exact
body_exact (Sort.Opaque t v) f = refl
body_exact (Sort.Biop l nt ne) f =
    and_both (and_both (lt-ltb l.«module» 65536 f.module_id) (lt-ltb l.version_major 256 f.major)) (lt-ltb l.version_minor 256 f.minor)
body_exact (Sort.LiteOptions a nn c ne) f =
    let s = specifier a.specifier0 a.specifier1 a.specifier2 f.specifier0 f.specifier1 f.specifier2 in
    and_both
    (and_both (and_both (lt-ltb (a.specifier0 * 65536 + a.specifier1 * 256 + a.specifier2) 16777216 s) (lt-ltb a.transport_stream 65536 f.transport))
    (lt-ltb a.original_network 65536 f.network))
    (lt-ltb a.service 65536 f.service)

-- ---- entry i of those that were stored

-- an entry that stands before the fillers
each_get : {A : Type 0} (P : A → Type 0) (l r : List A) (i : ℕ) (z : A) → Each P (l ++ r) → i < length l → P (get_or l i z)
each_get P [] r i z e h = absurd (omega arith)
each_get P (x ∷ l) r zero z e h = e.0
each_get P (x ∷ l) r (suc i) z e h = each_get P l r i z e.1 (omega arith)

filled_get : {A : Type 0} (P : A → Type 0) (size : ℕ) (z : A) (l : List A) (i : ℕ) → Each P (filled size z l) → i < length l → P (get_or l i z)
unfolding filled
filled_get P size z l i e h = each_get P l _ i z e h

module _ {E F : Type 0} (g : Region E) (f : List ℕ → ℕ → Bool) (near : (t : List ℕ) (k : ℕ) → f (part t k g.width) 0 ≡ f t k) (numbers : F → List ℕ) where
  -- entries pass that their own numbers pass
  stored_pass : (e : List ℕ) (rest : List (List ℕ)) (z : F) (xs : List F) → rows g e ≡ map numbers xs ++ rest → length xs ≤ g.size → ((i : ℕ) → i < length xs → f (numbers (get_or xs i z)) 0 ≡ true)
      → {n : ℕ} → length xs ≡ n → every (λ i. f e (entry g i)) (min n g.size) ≡ true
  unfolding rows
  stored_pass e rest z xs h room pass {n} many =
      all_every (λ i. f e (entry g i)) (min n g.size) λ i l.
      let k : i < length xs = omega (arith, min-le_left n g.size) in
      let q : i < length (map numbers xs) = omega (arith, length-map xs numbers) in
      let row : part e (entry g i) g.width ≡ numbers (get_or xs i z) =
      sym (listed_get g.size (λ j. part e (entry g j) g.width) i (numbers z) (omega arith))
      ∙ ap (λ (r : List (List ℕ)). get_or r i (numbers z)) h
      ∙ get_or-append (map numbers xs) rest (numbers z) i q
      ∙ get_or-map numbers xs i z in
      sym (near e (entry g i)) ∙ ap (λ (r : List ℕ). f r 0) row ∙ pass i k

module _ (rule : TypeIdRule) where
  pub read_exact : (t : List ℕ) → Lent t → (m : Reference) → WellFormed rule m → Room m → exact (reference_filed rule t m) ≡ true
  unfolding exact splice
  read_exact t l m w room =
      let e = reference_filed rule t m in
      let r = read_files rule t l m room in
      let s = sums rule m in
      let y = tables_typed rule m w room in
      let ps = (tables_of rule m).profiles in
      let ts = (tables_of rule m).taps in
      and_both
      (stored_pass profile_region profile_exact profile_near (λ p. body_numbers p.body) e _ no_profile ps r.profiles (omega (arith, s.profiles, room.profiles))
      (λ i k. body_exact (get_or ps i no_profile).body (filled_get EntryFits 8 no_profile ps i y.profiles k)) s.profiles)
      (stored_pass tap_region tap_exact tap_near tap_numbers e _ no_tap ts r.taps (omega (arith, s.taps, room.taps))
      (λ i k. tap_exact_lem (get_or ts i no_tap) (filled_get TapFits 36 no_tap ts i y.taps k)) s.taps)
