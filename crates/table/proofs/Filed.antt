-- Entries of all sorts after entries of all sorts, a profile's entries, and one profile more: what a loop over profiles goes by. Assumes nothing.
use Prim.Native.Nat.{ℕ, ◌+◌, ◌≤◌}
use mathlib.Core.Path.{◌≡◌, refl, sym, ap, ◌∙◌}
use mathlib.Core.List.{List, [], ◌∷◌, ◌++◌}
use native.Mathlib.Omega.{arith}
use lib.ListN.{length}
use Rattle.reference.specs.declared.Tap.{Tap as TapEntry}
use Rattle.reference.specs.declared.NameComponent.{NameComponent}
use Rattle.reference.specs.declared.LiteComponent.{LiteComponent}
use Rattle.reference.specs.declared.TaggedProfile.{TaggedProfile}
use Rattle.table.specs.declared.Counts.{Counts}
use Rattle.table.specs.Region.{Region, stored, past}
use Rattle.table.specs.Flat.{profile_region, tap_region, name_region, extra_region, table_size, Lent}
use Rattle.table.specs.Filed.{filed, counts_after, profile_filed, profiles_filed}
use Rattle.reference.specs.Meaning.{Profile, biop, lite, opaque, taps_of, names_of, extras_of}
use Rattle.reference.specs.Layout.{layout_tap, layout_name, layout_extra, layout_profile}
use Rattle.reference.specs.Placed.{body_at, tap_at, name_at, extra_at, taps_at, names_at, extras_at}
use Rattle.reference.proofs.Shown.{length_placed}
use Rattle.table.proofs.Stored.{stored_length, stored_append, stored_comm, stored_none}

long : {E : Type 0} (g : Region E) (t : List ℕ) (k : ℕ) (xs : List E) → past g ≤ table_size → Lent t → Lent (stored g t k xs)
long g t k xs h l = stored_length g t k (omega arith) xs ∙ l

pub filed_append : (t : List ℕ) (i : ℕ) (u : Counts) (ps ps' : List TaggedProfile) (ts ts' : List TapEntry) (ns ns' : List NameComponent) (es es' : List LiteComponent) → Lent t
    → filed (filed t i u ps ts ns es) (i + length ps) (record { taps = u.taps + length ts; names = u.names + length ns; extras = u.extras + length es }) ps' ts' ns' es'
    ≡ filed t i u (ps ++ ps') (ts ++ ts') (ns ++ ns') (es ++ es')
filed_append t i u ps ps' ts ts' ns ns' es es' l =
    let p = stored profile_region t i ps in
    let lp : Lent p = long profile_region t i ps (omega arith) l in
    let q = stored tap_region p u.taps ts in
    let lq : Lent q = long tap_region p u.taps ts (omega arith) lp in
    let r = stored name_region q u.names ns in
    let lr : Lent r = long name_region q u.names ns (omega arith) lq in
    let i' = i + length ps in
    let a' = u.taps + length ts in
    let b' = u.names + length ns in
    let c' = u.extras + length es in
    let P = stored profile_region t i (ps ++ ps') in
    let lP : Lent P = long profile_region t i (ps ++ ps') (omega arith) l in
    let Q = stored tap_region P u.taps (ts ++ ts') in
    let lQ : Lent Q = long tap_region P u.taps (ts ++ ts') (omega arith) lP in
    let R = stored name_region Q u.names (ns ++ ns') in
    let lR : Lent R = long name_region Q u.names (ns ++ ns') (omega arith) lQ in
    -- the profiles go in below the other sorts
    let e₁ : stored profile_region (stored extra_region r u.extras es) i' ps' ≡ stored extra_region (stored name_region (stored tap_region P u.taps ts) u.names ns) u.extras es =
    sym (stored_comm profile_region extra_region r i' ps' u.extras es (omega arith) (omega arith))
    ∙ ap (λ (x : List ℕ). stored extra_region x u.extras es)
    (sym (stored_comm profile_region name_region q i' ps' u.names ns (omega arith) (omega arith))
    ∙ ap (λ (x : List ℕ). stored name_region x u.names ns)
    (sym (stored_comm profile_region tap_region p i' ps' u.taps ts (omega arith) (omega arith))
    ∙ ap (λ (x : List ℕ). stored tap_region x u.taps ts) (stored_append profile_region t i (omega arith) ps ps'))) in
    let q₁ = stored tap_region P u.taps ts in
    let lq₁ : Lent q₁ = long tap_region P u.taps ts (omega arith) lP in
    let r₁ = stored name_region q₁ u.names ns in
    let lr₁ : Lent r₁ = long name_region q₁ u.names ns (omega arith) lq₁ in
    -- then the taps, the names, the extras
    let e₂ : stored tap_region (stored extra_region r₁ u.extras es) a' ts' ≡ stored extra_region (stored name_region Q u.names ns) u.extras es =
    sym (stored_comm tap_region extra_region r₁ a' ts' u.extras es (omega arith) (omega arith))
    ∙ ap (λ (x : List ℕ). stored extra_region x u.extras es)
    (sym (stored_comm tap_region name_region q₁ a' ts' u.names ns (omega arith) (omega arith))
    ∙ ap (λ (x : List ℕ). stored name_region x u.names ns) (stored_append tap_region P u.taps (omega arith) ts ts')) in
    let r₂ = stored name_region Q u.names ns in
    let lr₂ : Lent r₂ = long name_region Q u.names ns (omega arith) lQ in
    let e₃ : stored name_region (stored extra_region r₂ u.extras es) b' ns' ≡ stored extra_region R u.extras es =
    sym (stored_comm name_region extra_region r₂ b' ns' u.extras es (omega arith) (omega arith))
    ∙ ap (λ (x : List ℕ). stored extra_region x u.extras es) (stored_append name_region Q u.names (omega arith) ns ns') in
    ap (λ (x : List ℕ). stored extra_region (stored name_region (stored tap_region x a' ts') b' ns') c' es') e₁
    ∙ ap (λ (x : List ℕ). stored extra_region (stored name_region x b' ns') c' es') e₂
    ∙ ap (λ (x : List ℕ). stored extra_region x c' es') e₃
    ∙ stored_append extra_region R u.extras (omega arith) es es'

-- what the code stores for a profile, in its order, is what is filed
module _ (t : List ℕ) (i : ℕ) (u : Counts) (ps : List TaggedProfile) (l : Lent t) where
  pub filed_biop : (ts : List TapEntry) (es : List LiteComponent)
      → stored profile_region (stored extra_region (stored tap_region t u.taps ts) u.extras es) i ps ≡ filed t i u ps ts [] es
  filed_biop ts es =
      let q = stored tap_region t u.taps ts in
      let lq : Lent q = long tap_region t u.taps ts (omega arith) l in
      sym (stored_comm profile_region extra_region q i ps u.extras es (omega arith) (omega arith))
      ∙ ap (λ (x : List ℕ). stored extra_region x u.extras es)
      (sym (stored_comm profile_region tap_region t i ps u.taps ts (omega arith) (omega arith)) ∙ sym (stored_none name_region _ u.names))

  pub filed_lite : (ns : List NameComponent) (es : List LiteComponent)
      → stored profile_region (stored extra_region (stored name_region t u.names ns) u.extras es) i ps ≡ filed t i u ps [] ns es
  filed_lite ns es =
      let q = stored name_region t u.names ns in
      let lq : Lent q = long name_region t u.names ns (omega arith) l in
      sym (stored_comm profile_region extra_region q i ps u.extras es (omega arith) (omega arith))
      ∙ ap (λ (x : List ℕ). stored extra_region x u.extras es)
      (sym (stored_comm profile_region name_region t i ps u.names ns (omega arith) (omega arith))
      ∙ ap (λ (x : List ℕ). stored name_region x u.names ns) (sym (stored_none tap_region _ u.taps)))

  pub filed_opaque : stored profile_region t i ps ≡ filed t i u ps [] [] []
  filed_opaque =
      sym (stored_none extra_region _ u.extras ∙ stored_none name_region _ u.names ∙ stored_none tap_region _ u.taps)

-- a profile has as many entries in the tables as its meaning says
pub taps_count_lem : (at : ℕ) (p : Profile) → length (taps_at at p) ≡ taps_of p
taps_count_lem at (biop b) = length_placed tap_at layout_tap _ b.taps
taps_count_lem at (lite l) = refl
taps_count_lem at (opaque t s) = refl

pub names_count_lem : (at : ℕ) (p : Profile) → length (names_at at p) ≡ names_of p
names_count_lem at (biop b) = refl
names_count_lem at (lite l) = length_placed name_at layout_name _ l.service.names
names_count_lem at (opaque t s) = refl

pub extras_count_lem : (at : ℕ) (p : Profile) → length (extras_at at p) ≡ extras_of p
extras_count_lem at (biop b) = length_placed extra_at layout_extra _ b.extras
extras_count_lem at (lite l) = length_placed extra_at layout_extra _ l.extras
extras_count_lem at (opaque t s) = refl

counts_after_lem : (u : Counts) (at : ℕ) (p : Profile)
    → record { taps = u.taps + length (taps_at at p); names = u.names + length (names_at at p); extras = u.extras + length (extras_at at p) } ≡ counts_after u p
counts_after_lem u at p =
    λ j. record { taps = u.taps + taps_count_lem at p j; names = u.names + names_count_lem at p j; extras = u.extras + extras_count_lem at p j }

-- one profile more: the turn of the loop over profiles
pub profiles_more : (at : ℕ) (t : List ℕ) (i : ℕ) (u : Counts) (p : Profile) (l : List Profile) → Lent t
    → profiles_filed at t i u (p ∷ l) ≡ profiles_filed (at + length (layout_profile p)) (profile_filed at t i u p) (i + 1) (counts_after u p) l
profiles_more at t i u p l h =
    sym (filed_append t i u (body_at at p ∷ []) _ (taps_at at p) _ (names_at at p) _ (extras_at at p) _ h)
    ∙ ap (λ (v : Counts). profiles_filed (at + length (layout_profile p)) (profile_filed at t i u p) (i + 1) v l) (counts_after_lem u at p)

-- filing keeps the table's length
pub filed_length : (t : List ℕ) (i : ℕ) (u : Counts) (ps : List TaggedProfile) (ts : List TapEntry) (ns : List NameComponent) (es : List LiteComponent) → Lent t
    → Lent (filed t i u ps ts ns es)
filed_length t i u ps ts ns es l =
    long extra_region _ u.extras es (omega arith)
    (long name_region _ u.names ns (omega arith) (long tap_region _ u.taps ts (omega arith) (long profile_region t i ps (omega arith) l)))
