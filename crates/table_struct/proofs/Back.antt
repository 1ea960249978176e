-- Entries that were filed are told again, and what stands behind them is told as before, since entries keep to their types; so tables that are laid
-- flat and read back are the same tables. Assumes nothing.
use Prim.Native.Nat.{ℕ, zero, suc, ◌+◌, ◌*◌, ◌/◌, ◌%◌, ◌<◌, ◌≤◌}
use mathlib.Core.Path.{◌≡◌, refl, sym, ap, ap₂, subst, ◌∙◌}
use mathlib.Core.List.{List, [], ◌∷◌, ◌++◌, map, map-map, append-nil}
use native.Mathlib.Nat.{mod-eq_of_lt}
use native.Mathlib.Omega.{arith}
use lib.ListN.{length, drop, replicate, drop_of_length-le}
use Rattle.octets.specs.Octets.{Each, part}
use Rattle.reference.specs.declared.Tap.{Tap}
use Rattle.reference.specs.declared.Profile.{Profile}
use Rattle.reference.specs.declared.TaggedProfile.{TaggedProfile}
use Rattle.reference.specs.declared.TaggedProfile.TheVariants as Sort
use Rattle.reference.specs.declared.Tables.{Tables}
use Rattle.reference.specs.Used.{Used}
use Rattle.reference.specs.Typed.{TapFits, BodyFits, EntryFits, Typed}
use Rattle.reference.specs.Tabled.{filled, no_tables}
use Rattle.table.specs.Region.{Region, entry, listed, rows}
use Rattle.table.specs.Flat.{body_numbers, tap_numbers, name_numbers, extra_numbers, profile_region, tap_region, name_region, extra_region, table_size, profile_from, body_from, tap_from, name_from, extra_from, tables_from, flat}
use Rattle.table.proofs.Stored.{map_append}
use Rattle.table.proofs.Near.{profile_near, tap_near, name_near, extra_near}
use Rattle.table.proofs.Rows.{told_rows}
use Rattle.table.proofs.Entries.{profiles_length, taps_length_lem, names_length, extras_length}
use Rattle.table.proofs.Lent.{Begins, filed_begins}
use Rattle.table_struct.proofs.Whole.{front_of, filed_flat}

-- ---- one entry

tap_back : (t : Tap) → TapFits t → tap_from (tap_numbers t) 0 ≡ t
tap_back t f =
    let i = mod-eq_of_lt f.id in
    let u = mod-eq_of_lt f.uses in
    let a = mod-eq_of_lt f.association in
    λ j. record { id = i j; use_ = u j; association = a j; selector = t.selector }

-- the three octets of a specifier out of their number
module _ (a b c : ℕ) (f : a < 256) (g : b < 256) (h : c < 256) where
  high : (a * 65536 + b * 256 + c) / 65536 % 256 ≡ a
  high = omega arith

  middle : (a * 65536 + b * 256 + c) / 256 % 256 ≡ b
  middle = omega arith

  low : (a * 65536 + b * 256 + c) % 256 ≡ c
  low = omega arith

body_back : (b : TaggedProfile) → BodyFits b → body_from (body_numbers b) 0 ≡ b
unfolding body_from
body_back (Sort.Opaque t v) f = refl
body_back (Sort.Biop l nt ne) f =
    let m = mod-eq_of_lt f.module_id in
    let x = mod-eq_of_lt f.major in
    let y = mod-eq_of_lt f.minor in
    λ j. Sort.Biop (record { carousel = l.carousel; «module» = m j; version_major = x j; version_minor = y j; key = l.key }) nt ne
body_back (Sort.LiteOptions a nn c ne) f =
    let p = high a.specifier0 a.specifier1 a.specifier2 f.specifier0 f.specifier1 f.specifier2 in
    let q = middle a.specifier0 a.specifier1 a.specifier2 f.specifier0 f.specifier1 f.specifier2 in
    let r = low a.specifier0 a.specifier1 a.specifier2 f.specifier0 f.specifier1 f.specifier2 in
    let t = mod-eq_of_lt f.transport in
    let n = mod-eq_of_lt f.network in
    let s = mod-eq_of_lt f.service in
    λ j.
    Sort.LiteOptions
    (record { carousel = a.carousel; specifier0 = p j; specifier1 = q j; specifier2 = r j; transport_stream = t j; original_network = n j; service = s j })
    nn c ne

profile_back : (p : Profile) → EntryFits p → profile_from (body_numbers p.body) 0 ≡ p
profile_back p f = let e = body_back p.body f in λ j. record { body = e j }

-- ---- all entries of a sort

map_drop : {A B : Type 0} (f : A → B) (n : ℕ) (l : List A) → map f (drop n l) ≡ drop n (map f l)
map_drop f zero l = refl
map_drop f (suc n) [] = refl
map_drop f (suc n) (x ∷ l) = map_drop f n l

module _ {E F : Type 0} (g : Region E) (from : List ℕ → ℕ → F) (near : (t : List ℕ) (k : ℕ) → from (part t k g.width) 0 ≡ from t k) (numbers : F → List ℕ) where
  abbrev told : List ℕ → List F
  told t = listed g.size (λ i. from t (entry g i))

  told_over : (t e : List ℕ) (xs : List F) → map (λ x. from (numbers x) 0) xs ≡ xs → rows g e ≡ map numbers xs ++ drop (length xs) (rows g t)
      → told e ≡ xs ++ drop (length xs) (told t)
  told_over t e xs back h =
      let one : List ℕ → F = λ r. from r 0 in
      told_rows g from near e
      ∙ ap (map one) h
      ∙ map_append one (map numbers xs) (drop (length xs) (rows g t))
      ∙ ap₂ (λ (a b : List F). a ++ b) (map-map one numbers xs ∙ back) (map_drop one (length xs) (rows g t) ∙ ap (drop (length xs)) (sym (told_rows g from near t)))

map_back : {E : Type 0} (P : E → Type 0) (f : E → E) → ((x : E) → P x → f x ≡ x) → (xs : List E) → Each P xs → map f xs ≡ xs
map_back P f back [] h = refl
map_back P f back (x ∷ xs) h = let p = back x h.0 in let q = map_back P f back xs h.1 in λ j. p j ∷ q j

map_same : {E : Type 0} (xs : List E) → map (λ x. x) xs ≡ xs
map_same [] = refl
map_same {E} (x ∷ xs) = ap (λ (l : List E). x ∷ l) (map_same xs)

-- ---- the tables

-- the tables of e begin with these entries and go on as those of t
pub record Tells (t e : List ℕ) (u : Used) : Type 0 where
  pub profiles : (tables_from e).profiles ≡ u.profiles ++ drop (length u.profiles) (tables_from t).profiles
  pub taps : (tables_from e).taps ≡ u.taps ++ drop (length u.taps) (tables_from t).taps
  pub names : (tables_from e).names ≡ u.names ++ drop (length u.names) (tables_from t).names
  pub extras : (tables_from e).extras ≡ u.extras ++ drop (length u.extras) (tables_from t).extras

pub tells : (t e : List ℕ) (u : Used) → Begins t e u → Each EntryFits u.profiles → Each TapFits u.taps → Tells t e u
unfolding tables_from
tells t e u b fp ft =
    record {
      profiles = told_over profile_region profile_from profile_near (λ p. body_numbers p.body) t e u.profiles (map_back EntryFits _ profile_back u.profiles fp) b.profiles;
      taps = told_over tap_region tap_from tap_near tap_numbers t e u.taps (map_back TapFits _ tap_back u.taps ft) b.taps;
      names = told_over name_region name_from name_near name_numbers t e u.names (map_same u.names) b.names;
      extras = told_over extra_region extra_from extra_near extra_numbers t e u.extras (map_same u.extras) b.extras;
    }

-- as many as there are
all_told : {E : Type 0} (xs l : List E) {n : ℕ} → length l ≡ n → length xs ≡ n → xs ++ drop (length xs) l ≡ xs
all_told {E} xs l p q = let h : length l ≤ length xs = omega (arith, p, q) in ap (λ (r : List E). xs ++ r) (drop_of_length-le l h) ∙ append-nil xs

pub tables_flat : (x : Tables) → Typed x → tables_from (flat x) ≡ x
unfolding tables_from flat
tables_flat x y =
    let t : List ℕ = replicate table_size 0 in
    let u : Used = record { type_id = x.type_id; profiles = x.profiles; taps = x.taps; names = x.names; extras = x.extras } in
    let b = subst (λ (e : List ℕ). Begins t e u) (filed_flat x y t refl)
    (filed_begins t refl u (front_of x) refl (omega (arith, y.eight)) (omega (arith, y.thirty_six)) (omega (arith, y.names)) (omega (arith, y.thirty_two))) in
    let z = tells t (flat x) u b y.profiles y.taps in
    let ps = z.profiles ∙ all_told x.profiles (tables_from t).profiles (profiles_length t) y.eight in
    let ts = z.taps ∙ all_told x.taps (tables_from t).taps (taps_length_lem t) y.thirty_six in
    let ns = z.names ∙ all_told x.names (tables_from t).names (names_length t) y.names in
    let es = z.extras ∙ all_told x.extras (tables_from t).extras (extras_length t) y.thirty_two in
    λ j.
    record {
      type_id = x.type_id;
      profiles_used = x.profiles_used;
      taps_used = x.taps_used;
      names_used = x.names_used;
      extras_used = x.extras_used;
      profiles = ps j;
      taps = ts j;
      names = ns j;
      extras = es j;
    }

-- a table of zeros tells the empty tables
pub tables_cleared : tables_from (replicate table_size 0) ≡ no_tables
unfolding tables_from listed body_from filled
tables_cleared = refl
