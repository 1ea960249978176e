-- A table whose four regions are filled to the last entry, with the six numbers at the front, is the flat table. Assumes nothing.
use Prim.Native.Nat.{ℕ, ◌+◌, ◌-◌, ◌*◌, ◌≤◌}
use mathlib.Core.Path.{◌≡◌, sym, ap, ap₂, ◌∙◌}
use mathlib.Core.List.{List, [], ◌++◌, map, map-map, append_assoc, append-nil}
use native.Mathlib.Omega.{arith}
use lib.ListN.{length, length-append, length-map, drop_of_length-le}
use lib.Seq.{take_all}
use Rattle.octets.specs.Octets.{joined, splice}
use Rattle.octets.proofs.Splice.{splice_none, splice_splice, splice_comm}
use Rattle.reference.specs.declared.Profile.{Profile}
use Rattle.reference.specs.declared.TaggedProfile.{TaggedProfile}
use Rattle.reference.specs.declared.Tables.{Tables}
use Rattle.reference.specs.Typed.{Typed}
use Rattle.table.specs.Region.{Region, stored, entry}
use Rattle.table.specs.Flat.{body_numbers, tap_numbers, name_numbers, extra_numbers, front_numbers, profile_region, tap_region, name_region, extra_region, flat, bodies, table_size, Lent}
use Rattle.table.specs.Filed.{filed, no_counts}
use Rattle.table.proofs.Stored.{numbers_length}
use Rattle.table_entries.specs.Entries.{whole_profile_region}

-- all entries of a sort, whose region begins where what was put ends
stored_next : {E : Type 0} (g : Region E) (t : List ℕ) (a : ℕ) (done : List ℕ) (xs : List E) → length xs ≡ g.size → a + length done ≡ g.start → a ≤ length t
    → stored g (splice t a done) 0 xs ≡ splice t a (done ++ joined (map g.numbers xs))
unfolding stored
stored_next {E} g t a done xs f s h =
    let e : entry g 0 ≡ a + length done = omega arith in
    ap₂ (λ (k : ℕ) (l : List E). splice (splice t a done) k (joined (map g.numbers l))) e (take_all (g.size - 0) xs (omega arith))
    ∙ splice_splice t a done (joined (map g.numbers xs)) h

splice_all : (d xs : List ℕ) → length xs ≡ length d → splice d 0 xs ≡ xs
unfolding splice
splice_all d xs h = let e : length d ≤ 0 + length xs = omega arith in ap (λ (r : List ℕ). xs ++ r) (drop_of_length-le d e) ∙ append-nil xs

abbrev pub front_of : Tables → List ℕ
front_of x = front_numbers x.type_id x.profiles_used x.taps_used x.names_used x.extras_used

-- all profiles: as entries, and body by body
pub whole_stored : (t : List ℕ) (ps : List Profile) → length ps ≡ profile_region.size → stored whole_profile_region t 0 ps ≡ stored profile_region t 0 (bodies ps)
unfolding stored
whole_stored t ps h =
    let at = entry profile_region 0 in
    ap (λ (l : List Profile). splice t at (joined (map (λ p. body_numbers p.body) l))) (take_all 8 ps (omega arith))
    ∙ ap (λ (l : List (List ℕ)). splice t at (joined l)) (sym (map-map body_numbers (λ p. p.body) ps))
    ∙ ap (λ (l : List TaggedProfile). splice t at (joined (map body_numbers l))) (sym (take_all 8 (bodies ps) (omega (arith, length-map ps (λ p. p.body)))))

module _ (x : Tables) (y : Typed x) where
  abbrev bs : List ℕ
  bs = joined (map body_numbers (bodies x.profiles))

  abbrev ts : List ℕ
  ts = joined (map tap_numbers x.taps)

  abbrev ns : List ℕ
  ns = joined (map name_numbers x.names)

  abbrev es : List ℕ
  es = joined (map extra_numbers x.extras)

  full : {E : Type 0} (g : Region E) (xs : List E) → length xs ≡ g.size → length (joined (map g.numbers xs)) ≡ g.width * g.size
  full g xs h = numbers_length g xs ∙ ap (λ (k : ℕ). g.width * k) h

  bodies_size : length (bodies x.profiles) ≡ profile_region.size
  bodies_size = length-map x.profiles _ ∙ y.eight

  bodies_wide : length bs ≡ profile_region.width * profile_region.size
  bodies_wide = full profile_region (bodies x.profiles) bodies_size

  taps_wide : length ts ≡ tap_region.width * tap_region.size
  taps_wide = full tap_region x.taps y.thirty_six

  names_wide : length ns ≡ name_region.width * name_region.size
  names_wide = full name_region x.names y.names

  abbrev rest : List ℕ
  rest = ((bs ++ ts) ++ ns) ++ es

  rest_wide : profile_region.start + length rest ≡ table_size
  rest_wide =
      omega
      (arith, length-append ((bs ++ ts) ++ ns) es, length-append (bs ++ ts) ns, length-append bs ts, bodies_wide, taps_wide, names_wide, full extra_region x.extras y.thirty_two)

  flat_rest : flat x ≡ front_of x ++ rest
  unfolding flat
  flat_rest =
      ap (λ (l : List ℕ). front_of x ++ l)
      (ap₂ (λ (l r : List ℕ). l ++ (ts ++ (ns ++ r))) (ap joined (sym (map-map body_numbers (λ p. p.body) x.profiles))) (append-nil es)
      ∙ sym (append_assoc bs ts (ns ++ es))
      ∙ sym (append_assoc (bs ++ ts) ns es))

  module _ (t : List ℕ) (l : Lent t) where
    filed_rest : filed t 0 no_counts (bodies x.profiles) x.taps x.names x.extras ≡ splice t profile_region.start rest
    filed_rest =
        let ps = bodies x.profiles in
        ap (λ (u : List ℕ). filed u 0 no_counts ps x.taps x.names x.extras) (sym (splice_none t profile_region.start))
        ∙ ap (λ (u : List ℕ). stored extra_region (stored name_region (stored tap_region u 0 x.taps) 0 x.names) 0 x.extras)
        (stored_next profile_region t _ [] ps bodies_size (omega arith) (omega arith))
        ∙ ap (λ (u : List ℕ). stored extra_region (stored name_region u 0 x.names) 0 x.extras)
        (stored_next tap_region t _ bs x.taps y.thirty_six (omega (arith, bodies_wide)) (omega arith))
        ∙ ap (λ (u : List ℕ). stored extra_region u 0 x.extras)
        (stored_next name_region t _ (bs ++ ts) x.names y.names (omega (arith, length-append bs ts, bodies_wide, taps_wide)) (omega arith))
        ∙ stored_next extra_region t _ ((bs ++ ts) ++ ns) x.extras y.thirty_two
        (omega (arith, length-append (bs ++ ts) ns, length-append bs ts, bodies_wide, taps_wide, names_wide)) (omega arith)

    pub filed_flat : splice (filed t 0 no_counts (bodies x.profiles) x.taps x.names x.extras) 0 (front_of x) ≡ flat x
    filed_flat =
        ap (λ (u : List ℕ). splice u 0 (front_of x)) filed_rest
        ∙ sym (splice_comm 0 t (front_of x) profile_region.start rest (omega arith) (omega (arith, rest_wide)))
        ∙ splice_splice t 0 (front_of x) rest (omega arith)
        ∙ splice_all t (front_of x ++ rest) (omega (arith, rest_wide))
        ∙ sym flat_rest
