-- Where a reading broke: the third figure lies within the slice, where a value is wrong the wrong field stands there, and nothing behind it is to blame.
-- Assumes nothing.
use Prim.Native.Nat.{ℕ, ◌+◌, ◌≤◌}
use mathlib.Core.Path.{◌≡◌, refl, sym, ap, ◌∙◌, subst}
use mathlib.Core.Bool.{Bool, true, false, not}
use mathlib.Core.Logic.{◌≢◌, ◌⊎◌, inl, inr, ⊎_elim}
use mathlib.Core.List.{List, [], ◌∷◌}
use native.Mathlib.Omega.{arith}
use lib.ListN.{length}
use lib.Dec.{T, ltb, eqb, le→leb}
use Rattle.octets.specs.Octets.{part, be}
use Rattle.reference.specs.declared.Refusal.{Refusal}
use Rattle.reference.specs.declared.TypeIdRule.{TypeIdRule}
use Rattle.reference.specs.declared.TypeIdRule.TheVariants.{Multiple, Gap}
use Rattle.reference.specs.Meaning.{Profile, Reference, taps_of, names_of, extras_of, sum}
use Rattle.reference.specs.Layout.{allowed, gap_length, gap}
use Rattle.reference.specs.Steps.{Answer, ok, refused, Reader, pick, followed, done, run, ending, many, after}
use Rattle.reference.specs.Refusals.{refusal, left_at}
use Rattle.reference.specs.Reader.{read_count, read_run, read_named, component, read_fixed, read_extra, read_tap, read_location, read_object_location, read_binder, read_biop, read_address, read_name, read_context, read_service, read_lite, read_body, read_profile, read_gap, read_reference, limit, roomy, sized, read_leading, read_whole}
use Rattle.reference.specs.Checks.{Among}
use Rattle.reference.specs.Names.{read_short, read_short_name}
use Rattle.reference.specs.Where.{fields, field_among, field_in, width_in, Points, Alike}
use Rattle.reference.specs.Places.{place_reference_fixed, place_profile_count, place_type_id_length, place_gap_value, place_gap, place_reference_leftover, place_profiles, place_taps, place_names, place_extras}
use Rattle.reference.proofs.Laws.{refused_ok, guard_pass, not_ltb}
use Rattle.reference.proofs.Steps.{ending_no}
use Rattle.reference.proofs.Reach.{Fields, blames_wrong, reach, Sure, Knows, later, here, Asked, Tells, knows_need, knows_checked, knows_ending, tells_done, tells_need, tells_checked, tells}

-- ---- the readers' certificates

module _ (rule : TypeIdRule) (n : ℕ) where
  -- the fields of a slice whose type id has n octets
  abbrev own : Fields
  own = field_among (fields rule n)

  biop_tells : Tells own here 0 read_biop
  unfolding read_count component read_fixed read_extra read_tap read_location read_object_location read_binder read_biop
  biop_tells = search (tells, tt) depth 60 fits 4000

  lite_tells : Tells own here 0 read_lite
  unfolding read_count read_run read_named component read_fixed read_extra read_address read_name read_context read_service read_lite
  lite_tells = search (tells, tt) depth 60 fits 4000

  body_tells : (t : ℕ) → Tells own here 0 (read_body t)
  unfolding read_body
  body_tells t = search (tells, biop_tells, lite_tells)

  profile_tells : Tells own later 0 read_profile
  unfolding read_profile
  profile_tells = search (tells, tt, body_tells)

  gap_tells : Tells own later 0 (read_gap rule n)
  unfolding read_gap
  gap_tells =
      let k = gap_length rule n in
      tells_need k place_gap (tells_checked k (λ v. eqb v (be (gap rule n))) 3 place_gap_value (le→leb k k (omega arith)) refl tt refl (λ v. refl) λ v. tells_done v)

  -- behind the length of the type id
  abbrev behind : Reader Reference
  behind = run n λ i. after (read_gap rule n) λ g. after (read_count 4 place_profile_count) λ c. after (many c read_profile) λ l. done (record { type_id = i; profiles = l })

  behind_tells : Tells own later 4 behind
  unfolding read_count
  behind_tells = search (tells, tt, gap_tells, profile_tells) depth 20

  short_tells : Tells own later 0 read_short
  unfolding read_run read_named read_short
  short_tells = search (tells, tt) depth 20

reference_knows : (rule : TypeIdRule) (d : List ℕ) (end : ℕ) → Knows (field_in rule d) (Asked later end) (read_reference rule) d 0 end (read_reference rule d 0 end)
unfolding read_reference
reference_knows rule d end =
    knows_need later _ (4 + 4) place_reference_fixed (omega arith) λ l.
    knows_checked later (behind rule) 4 (allowed rule) 4 place_type_id_length refl tt refl (λ v. refl) (omega arith) ((behind_tells rule (be (part d 0 4))).it d 4 end l)

-- what is refused in a profile's data points within it
pub body_inside : (t : ℕ) (d : List ℕ) (n : ℕ) (x : Refusal) → read_body t d 0 n ≡ refused x → x.offset ≤ n
body_inside t d n x e =
    let k = subst (λ (y : Answer Profile). Knows (own Multiple 0) (Asked here n) (read_body t) d 0 n y) e ((body_tells Multiple 0 t).it d 0 n (omega arith)) in
    omega (arith, k.to)

-- ---- the whole: 6 and 7 name no octet

abbrev Late : Refusal → Type 0
Late x = (6 ≤ x.number) × (x.offset ≡ 0)

-- a refusal that is told is late, if the one it is told of is
told_late : {A : Type 0} {z x : Refusal} → ◌≡◌ {A = Answer A} (refused z) (refused x) → Late z → Late x
told_late {A} {z} {x} e l = let q : z ≡ x = cc in subst Late q l

late_limit : (size place n : ℕ) (y : Answer Reference) {x : Refusal} → (y ≡ refused x → Late x) → limit size place n y ≡ refused x → Late x
late_limit size place n y {x} k e = go (ltb size n) e
  where
    go : (b : Bool) → pick b (refused (refusal 7 place n size)) y ≡ refused x → Late x
    go true q = told_late q (omega arith, refl)
    go false q = k q

late_roomy : (m : Reference) (next : ℕ) {x : Refusal} → roomy m next ≡ refused x → Late x
late_roomy m next =
    let p = m.profiles in
    late_limit 8 place_profiles (length p) _ (late_limit 36 place_taps (sum taps_of p) _ (late_limit 32 place_names (sum names_of p) _ (late_limit 32 place_extras (sum extras_of p) (ok m next) (λ e. absurd (refused_ok (sym e))))))

-- a refusal is 6 or 7, or the reader's own
sized_no : (b : Bool) (n : ℕ) (y : Answer Reference) {x : Refusal} → pick b (refused (refusal 6 0 n 65535)) (followed y roomy) ≡ refused x
    → (Late x) ⊎ ((T (not b)) × (y ≡ refused x))
sized_no true n y e = inl (told_late e (omega arith, refl))
sized_no false n (ok m next) e = inl (late_roomy m next e)
sized_no false n (refused z) e = inr (tt, e)

-- what 3 and 4, 6 and 7 are
pub wrongs : (n : ℕ) → Among n (3 ∷ 4 ∷ []) → (3 ≤ n) × (n ≤ 4)
wrongs n (inl e) = (omega arith, omega arith)
wrongs n (inr (inl e)) = (omega arith, omega arith)
wrongs n (inr (inr x)) = elim x [ ]

lates : (n : ℕ) → Among n (6 ∷ 7 ∷ []) → 6 ≤ n
lates n (inl e) = omega arith
lates n (inr (inl e)) = omega arith
lates n (inr (inr x)) = elim x [ ]

late_points : (rule : TypeIdRule) (d : List ℕ) (x : Refusal) → Late x → Points rule d x
late_points rule d x l =
    record {
      inside = omega arith;
      field = λ a. absurd (omega (arith, (wrongs x.number a).1));
      wrong = λ a. absurd (omega (arith, (wrongs x.number a).1));
      none = λ a. l.1;
    }

own_points : {A : Type 0} {E : ℕ → Type 0} {r : Reader A} (rule : TypeIdRule) (d : List ℕ) (x : Refusal) (y : Answer A) → Knows (field_in rule d) E r d 0 (length d) y → y ≡ refused x → Points rule d x
own_points {A} {E} {r} rule d x y s q =
    let k : Knows (field_in rule d) E r d 0 (length d) (refused x) = subst (λ (y : Answer A). Knows (field_in rule d) E r d 0 (length d) y) q s in
    record {
      inside = omega (arith, k.to);
      field = λ a. omega (arith, k.to, blames_wrong (field_in rule d) x.number x.place (wrongs x.number a).0);
      wrong = λ a. k.wrong (wrongs x.number a).0;
      none = λ a. absurd (omega (arith, k.low, lates x.number a));
    }

points : {E : ℕ → Type 0} (rule : TypeIdRule) (d : List ℕ) (r : Reader Reference) → Knows (field_in rule d) E r d 0 (length d) (r d 0 (length d)) → (x : Refusal) → sized d r ≡ refused x → Points rule d x
points rule d r s x e = ⊎_elim (late_points rule d x) (λ q. own_points rule d x (r d 0 (length d)) s q.1) (sized_no (ltb 65535 (length d)) (length d) (r d 0 (length d)) e)

-- The third figure of a refused reading lies within the slice; where a value is wrong, the field stands there and is wrong; 6 and 7 have 0.
pub leading_points : (rule : TypeIdRule) (d : List ℕ) (x : Refusal) → read_leading rule d ≡ refused x → Points rule d x
unfolding read_leading
leading_points rule d x e = points rule d (read_reference rule) (reference_knows rule d (length d)) x e

pub whole_points : (rule : TypeIdRule) (d : List ℕ) (x : Refusal) → read_whole rule d ≡ refused x → Points rule d x
unfolding read_whole
whole_points rule d x e = points rule d (ending place_reference_leftover (read_reference rule)) (knows_ending place_reference_leftover (reference_knows rule d (length d))) x e

-- The same of the 8-bit name, which has no such value.
pub short_points : (rule : TypeIdRule) (d : List ℕ) (x : Refusal) → read_short_name d ≡ refused x → Points rule d x
unfolding read_short_name
short_points rule d x e = go (ltb 65535 (length d)) e
  where
    go : (b : Bool) → pick b (refused (refusal 6 0 (length d) 65535)) (read_short d 0 (length d)) ≡ refused x → Points rule d x
    go true q = late_points rule d x (told_late q (omega arith, refl))
    go false q = own_points rule d x (read_short d 0 (length d)) ((short_tells rule (be (part d 0 4))).it d 0 (length d) (omega arith)) q

-- ---- nothing behind the field is to blame

-- where a value is wrong in d, the reader refuses so whatever stands behind the field
reference_blamed : (rule : TypeIdRule) (d e : List ℕ) (x : Refusal) → Among x.number (3 ∷ 4 ∷ []) → Alike rule d e x → read_reference rule d 0 (length d) ≡ refused x → read_reference rule e 0 (length e) ≡ refused x
reference_blamed rule d e x a l q =
    let (three, four) = wrongs x.number a in
    (reference_knows rule d (length d)).same e (length e) (x.offset + width_in rule d x.place) l.long l.same
    (subst (λ (y : Answer Reference). Sure y) (sym q) three) (subst (λ (y : Answer Reference). reach (field_in rule d) y ≤ x.offset + width_in rule d x.place) (sym q) (omega (arith, blames_wrong (field_in rule d) x.number x.place three))) ∙ q

sized_blamed : (rule : TypeIdRule) (d e : List ℕ) (r : Reader Reference) (x : Refusal) → Among x.number (3 ∷ 4 ∷ []) → Alike rule d e x
    → (r d 0 (length d) ≡ refused x → r e 0 (length e) ≡ refused x) → sized d r ≡ refused x → sized e r ≡ refused x
sized_blamed rule d e r x a l h q =
    ⊎_elim (λ z. absurd (omega (arith, (wrongs x.number a).1)))
    (λ p.
    guard_pass (ltb 65535 (length e)) (refused (refusal 6 0 (length e) 65535)) (followed (r e 0 (length e)) roomy) (not_ltb 65535 (length e) l.small)
    ∙ ap (λ (y : Answer Reference). followed y roomy) (h p.1))
    (sized_no (ltb 65535 (length d)) (length d) (r d 0 (length d)) q)

-- Where a value is wrong (3, 4), every slice of at least this length, up to 65,535, that agrees with this one up to the end of the field is refused
-- with the same refusal: nothing behind the field is to blame.
pub leading_blamed : (rule : TypeIdRule) (d e : List ℕ) (x : Refusal) → Among x.number (3 ∷ 4 ∷ []) → Alike rule d e x → read_leading rule d ≡ refused x → read_leading rule e ≡ refused x
unfolding read_leading
leading_blamed rule d e x a l q = sized_blamed rule d e (read_reference rule) x a l (reference_blamed rule d e x a l) q

-- leftover octets are no wrong value
ending_wrong : (place end : ℕ) (y : Answer Reference) {x : Refusal} → 3 ≤ x.number → followed y (λ m next. pick (eqb next end) (ok m next) (refused (left_at place next end))) ≡ refused x → y ≡ refused x
ending_wrong place end (refused z) h e = e
ending_wrong place end (ok m next) {x} h e = go (eqb next end) e
  where
    go : (b : Bool) → pick b (ok m next) (refused (left_at place next end)) ≡ refused x → ok m next ≡ refused x
    go true q = q
    go false q = let z : 1 ≡ x.number = cc in absurd (omega arith)

pub whole_blamed : (rule : TypeIdRule) (d e : List ℕ) (x : Refusal) → Among x.number (3 ∷ 4 ∷ []) → Alike rule d e x → read_whole rule d ≡ refused x → read_whole rule e ≡ refused x
unfolding read_whole ending
whole_blamed rule d e x a l q =
    sized_blamed rule d e (ending place_reference_leftover (read_reference rule)) x a l
    (λ p. ending_no e 0 (length e) place_reference_leftover (read_reference rule) (reference_blamed rule d e x a l (ending_wrong place_reference_leftover (length d) (read_reference rule d 0 (length d)) (wrongs x.number a).0 p))) q

-- ---- rule 2 finds no length of a type id wrong

pub any_length : (d : List ℕ) (x : Refusal) → Points Gap d x → x.number ≡ 4 → x.place ≢ place_type_id_length
any_length d x p n e = subst (λ (place : ℕ). T (not ((field_in Gap d place).must (be (part d x.offset (width_in Gap d place)))))) e (p.wrong (inr (inl n)))
