-- How far an answer looked: a reader's answer lies between where it began and its end, and where it accepts, or a value is wrong, no octet further on
-- changes it. One certificate, `Tells`, and one law for each step; `search` finds the certificate of a reader. Assumes nothing.
use Prim.Native.Nat.{ℕ, zero, suc, ◌+◌, ◌-◌, ◌≤◌}
use mathlib.Core.Path.{◌≡◌, refl, sym, ap, ◌∙◌, subst}
use mathlib.Core.Bool.{Bool, true, false, not}
use mathlib.Core.List.{List, [], ◌∷◌}
use native.Mathlib.Omega.{arith}
use lib.ListN.{take, drop}
use lib.Seq.{drop-drop}
use lib.Dec.{T, ltb, leb, eqb, leb→le, le→leb, nltb→le}
use Rattle.octets.specs.Octets.{part, be}
use Rattle.reference.specs.declared.Refusal.{Refusal}
use Rattle.reference.specs.Steps.{Answer, ok, refused, Reader, pick, followed, outward, done, need, number, run, rest, checked, choose, ending, within, fits, apart, many, after}
use Rattle.reference.specs.Refusals.{cut_at, left_at, long_at, wrong_at}
use Rattle.reference.specs.Where.{Field}
use Rattle.octets.proofs.Part.{part_cut, part_start}
use Rattle.reference.proofs.Laws.{guard_pass, pass_pass}
use Rattle.reference.proofs.Steps.{need_pass, run_pass, within_pass, fits_pass}

-- ---- what an answer tells

-- the fields whose values can be wrong, by their places
abbrev pub Fields : Type 0
Fields = ℕ → Field

-- how many octets from its offset on a refusal blames: the field's, where a value is wrong
abbrev pub blames : Fields → ℕ → ℕ → ℕ
blames F n place = pick (leb 3 n) (F place).width 0

-- up to where an answer looked at octets: all of what was read, or to the end of the field that is wrong
abbrev pub reach : {A : Type 0} → Fields → Answer A → ℕ
reach F (ok a next) = next
reach F (refused x) = x.offset + blames F x.number x.place

abbrev pub number_of : {A : Type 0} → Answer A → ℕ
number_of (ok a next) = 0
number_of (refused x) = x.number

-- no question of what is left: accepted, or a value is wrong
abbrev pub Sure : {A : Type 0} → Answer A → Type 0
Sure (ok a next) = Unit {0}
Sure (refused x) = 3 ≤ x.number

-- a wrong value is not what it must be
abbrev pub Wrong : {A : Type 0} → Fields → List ℕ → Answer A → Type 0
Wrong F d (ok a next) = Unit {0}
Wrong F d (refused x) = 3 ≤ x.number → T (not ((F x.place).must (be (part d x.offset (F x.place).width))))

-- r answers y from pos on, before end: y lies between the two, its number is at most 4, a value that it calls wrong is wrong; and where y is sure, r
-- answers so over every list that agrees as far as y looked, with any end for which E holds
pub record Knows {A : Type 0} (F : Fields) (E : ℕ → Type 0) (r : Reader A) (d : List ℕ) (pos end : ℕ) (y : Answer A) : Type 0 where
  pub from : pos ≤ reach F y
  pub to : reach F y ≤ end
  pub low : number_of y ≤ 4
  pub wrong : Wrong F d y
  pub same : (e : List ℕ) (last k : ℕ) → E last → take k e ≡ take k d → Sure y → reach F y ≤ k → r e pos last ≡ y

-- which ends are asked about: each from this one on, or this one alone, where what is left over matters
pub data Which : Type 0 where
  later : Which
  here : Which

abbrev pub Asked : Which → ℕ → ℕ → Type 0
Asked later end last = end ≤ last
Asked here end last = last ≡ end

asked_long : (w : Which) (end last : ℕ) → Asked w end last → end ≤ last
asked_long later end last h = h
asked_long here end last e = omega (arith, e)

-- where m octets are known to be there
pub record Tells {A : Type 0} (F : Fields) (w : Which) (m : ℕ) (r : Reader A) : Type 0 where
  pub it : (d : List ℕ) (pos end : ℕ) → pos + m ≤ end → Knows F (Asked w end) r d pos end (r d pos end)

same_part : (d e : List ℕ) (pos w k : ℕ) → take k e ≡ take k d → pos + w ≤ k → part e pos w ≡ part d pos w
same_part d e pos w k h l = sym (part_cut e pos w k l) ∙ ap (λ (x : List ℕ). part x pos w) h ∙ part_cut d pos w k l

part_part : (d : List ℕ) (pos n o w : ℕ) → o + w ≤ n → part (part d pos n) o w ≡ part d (pos + o) w
part_part d pos n o w h = part_cut (drop pos d) o w n h ∙ ap (take w) (drop-drop o pos d)

pub blames_wrong : (F : Fields) (n place : ℕ) → 3 ≤ n → blames F n place ≡ (F place).width
blames_wrong F n place h = ap (λ (b : Bool). pick b (F place).width 0) (T_true (leb 3 n) (le→leb 3 n h))
  where
    T_true : (b : Bool) → T b → b ≡ true
    T_true true t = refl
    T_true false t = absurd t

module _ {A : Type 0} {F : Fields} {E : ℕ → Type 0} {d : List ℕ} {pos end : ℕ} where
  -- octets are missing here, or what follows is known
  knows_guard : {r : Reader A} (b : Bool) (x : Refusal) (y : Answer A) → x.number ≤ 2 → x.offset + blames F x.number x.place ≡ pos → pos ≤ end
      → (T (not b) → Knows F E r d pos end y) → Knows F E r d pos end (pick b (refused x) y)
  knows_guard true x y n o l h = record { from = omega arith; to = omega arith; low = omega arith; wrong = λ h. absurd (omega arith); same = λ e last k el h su re. absurd (omega arith) }
  knows_guard false x y n o l h = h tt

  -- what R does here is what r does further on
  knows_by : {R r : Reader A} {mid : ℕ} {y : Answer A} → Knows F E r d mid end y → pos ≤ mid
      → ((e : List ℕ) (last k : ℕ) → E last → take k e ≡ take k d → reach F y ≤ k → R e pos last ≡ r e mid last) → Knows F E R d pos end y
  knows_by h l g =
      record { from = omega (arith, h.from); to = h.to; low = h.low; wrong = h.wrong; same = λ e last k el h' su re. g e last k el h' re ∙ h.same e last k el h' su re }

module _ {A : Type 0} {F : Fields} (which : Which) {d : List ℕ} {pos end : ℕ} where
  pub knows_need : (r : Reader A) (k place : ℕ) → pos ≤ end → (pos + k ≤ end → Knows F (Asked which end) r d pos end (r d pos end)) → Knows F (Asked which end) (need k place r) d pos end (need k place r d pos end)
  unfolding need
  knows_need r k place i h =
      knows_guard (ltb end (pos + k)) (cut_at place pos k end) (r d pos end) (omega arith) (omega arith) i λ t.
      let l : pos + k ≤ end = nltb→le end (pos + k) t in
      knows_by (h l) (omega arith) λ e last j el h' re. need_pass e pos last k place r (omega (arith, asked_long which end last el))

  -- a number that is checked: the place names a field of w octets, and the refusal is 3 or 4
  pub knows_checked : (f : ℕ → Reader A) (w : ℕ) (test : ℕ → Bool) (n place : ℕ) → leb 3 n ≡ true → T (leb n 4) → (F place).width ≡ w → ((v : ℕ) → (F place).must v ≡ test v) → pos + w ≤ end
      → (let v = be (part d pos w) in Knows F (Asked which end) (f v) d (pos + w) end (f v d (pos + w) end)) → Knows F (Asked which end) (checked w test n place f) d pos end (checked w test n place f d pos end)
  unfolding checked number
  knows_checked f w test n place n3 n4 fw must room s =
      let ff : blames F n place ≡ w = ap (λ (b : Bool). pick b (F place).width 0) n3 ∙ fw in
      let v = be (part d pos w) in
      let x = wrong_at n place pos in
      let again : (e : List ℕ) (last k : ℕ) → take k e ≡ take k d → pos + w ≤ k → checked w test n place f e pos last ≡ pick (test v) (f v e (pos + w) last) (refused x) =
      λ e last k h' l. ap (λ (u : ℕ). pick (test u) (f u e (pos + w) last) (refused x)) (ap be (same_part d e pos w k h' l)) in
      let go : (b : Bool) → test v ≡ b → Knows F (Asked which end) (checked w test n place f) d pos end (pick b (f v d (pos + w) end) (refused x)) = λ b. elim b as (λ b. test v ≡ b → Knows F (Asked which end) (checked w test n place f) d pos end (pick b (f v d (pos + w) end) (refused x))) [
        | true ↦ λ q. knows_by s (omega arith) λ e last k el h' re.
            again e last k h' (omega (arith, s.from)) ∙ pass_pass (test v) (f v e (pos + w) last) (refused x) (rw q tt)
        | false ↦ λ q. record {
          from = omega arith;
          to = omega arith;
          low = leb→le n 4 n4;
          wrong = λ h. rw (fw, must, q) tt;
          same = λ e last k el h' su re. again e last k h' (omega arith) ∙ guard_pass (test v) (f v e (pos + w) last) (refused x) (rw q tt);
        }
      ] in
      go (test v) refl

-- ---- the steps

module _ {A : Type 0} {F : Fields} {which : Which} {m : ℕ} where
  pub tells_done : (a : A) → Tells F which m (done a)
  unfolding done
  tells_done a = record { it = λ d pos end c. record { from = omega arith; to = omega arith; low = omega arith; wrong = tt; same = λ e last k el h su re. refl } }

  pub tells_need : {r : Reader A} (k place : ℕ) → Tells F which k r → Tells F which m (need k place r)
  tells_need {r} k place h = record { it = λ d pos end c. knows_need which r k place (omega arith) λ l. h.it d pos end l }

  pub tells_number : {f : ℕ → Reader A} (w : ℕ) → T (leb w m) → ((v : ℕ) → Tells F which (m - w) (f v)) → Tells F which m (number w f)
  unfolding number
  tells_number {f} w t h =
      record {
        it = λ d pos end c.
            let s = (h (be (part d pos w))).it d (pos + w) end (omega (arith, leb→le w m t)) in
            knows_by s (omega arith) λ e last k el h' re. ap (λ (v : ℕ). f v e (pos + w) last) (ap be (same_part d e pos w k h' (omega (arith, s.from))));
      }

  pub tells_run : {f : List ℕ → Reader A} (n : ℕ) → ((v : List ℕ) → Tells F which 0 (f v)) → Tells F which m (run n f)
  unfolding run
  tells_run {f} n h =
      record {
        it = λ d pos end c.
            knows_guard (ltb (end - pos) n) (long_at pos n end) (f (part d pos n) d (pos + n) end) (omega arith) (omega arith) (omega arith) λ t.
            let l : n ≤ end - pos = nltb→le (end - pos) n t in
            let s = (h (part d pos n)).it d (pos + n) end (omega arith) in
            knows_by s (omega arith) λ e last k el h' re.
            run_pass e pos last n f (omega (arith, asked_long which end last el)) ∙ ap (λ (v : List ℕ). f v e (pos + n) last) (same_part d e pos n k h' (omega (arith, s.from)));
      }

  -- the place names a field of w octets, and the number is 3 or 4
  pub tells_checked : {f : ℕ → Reader A} (w : ℕ) (test : ℕ → Bool) (n place : ℕ) → T (leb w m) → leb 3 n ≡ true → T (leb n 4) → (F place).width ≡ w → ((v : ℕ) → (F place).must v ≡ test v)
      → ((v : ℕ) → Tells F which (m - w) (f v)) → Tells F which m (checked w test n place f)
  tells_checked {f} w test n place t n3 n4 fw must h =
      record {
        it = λ d pos end c.
            let wm : w ≤ m = leb→le w m t in
            knows_checked which f w test n place n3 n4 fw must (omega arith) ((h (be (part d pos w))).it d (pos + w) end (omega arith));
      }

  pub tells_choose : {r s : Reader A} (b : Bool) → Tells F which m r → Tells F which m s → Tells F which m (choose b r s)
  unfolding choose
  tells_choose true h k = record { it = h.it }
  tells_choose false h k = record { it = k.it }

-- what stands behind a part may look at the end; the part may not, unless it is the last
module _ {A B : Type 0} {F : Fields} {m : ℕ} {r : Reader B} where
  pub tells_after : {which : Which} {f : B → Reader A} → Tells F later 0 r → ((b : B) → Tells F which 0 (f b)) → Tells F which m (after r f)
  unfolding after
  tells_after {which} {f} h g = record { it = λ d pos end c. go d pos end (r d pos end) (h.it d pos end (omega arith)) }
    where
      go : (d : List ℕ) (pos end : ℕ) (y : Answer B) → Knows F (Asked later end) r d pos end y
          → Knows F (Asked which end) (after r f) d pos end (followed y (λ b next. f b d next end))
      go d pos end (ok b next) s =
          let t = (g b).it d next end (omega (arith, s.to)) in
          knows_by t s.from λ e last k el h' re.
          ap (λ (y : Answer B). followed y (λ b next. f b e next last)) (s.same e last k (asked_long which end last el) h' tt (omega (arith, t.from)))
      go d pos end (refused x) s =
          record {
            from = s.from;
            to = s.to;
            low = s.low;
            wrong = s.wrong;
            same = λ e last k el h' su re. ap (λ (y : Answer B). followed y (λ b next. f b e next last)) (s.same e last k (asked_long which end last el) h' su re);
          }

  pub tells_last : (make : B → A) → Tells F here m r → Tells F here m (after r (λ b. done (make b)))
  unfolding after done
  tells_last make h = record { it = λ d pos end c. go d pos end (r d pos end) (h.it d pos end c) }
    where
      go : (d : List ℕ) (pos end : ℕ) (y : Answer B) → Knows F (Asked here end) r d pos end y
          → Knows F (Asked here end) (after r (λ b. done (make b))) d pos end (followed y (λ b next. ok (make b) next))
      go d pos end (ok b next) s =
          record {
            from = s.from;
            to = s.to;
            low = s.low;
            wrong = tt;
            same = λ e last k el h' su re. ap (λ (y : Answer B). followed y (λ b next. ok (make b) next)) (s.same e last k el h' tt re);
          }
      go d pos end (refused x) s =
          record {
            from = s.from;
            to = s.to;
            low = s.low;
            wrong = s.wrong;
            same = λ e last k el h' su re. ap (λ (y : Answer B). followed y (λ b next. ok (make b) next)) (s.same e last k el h' su re);
          }

pub tells_many : {A : Type 0} {F : Fields} {m : ℕ} {r : Reader A} → Tells F later 0 r → (n : ℕ) → Tells F later m (many n r)
unfolding many after done
tells_many h zero = record { it = (tells_done {which = later} []).it }
tells_many h (suc n) = record { it = (tells_after {which = later} h (λ a. tells_after (tells_many h n) (λ l. tells_done (a ∷ l)))).it }

-- ---- what must reach the end, and what an end of its own is given

-- what is left over is asked for only after all was read
left_alike : {A : Type 0} (F : Fields) (place end : ℕ) (y : Answer A) → number_of y ≤ 4
    → let z = followed y (λ a next. pick (eqb next end) (ok a next) (refused (left_at place next end))) in (reach F z ≡ reach F y) × (number_of z ≤ 4) × (Sure z → Sure y) × ((d : List ℕ) → Wrong F d y → Wrong F d z)
left_alike {A} F place end (ok a next) l = go (eqb next end)
  where
    go : (b : Bool) → let z = pick b (ok a next) (refused (left_at place next end)) in (reach F z ≡ next) × (number_of z ≤ 4) × (Sure z → Unit {0}) × ((d : List ℕ) → Unit {0} → Wrong F d z)
    go true = (refl, omega arith, λ s. tt, λ d w. w)
    go false = (omega arith, omega arith, λ s. tt, λ d w h. absurd (omega arith))
left_alike F place end (refused x) l = (refl, l, λ s. s, λ d w. w)

-- an answer from within data of n octets
outward_reach : {A : Type 0} (F : Fields) (pos n : ℕ) (y : Answer A) → reach F y ≤ n → number_of y ≤ 4
    → let z = outward pos n y in (pos + reach F y ≤ reach F z) × (reach F z ≤ pos + n) × (number_of z ≤ 4) × (Sure z → Sure y) × ((d : List ℕ) → Wrong F (part d pos n) y → Wrong F d z)
outward_reach F pos n (ok a next) h l = (omega arith, omega arith, omega arith, λ s. tt, λ d w. tt)
outward_reach F pos n (refused x) h l = (
  omega arith,
  omega arith,
  l,
  λ s. s,
  λ d w t.
      let f : blames F x.number x.place ≡ (F x.place).width = blames_wrong F x.number x.place t in
      subst (λ (p : List ℕ). T (not ((F x.place).must (be p)))) (part_part d pos n x.offset (F x.place).width (omega arith)) (w t),
)

pub knows_ending : {A : Type 0} {F : Fields} {r : Reader A} {d : List ℕ} {pos end : ℕ} (place : ℕ) → Knows F (Asked later end) r d pos end (r d pos end)
    → Knows F (Asked here end) (ending place r) d pos end (ending place r d pos end)
unfolding ending
knows_ending {A} {F} {r} {d} {pos} {end} place s =
    let (n, l, u, w) = left_alike F place end (r d pos end) s.low in
    record {
      from = omega (arith, s.from);
      to = omega (arith, s.to);
      low = l;
      wrong = w d s.wrong;
      same = λ e last k el h' su re.
          ap (λ (x : ℕ). ending place r e pos x) el
          ∙ ap (λ (y : Answer A). followed y (λ a next. pick (eqb next end) (ok a next) (refused (left_at place next end)))) (s.same e end k (omega arith) h' (u su) (omega arith));
    }

module _ {A : Type 0} {F : Fields} {m : ℕ} {r : Reader A} where
  pub tells_ending : (place : ℕ) → Tells F later 0 r → Tells F here m (ending place r)
  tells_ending place h = record { it = λ d pos end c. knows_ending place (h.it d pos end (omega arith)) }

  pub tells_within : {which : Which} (n : ℕ) → Tells F here 0 r → Tells F which m (within n r)
  unfolding within
  tells_within {which} n h =
      record {
        it = λ d pos end c.
            knows_guard (ltb (end - pos) n) (long_at pos n end) (r d pos (pos + n)) (omega arith) (omega arith) (omega arith) λ t.
            let l : n ≤ end - pos = nltb→le (end - pos) n t in
            let s = h.it d pos (pos + n) (omega arith) in
            record {
              from = s.from;
              to = omega (arith, s.to);
              low = s.low;
              wrong = s.wrong;
              same = λ e last k el h' su re. within_pass e pos last n r (omega (arith, asked_long which end last el)) ∙ s.same e (pos + n) k refl h' su re;
            };
      }

  pub tells_inside : {which : Which} (n : ℕ) → Tells F here 0 r → Tells F which m (fits n (apart n r))
  unfolding fits apart
  tells_inside {which} n h =
      record {
        it = λ d pos end c.
            let y = r (part d pos n) 0 n in
            knows_guard (ltb (end - pos) n) (long_at pos n end) (outward pos n y) (omega arith) (omega arith) (omega arith) λ t.
            let l : n ≤ end - pos = nltb→le (end - pos) n t in
            let s = h.it (part d pos n) 0 n (omega arith) in
            let (a, b, l', u, w) = outward_reach F pos n y s.to s.low in
            record {
              from = omega arith;
              to = omega arith;
              low = l';
              wrong = w d s.wrong;
              same = λ e last k el h' su re.
                  let j = reach F y in
                  let p : take j (part e pos n) ≡ take j (part d pos n) = part_start e pos n j s.to ∙ same_part d e pos j k h' (omega arith) ∙ sym (part_start d pos n j s.to) in
                  fits_pass e pos last n (apart n r) (omega (arith, asked_long which end last el)) ∙ ap (outward pos n) (s.same (part e pos n) n j refl p (u su) (omega arith));
            };
      }

pub tells_rest : {A : Type 0} {F : Fields} {m : ℕ} (make : List ℕ → A) → Tells F here m (rest λ s. done (make s))
unfolding rest done
tells_rest make =
    record {
      it = λ d pos end c.
          record {
            from = omega arith;
            to = omega arith;
            low = omega arith;
            wrong = tt;
            same = λ e last k el h su re.
                ap (λ (x : ℕ). ok (make (part e pos (x - pos))) x) el ∙ ap (λ (s : List ℕ). ok (make s) end) (same_part d e pos (end - pos) k h (omega arith));
          };
    }

-- what `search` puts a reader's certificate together from, with `tt` for the widths
pub ruleset tells = (tells_done, tells_need, tells_number, tells_checked, tells_run, tells_choose, tells_after, tells_last, tells_many, tells_ending, tells_within, tells_inside, tells_rest)
