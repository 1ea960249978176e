-- A reader is right: it answers `ok a next` exactly where the layout of a good `a` stands. The laws by which readers are put together.
-- Assumes nothing.
use Prim.Native.Nat.{ℕ, zero, suc, ◌+◌, ◌-◌, ◌^◌, ◌<◌, ◌≤◌}
use mathlib.Core.Path.{◌≡◌, refl, sym, ap, ap₂, ◌∙◌, subst}
use mathlib.Core.Bool.{Bool, true, false, not}
use mathlib.Core.List.{List, [], ◌∷◌, ◌++◌, append_assoc, append-nil, map}
use native.Mathlib.Nat.{suc_inj}
use native.Mathlib.Omega.{arith}
use lib.ListN.{length, take, drop, length-append, drop_of_length-le}
use lib.Seq.{drop-drop, drop_at, take_at}
use lib.Dec.{T, ltb, leb, eqb, leb→le, le→leb, ltb→lt, nltb→le, not_T, eqb→eq, eqb_refl, nleb→lt}
use Rattle.octets.specs.Octets.{Each, Octets, part, be, octets, joined}
use Rattle.reference.specs.declared.Refusal.{Refusal}
use Rattle.reference.specs.Steps.{Answer, ok, refused, Reader, pick, outward, done, need, number, run, rest, checked, choose, ending, within, fits, apart, many, after, followed}
use Rattle.reference.specs.Refusals.{cut_at, left_at, long_at, wrong_at}
use Rattle.octets.proofs.Part.{part_at, length_part, octets_part, part_cut}
use Rattle.octets.proofs.Inverse.{length_octets, be_lt, be_octets, octets_be}

-- ---- where a list stands in another

-- l stands at pos and ends at next, not past end
pub record Found (d : List ℕ) (pos end : ℕ) (l : List ℕ) (next : ℕ) : Type 0 where
  pub span : next ≡ pos + length l
  pub here : drop pos d ≡ l ++ drop next d
  pub room : next ≤ end

pub found_join : {d : List ℕ} {pos end next mid : ℕ} (l l' : List ℕ) → mid ≡ pos + length l → drop pos d ≡ l ++ drop mid d → Found d mid end l' next → Found d pos end (l ++ l') next
found_join {d} {pos} {end} {next} {mid} l l' m h f =
    record {
      span = omega (arith, f.span, length-append l l');
      here = h ∙ ap (λ (x : List ℕ). l ++ x) f.here ∙ sym (append_assoc l l' (drop next d));
      room = f.room;
    }

pub found_first : {d : List ℕ} {pos end next : ℕ} (l l' : List ℕ) → Found d pos end (l ++ l') next → drop pos d ≡ l ++ drop (pos + length l) d
found_first {d} {pos} {end} {next} l l' f =
    let e : drop pos d ≡ l ++ (l' ++ drop next d) = f.here ∙ append_assoc l l' (drop next d) in
    e ∙ ap (λ (x : List ℕ). l ++ x) (sym (drop_at l (l' ++ drop next d) (length l) refl) ∙ ap (λ (x : List ℕ). drop (length l) x) (sym e) ∙ drop-drop (length l) pos d)

pub found_rest : {d : List ℕ} {pos end next : ℕ} (l l' : List ℕ) → Found d pos end (l ++ l') next → Found d (pos + length l) end l' next
found_rest {d} {pos} {end} {next} l l' f =
    let e : drop pos d ≡ l ++ (l' ++ drop next d) = f.here ∙ append_assoc l l' (drop next d) in
    record {
      span = omega (arith, f.span, length-append l l');
      here = sym (drop-drop (length l) pos d) ∙ ap (λ (x : List ℕ). drop (length l) x) e ∙ drop_at l (l' ++ drop next d) (length l) refl;
      room = f.room;
    }

pub found_part : {d : List ℕ} {pos end next : ℕ} (l l' : List ℕ) (w : ℕ) → length l ≡ w → Found d pos end (l ++ l') next → part d pos w ≡ l
found_part {d} {pos} l l' w n f = ap (λ (x : List ℕ). take w x) (found_first l l' f) ∙ take_at l (drop (pos + length l) d) w n

-- l stood at pos in a list of which d has the same octets before end, and l ended past end
pub record Cut (d : List ℕ) (pos end : ℕ) (l : List ℕ) : Type 0 where
  pub whole : List ℕ
  pub next : ℕ
  pub same : take end whole ≡ take end d
  pub found : Found whole pos next l next
  pub past : end < next

-- what stands before the cut is found in the cut list
pub cut_found : {d : List ℕ} {pos end : ℕ} (l l' : List ℕ) → Cut d pos end (l ++ l') → pos + length l ≤ end → Found d pos end l (pos + length l)
cut_found {d} {pos} {end} l l' c h =
    let w = c.whole in
    let p : part d pos (length l) ≡ l = sym (part_cut d pos (length l) end h) ∙ ap (λ (x : List ℕ). part x pos (length l)) (sym c.same) ∙ part_cut w pos (length l) end h
    ∙ found_part l l' (length l) refl c.found in
    record { span = refl; here = part_at d pos (length l) ∙ ap (λ (x : List ℕ). x ++ drop (pos + length l) d) p; room = h }

pub cut_part : {d : List ℕ} {pos end : ℕ} (l l' : List ℕ) (w : ℕ) → length l ≡ w → Cut d pos end (l ++ l') → pos + w ≤ end → part d pos w ≡ l
cut_part {d} {pos} {end} l l' w n c h =
    sym (part_cut d pos w end h) ∙ ap (λ (x : List ℕ). part x pos w) (sym c.same) ∙ part_cut c.whole pos w end h ∙ found_part l l' w n c.found

pub cut_rest : {d : List ℕ} {pos end : ℕ} (l l' : List ℕ) (w : ℕ) → length l ≡ w → Cut d pos end (l ++ l') → Cut d (pos + w) end l'
cut_rest l l' w n c = record { whole = c.whole; next = c.next; same = c.same; found = rw n at (found_rest l l' c.found); past = c.past }

-- ---- a reader is right

pub record Place (d : List ℕ) (pos end m : ℕ) : Type 0 where
  pub octs : Octets d
  pub fits : end ≤ length d
  pub room : pos + m ≤ end

abbrev pub Short : {A : Type 0} → Answer A → Type 0
Short (ok a next) = ⊥
Short (refused x) = (1 ≤ x.number) × (x.number ≤ 2)

-- where m octets are known to be there, r reads what lay writes of the values that are good, and refuses it with 1 or 2 where it is cut off
pub record Reads {A : Type 0} (m : ℕ) (r : Reader A) (lay : A → List ℕ) (good : A → Type 0) : Type 0 where
  pub sound : (d : List ℕ) (pos end : ℕ) → Place d pos end m → (a : A) (next : ℕ) → r d pos end ≡ ok a next → (Found d pos end (lay a) next) × (good a)
  pub complete : (d : List ℕ) (pos end : ℕ) → Place d pos end m → (a : A) (next : ℕ) → Found d pos end (lay a) next → good a → r d pos end ≡ ok a next
  pub short : (d : List ℕ) (pos end : ℕ) → Place d pos end m → (a : A) → Cut d pos end (lay a) → good a → Short (r d pos end)
  pub least : (a : A) → good a → m ≤ length (lay a)

move : {d : List ℕ} {pos end m : ℕ} (p k : ℕ) → Place d pos end m → p + k ≤ end → Place d p end k
move p k c h = record { octs = c.octs; fits = c.fits; room = h }

pub not_ltb : (m n : ℕ) → n ≤ m → T (not (ltb m n))
not_ltb m n h = not_T (ltb m n) (λ t. omega (arith, ltb→lt m n t))

module _ {A : Type 0} where
  pub refused_ok : {x : Refusal} {a : A} {next : ℕ} → refused x ≡ ok a next → ⊥
  refused_ok e = let z : ◌≡◌ {A = ℕ} 0 1 = cc in omega arith

  pub guard_ok : (b : Bool) (x : Refusal) (y : Answer A) {a : A} {next : ℕ} → pick b (refused x) y ≡ ok a next → (T (not b)) × (y ≡ ok a next)
  guard_ok true x y e = absurd (refused_ok e)
  guard_ok false x y e = (tt, e)

  pub guard_pass : (b : Bool) (x y : Answer A) → T (not b) → pick b x y ≡ y
  guard_pass true x y t = absurd t
  guard_pass false x y t = refl

  -- a refusal by 1 or 2, and where the guard passes the same of what follows
  pub guard_short : (b : Bool) (x : Refusal) (y : Answer A) → (1 ≤ x.number) × (x.number ≤ 2) → (T (not b) → Short y) → Short (pick b (refused x) y)
  guard_short true x y h f = h
  guard_short false x y h f = f tt

module _ {A : Type 0} {good : A → Type 0} where
  pub reads_done : (b : A) → good b → ((a : A) → good a → a ≡ b) → Reads 0 (done b) (λ a. []) good
  unfolding done
  reads_done b g u =
      record {
        sound = λ d pos end c a next e.
            let ea : b ≡ a = cc in
            let en : pos ≡ next = cc in
            (record { span = omega arith; here = rw en; room = omega arith }, subst good ea g);
        complete = λ d pos end c a next f h.
            let ea : a ≡ b = u a h in
            let en : next ≡ pos = omega (arith, f.span) in
            rw (ea, en);
        short = λ d pos end c a k h. omega (arith, k.found.span, k.past, c.room);
        least = λ a h. omega arith;
      }

module _ {A : Type 0} {good : A → Type 0} {lay : A → List ℕ} where
  -- k octets are asked for, and what is read has as many
  pub reads_need : {r : Reader A} (k place : ℕ) → Reads k r lay good → Reads 0 (need k place r) lay good
  unfolding need
  reads_need {r} k place h =
      record {
        sound = λ d pos end c a next e.
            let g = guard_ok (ltb end (pos + k)) (cut_at place pos k end) (r d pos end) e in
            h.sound d pos end (move pos k c (nltb→le end (pos + k) g.0)) a next g.1;
        complete = λ d pos end c a next f g.
            let l : pos + k ≤ end = omega (arith, h.least a g, f.span, f.room) in
            guard_pass (ltb end (pos + k)) (refused (cut_at place pos k end)) (r d pos end) (not_ltb end (pos + k) l)
            ∙ h.complete d pos end (move pos k c l) a next f g;
        short = λ d pos end c a s g.
            guard_short (ltb end (pos + k)) (cut_at place pos k end) (r d pos end) (omega arith)
            (λ t. h.short d pos end (move pos k c (nltb→le end (pos + k) t)) a s g);
        least = λ a g. omega arith;
      }

  -- more octets are known to be there than are asked for
  pub reads_more : {r : Reader A} (k m : ℕ) → T (leb k m) → ((a : A) → good a → m ≤ length (lay a)) → Reads k r lay good → Reads m r lay good
  reads_more k m t l h =
      record {
        sound = λ d pos end c. h.sound d pos end (move pos k c (omega (arith, leb→le k m t, c.room)));
        complete = λ d pos end c. h.complete d pos end (move pos k c (omega (arith, leb→le k m t, c.room)));
        short = λ d pos end c. h.short d pos end (move pos k c (omega (arith, leb→le k m t, c.room)));
        least = l;
      }

  pub reads_number : {m : ℕ} {f : ℕ → Reader A} (w : ℕ) (get : A → ℕ) → T (leb w m) → ((a : A) → good a → get a < 256 ^ w)
      → ((v : ℕ) → v < 256 ^ w → Reads (m - w) (f v) lay (λ a. (good a) × (get a ≡ v))) → Reads m (number w f) (λ a. octets w (get a) ++ lay a) good
  unfolding number
  reads_number {m} {f} w get t small h =
      record {
        sound = λ d pos end c a next e.
            let p = part d pos w in
            let n : length p ≡ w = length_part d pos w (omega (arith, leb→le w m t, c.fits, c.room)) in
            let o = octets_part d pos w c.octs in
            let lt : be p < 256 ^ w = rw n at (be_lt p o) in
            let ih = (h (be p) lt).sound d (pos + w) end (move (pos + w) (m - w) c (omega (arith, leb→le w m t, c.room))) a next e in
            let q : p ≡ octets w (get a) = sym (octets_be p o) ∙ ap₂ (λ (x y : ℕ). octets x y) n (sym ih.1.1) in
            (rw (← q) (found_join p (lay a) (ap (λ (x : ℕ). pos + x) (sym n)) (part_at d pos w) ih.0), ih.1.0);
        complete = λ d pos end c a next s g.
            let l = octets w (get a) in
            let q : be (part d pos w) ≡ get a = ap be (found_part l (lay a) w (length_octets w (get a)) s) ∙ be_octets w (get a) (small a g) in
            let s' : Found d (pos + w) end (lay a) next = rw (length_octets w (get a)) at (found_rest l (lay a) s) in
            ap (λ (v : ℕ). f v d (pos + w) end) q
            ∙ (h (get a) (small a g)).complete d (pos + w) end (move (pos + w) (m - w) c (omega (arith, leb→le w m t, c.room))) a next s' (g, refl);
        short = λ d pos end c a s g.
            let l = octets w (get a) in
            let q : be (part d pos w) ≡ get a = ap be (cut_part l (lay a) w (length_octets w (get a)) s (omega (arith, leb→le w m t, c.room))) ∙ be_octets w (get a) (small a g) in
            subst (λ (v : ℕ). Short (f v d (pos + w) end)) (sym q)
            ((h (get a) (small a g)).short d (pos + w) end (move (pos + w) (m - w) c (omega (arith, leb→le w m t, c.room))) a (cut_rest l (lay a) w (length_octets w (get a)) s) (g, refl));
        least = λ a g. omega (arith, leb→le w m t, length-append (octets w (get a)) (lay a), length_octets w (get a), (h (get a) (small a g)).least a (g, refl));
      }

  pub reads_run : {f : List ℕ → Reader A} (n : ℕ) (get : A → List ℕ) → ((a : A) → good a → length (get a) ≡ n) → ((a : A) → good a → Octets (get a))
      → ((v : List ℕ) → length v ≡ n → Octets v → Reads 0 (f v) lay (λ a. (good a) × (get a ≡ v))) → Reads 0 (run n f) (λ a. get a ++ lay a) good
  unfolding run
  reads_run {f} n get long octs h =
      record {
        sound = λ d pos end c a next e.
            let p = part d pos n in
            let g = guard_ok (ltb (end - pos) n) (long_at pos n end) (f p d (pos + n) end) e in
            let le : n ≤ end - pos = nltb→le (end - pos) n g.0 in
            let np : length p ≡ n = length_part d pos n (omega (arith, c.fits, c.room)) in
            let ih = (h p np (octets_part d pos n c.octs)).sound d (pos + n) end (move (pos + n) 0 c (omega (arith, c.room))) a next g.1 in
            (rw ih.1.1 (found_join p (lay a) (ap (λ (x : ℕ). pos + x) (sym np)) (part_at d pos n) ih.0), ih.1.0);
        complete = λ d pos end c a next s g.
            let q : part d pos n ≡ get a = found_part (get a) (lay a) n (long a g) s in
            let s' : Found d (pos + n) end (lay a) next = rw (long a g) at (found_rest (get a) (lay a) s) in
            let le : n ≤ end - pos = omega (arith, s'.span, s'.room) in
            guard_pass (ltb (end - pos) n) (refused (long_at pos n end)) (f (part d pos n) d (pos + n) end) (not_ltb (end - pos) n le)
            ∙ ap (λ (v : List ℕ). f v d (pos + n) end) q
            ∙ (h (get a) (long a g) (octs a g)).complete d (pos + n) end (move (pos + n) 0 c (omega (arith, s'.span, s'.room))) a next s' (g, refl);
        short = λ d pos end c a s g.
            guard_short (ltb (end - pos) n) (long_at pos n end) (f (part d pos n) d (pos + n) end) (omega arith) λ t.
            let le : n ≤ end - pos = nltb→le (end - pos) n t in
            let fit : pos + n ≤ end = omega (arith, c.room) in
            subst (λ (v : List ℕ). Short (f v d (pos + n) end)) (sym (cut_part (get a) (lay a) n (long a g) s fit))
            ((h (get a) (long a g) (octs a g)).short d (pos + n) end (move (pos + n) 0 c (omega arith)) a (cut_rest (get a) (lay a) n (long a g) s) (g, refl));
        least = λ a g. omega arith;
      }

-- r, if b holds
abbrev guarded : {A : Type 0} → Bool → Refusal → Reader A → Reader A
guarded b x r d pos end = pick b (r d pos end) (refused x)

reads_guarded : {A : Type 0} {good : A → Type 0} {lay : A → List ℕ} {m : ℕ} {r : Reader A} (b : Bool) (x : Refusal) → ((a : A) → good a → T b) → (T b → Reads m r lay good) → Reads m (guarded b x r) lay good
reads_guarded true x t h = record { sound = (h tt).sound; complete = (h tt).complete; short = (h tt).short; least = (h tt).least }
reads_guarded false x t h =
    record {
      sound = λ d pos end c a next e. absurd (refused_ok e);
      complete = λ d pos end c a next s g. absurd (t a g);
      short = λ d pos end c a s g. absurd (t a g);
      least = λ a g. absurd (t a g);
    }

module _ {A : Type 0} {good : A → Type 0} {lay : A → List ℕ} where
  -- a number that must pass the test
  pub reads_checked : {m : ℕ} {f : ℕ → Reader A} (w : ℕ) (test : ℕ → Bool) (n place : ℕ) (get : A → ℕ) → T (leb w m) → ((a : A) → good a → get a < 256 ^ w) → ((a : A) → good a → T (test (get a)))
      → ((v : ℕ) → v < 256 ^ w → T (test v) → Reads (m - w) (f v) lay (λ a. (good a) × (get a ≡ v))) → Reads m (checked w test n place f) (λ a. octets w (get a) ++ lay a) good
  unfolding checked number
  reads_checked {m} {f} w test n place get t small pass h =
      let at : (o : ℕ) → Reads m (number w (λ v. guarded (test v) (wrong_at n place o) (f v))) (λ a. octets w (get a) ++ lay a) good =
      λ o. reads_number w get t small λ v hv. reads_guarded (test v) (wrong_at n place o) (λ a g. subst (λ (x : ℕ). T (test x)) g.1 (pass a g.0)) (h v hv) in
      record { sound = λ d pos end. (at pos).sound d pos end; complete = λ d pos end. (at pos).complete d pos end; short = λ d pos end. (at pos).short d pos end; least = (at 0).least }

  -- one that must be k, and one that must be k at least
  pub reads_equal : {m : ℕ} {f : ℕ → Reader A} (w k n place : ℕ) → T (leb w m) → k < 256 ^ w
      → ((v : ℕ) → v ≡ k → Reads (m - w) (f v) lay (λ a. (good a) × (k ≡ v))) → Reads m (checked w (λ v. eqb v k) n place f) (λ a. octets w k ++ lay a) good
  reads_equal w k n place t small h = reads_checked w (λ v. eqb v k) n place (λ a. k) t (λ a g. small) (λ a g. eqb_refl k) λ v hv e. h v (eqb→eq v k e)

  pub reads_atleast : {m : ℕ} {f : ℕ → Reader A} (w k n place : ℕ) (get : A → ℕ) → T (leb w m) → ((a : A) → good a → get a < 256 ^ w) → ((a : A) → good a → k ≤ get a)
      → ((v : ℕ) → v < 256 ^ w → k ≤ v → Reads (m - w) (f v) lay (λ a. (good a) × (get a ≡ v))) → Reads m (checked w (leb k) n place f) (λ a. octets w (get a) ++ lay a) good
  reads_atleast w k n place get t small least h = reads_checked w (leb k) n place get t small (λ a g. le→leb k (get a) (least a g)) λ v hv e. h v hv (leb→le k v e)

-- ---- readers one after the other, and one inside another

pub followed_ok : {A B : Type 0} (x : Answer B) (f : B → ℕ → Answer A) {a : A} {next : ℕ} → followed x f ≡ ok a next → (b : B) × (mid : ℕ) × (x ≡ ok b mid) × (f b mid ≡ ok a next)
followed_ok (ok b mid) f e = (b, mid, refl, e)
followed_ok (refused x) f e = absurd (refused_ok e)

outward_ok : {A : Type 0} (pos n : ℕ) (x : Answer A) {a : A} {next : ℕ} → outward pos n x ≡ ok a next → (b : A) × (mid : ℕ) × (x ≡ ok b mid) × (b ≡ a) × (pos + n ≡ next)
outward_ok pos n (ok b mid) e = (b, mid, refl, cc, cc)
outward_ok pos n (refused x) e = absurd (refused_ok e)

pub followed_short : {A B : Type 0} (x : Answer B) (f : B → ℕ → Answer A) → Short x → Short (followed x f)
followed_short (ok b mid) f h = absurd h
followed_short (refused x) f h = h

pub pass_ok : {A : Type 0} (b : Bool) (y : Answer A) (x : Refusal) {a : A} {next : ℕ} → pick b y (refused x) ≡ ok a next → (T b) × (y ≡ ok a next)
pass_ok true y x e = (tt, e)
pass_ok false y x e = absurd (refused_ok e)

pub pass_pass : {A : Type 0} (b : Bool) (y x : Answer A) → T b → pick b y x ≡ y
pass_pass true y x t = refl
pass_pass false y x t = absurd t

pub found_whole : {d : List ℕ} {pos end next : ℕ} (l : List ℕ) (n : ℕ) → length l ≡ n → Found d pos end l next → part d pos n ≡ l
found_whole {d} {pos} {end} {next} l n e f = ap (λ (x : List ℕ). take n x) f.here ∙ take_at l (drop next d) n e

pub cut_first : {d : List ℕ} {pos end : ℕ} (l l' : List ℕ) → Cut d pos end (l ++ l') → end < pos + length l → Cut d pos end l
cut_first {d} {pos} {end} l l' c h =
    record { whole = c.whole; next = pos + length l; same = c.same; found = record { span = refl; here = found_first l l' c.found; room = omega arith }; past = h }

-- r ends where the end is
pub record Fills {A : Type 0} (r : Reader A) (lay : A → List ℕ) (good : A → Type 0) : Type 0 where
  pub sound : (d : List ℕ) (pos end : ℕ) → Place d pos end 0 → (a : A) (next : ℕ) → r d pos end ≡ ok a next → (Found d pos end (lay a) end) × (next ≡ end) × (good a)
  pub complete : (d : List ℕ) (pos end : ℕ) → Place d pos end 0 → (a : A) → Found d pos end (lay a) end → good a → r d pos end ≡ ok a end

module _ {A : Type 0} {good : A → Type 0} {lay : A → List ℕ} {r : Reader A} where
  pub fills_ending : (place : ℕ) → Reads 0 r lay good → Fills (ending place r) lay good
  unfolding ending
  fills_ending place h =
      record {
        sound = λ d pos end c a next e.
            let (b, mid, p, q) = followed_ok (r d pos end) (λ b next. pick (eqb next end) (ok b next) (refused (left_at place next end))) e in
            let w = pass_ok (eqb mid end) (ok b mid) (left_at place mid end) q in
            let z = w.1 in
            let eb : b ≡ a = cc in
            let em : mid ≡ next = cc in
            let ee : mid ≡ end = eqb→eq mid end w.0 in
            let s = h.sound d pos end c b mid p in
            (subst (λ (x : ℕ). Found d pos end (lay a) x) ee (subst (λ (x : A). Found d pos end (lay x) mid) eb s.0), omega arith, subst good eb s.1);
        complete = λ d pos end c a s g.
            ap (λ (x : Answer A). followed x (λ b next. pick (eqb next end) (ok b next) (refused (left_at place next end)))) (h.complete d pos end c a end s g)
            ∙ pass_pass (eqb end end) (ok a end) (refused (left_at place end end)) (eqb_refl end);
      }

  pub reads_within : (n : ℕ) → Fills r lay good → Reads 0 (within n r) lay (λ a. (good a) × (length (lay a) ≡ n))
  unfolding within
  reads_within n h =
      record {
        sound = λ d pos end c a next e.
            let g = guard_ok (ltb (end - pos) n) (long_at pos n end) (r d pos (pos + n)) e in
            let le : n ≤ end - pos = nltb→le (end - pos) n g.0 in
            let s = h.sound d pos (pos + n) (record { octs = c.octs; fits = omega (arith, c.fits, c.room); room = omega arith }) a next g.1 in
            let f = s.0 in
            let en : next ≡ pos + n = s.1 in
            (rw en (record { span = f.span; here = f.here; room = omega (arith, c.room) }), (s.2, omega (arith, f.span)));
        complete = λ d pos end c a next f g.
            let en : next ≡ pos + n = omega (arith, f.span, g.1) in
            let le : n ≤ end - pos = omega (arith, f.room) in
            guard_pass (ltb (end - pos) n) (refused (long_at pos n end)) (r d pos (pos + n)) (not_ltb (end - pos) n le)
            ∙ rw en
            (h.complete d pos (pos + n) (record { octs = c.octs; fits = omega (arith, c.fits, c.room, f.room); room = omega arith }) a
            (record { span = omega (arith, g.1); here = rw en at f.here; room = omega arith }) g.0);
        short = λ d pos end c a s g.
            guard_short (ltb (end - pos) n) (long_at pos n end) (r d pos (pos + n)) (omega arith) λ t.
            absurd (omega (arith, nltb→le (end - pos) n t, s.found.span, s.past, g.1, c.room));
        least = λ a g. omega arith;
      }

  pub reads_inside : (n : ℕ) → Fills r lay good → Reads 0 (fits n (apart n r)) lay (λ a. (good a) × (length (lay a) ≡ n))
  unfolding fits apart
  reads_inside n h =
      record {
        sound = λ d pos end c a next e.
            let g = guard_ok (ltb (end - pos) n) (long_at pos n end) (outward pos n (r (part d pos n) 0 n)) e in
            let le : n ≤ end - pos = nltb→le (end - pos) n g.0 in
            let np : length (part d pos n) ≡ n = length_part d pos n (omega (arith, c.fits, c.room)) in
            let (b, mid, p, eb, en) = outward_ok pos n (r (part d pos n) 0 n) g.1 in
            let s = h.sound (part d pos n) 0 n (record { octs = octets_part d pos n c.octs; fits = omega arith; room = omega arith }) b mid p in
            let f = s.0 in
            let el : part d pos n ≡ lay b = f.here ∙ ap (λ (x : List ℕ). lay b ++ x) (drop_of_length-le (part d pos n) {i = n} (omega arith)) ∙ append-nil (lay b) in (
              subst (λ (x : A). Found d pos end (lay x) next) eb (record { span = omega (arith, f.span); here = rw (← el, ← en) (part_at d pos n); room = omega (arith, c.room) }),
              (subst good eb s.2, omega (arith, f.span, ap (λ (x : A). length (lay x)) eb)),
            );
        complete = λ d pos end c a next f g.
            let en : next ≡ pos + n = omega (arith, f.span, g.1) in
            let le : n ≤ end - pos = omega (arith, f.room) in
            let el : part d pos n ≡ lay a = found_whole (lay a) n g.1 f in
            let np : length (part d pos n) ≡ n = ap length el ∙ g.1 in
            guard_pass (ltb (end - pos) n) (refused (long_at pos n end)) (outward pos n (r (part d pos n) 0 n)) (not_ltb (end - pos) n le)
            ∙ ap (outward pos n)
            (h.complete (part d pos n) 0 n (record { octs = octets_part d pos n c.octs; fits = omega arith; room = omega arith }) a
            (record { span = omega (arith, g.1); here = el ∙ sym (append-nil (lay a)) ∙ ap (λ (x : List ℕ). lay a ++ x) (sym (drop_of_length-le (part d pos n) {i = n} (omega arith))); room = omega arith })
            g.0)
            ∙ rw en;
        short = λ d pos end c a s g.
            guard_short (ltb (end - pos) n) (long_at pos n end) (outward pos n (r (part d pos n) 0 n)) (omega arith) λ t.
            absurd (omega (arith, nltb→le (end - pos) n t, s.found.span, s.past, g.1, c.room));
        least = λ a g. omega arith;
      }

module _ {A B : Type 0} {good : A → Type 0} {lay : A → List ℕ} {good' : B → Type 0} {lay' : B → List ℕ} {r : Reader B} where
  pub reads_after : {f : B → Reader A} (get : A → B) → Reads 0 r lay' good' → ((a : A) → good a → good' (get a))
      → ((b : B) → good' b → Reads 0 (f b) lay (λ a. (good a) × (get a ≡ b))) → Reads 0 (after r f) (λ a. lay' (get a) ++ lay a) good
  unfolding after
  reads_after {f} get h sub k =
      record {
        sound = λ d pos end c a next e.
            let (b, mid, p, q) = followed_ok (r d pos end) (λ b mid. f b d mid end) e in
            let s = h.sound d pos end c b mid p in
            let t = (k b s.1).sound d mid end (move mid 0 c (omega (arith, s.0.room))) a next q in
            let eb : get a ≡ b = t.1.1 in
            (rw eb (found_join (lay' b) (lay a) s.0.span s.0.here t.0), t.1.0);
        complete = λ d pos end c a next s g.
            let l = lay' (get a) in
            let mid = pos + length l in
            let s' = found_rest l (lay a) s in
            let room : mid ≤ end = omega (arith, s'.span, s'.room) in
            let e = h.complete d pos end c (get a) mid (record { span = refl; here = found_first l (lay a) s; room = room }) (sub a g) in
            ap (λ (x : Answer B). followed x (λ b mid. f b d mid end)) e
            ∙ (k (get a) (sub a g)).complete d mid end (move mid 0 c (omega arith)) a next s' (g, refl);
        short = λ d pos end c a s g.
            let l = lay' (get a) in
            let mid = pos + length l in
            let go : (b : Bool) → leb mid end ≡ b → Short (followed (r d pos end) (λ b mid. f b d mid end)) = λ b. elim b as (λ b. leb mid end ≡ b → Short (followed (r d pos end) (λ b mid. f b d mid end))) [
              | true ↦ λ e.
                  let room : mid ≤ end = leb→le mid end (rw e tt) in
                  let p = h.complete d pos end c (get a) mid (cut_found l (lay a) s room) (sub a g) in
                  subst (λ (x : Answer B). Short (followed x (λ b mid. f b d mid end))) (sym p)
                  ((k (get a) (sub a g)).short d mid end (move mid 0 c (omega arith)) a (cut_rest l (lay a) (length l) refl s) (g, refl))
              | false ↦ λ e.
                  followed_short (r d pos end) (λ b mid. f b d mid end)
                  (h.short d pos end c (get a) (cut_first l (lay a) s (nleb→lt mid end (rw e tt))) (sub a g))
            ] in
            go (leb mid end) refl;
        least = λ a g. omega arith;
      }

-- ---- one after the other, up to the end

module _ {A B : Type 0} {good : A → Type 0} {lay : A → List ℕ} {good' : B → Type 0} {lay' : B → List ℕ} {r : Reader B} where
  -- what follows reaches the end
  pub fills_after : {f : B → Reader A} (get : A → B) → Reads 0 r lay' good' → ((a : A) → good a → good' (get a))
      → ((b : B) → good' b → Fills (f b) lay (λ a. (good a) × (get a ≡ b))) → Fills (after r f) (λ a. lay' (get a) ++ lay a) good
  unfolding after
  fills_after {f} get h sub k =
      record {
        sound = λ d pos end c a next e.
            let (b, mid, p, q) = followed_ok (r d pos end) (λ b mid. f b d mid end) e in
            let s = h.sound d pos end c b mid p in
            let t = (k b s.1).sound d mid end (move mid 0 c (omega (arith, s.0.room))) a next q in
            let eb : get a ≡ b = t.2.1 in
            (rw eb (found_join (lay' b) (lay a) s.0.span s.0.here t.0), t.1, t.2.0);
        complete = λ d pos end c a s g.
            let l = lay' (get a) in
            let mid = pos + length l in
            let s' = found_rest l (lay a) s in
            let room : mid ≤ end = omega (arith, s'.span, s'.room) in
            let e = h.complete d pos end c (get a) mid (record { span = refl; here = found_first l (lay a) s; room = room }) (sub a g) in
            ap (λ (x : Answer B). followed x (λ b mid. f b d mid end)) e
            ∙ (k (get a) (sub a g)).complete d mid end (move mid 0 c (omega arith)) a s' (g, refl);
      }

  -- what is made of a part that reaches the end
  pub fills_as : (into : B → A) → Fills r lay' good' → ((b : B) → good' b → good (into b)) → ((b : B) → good' b → lay (into b) ≡ lay' b)
      → ((a : A) → good a → (b : B) × (a ≡ into b) × (good' b)) → Fills (after r (λ b. done (into b))) lay good
  unfolding after done
  fills_as into h up same down =
      record {
        sound = λ d pos end c a next e.
            let (b, mid, p, q) = followed_ok (r d pos end) (λ b mid. ok (into b) mid) e in
            let ea : into b ≡ a = cc in
            let en : mid ≡ next = cc in
            let s = h.sound d pos end c b mid p in
            let el : lay' b ≡ lay a = sym (same b s.2) ∙ ap lay ea in
            (subst (λ (x : List ℕ). Found d pos end x end) el s.0, omega (arith, s.1), subst good ea (up b s.2));
        complete = λ d pos end c a f g.
            let (b, e, g') = down a g in
            let el : lay a ≡ lay' b = ap lay e ∙ same b g' in
            ap (λ (x : Answer B). followed x (λ b mid. ok (into b) mid)) (h.complete d pos end c b (subst (λ (x : List ℕ). Found d pos end x end) el f) g')
            ∙ ap (λ (x : A). ok x end) (sym e);
      }

-- the last of the fields reaches the end
pub fills_last : {A B : Type 0} {good : A → Type 0} {good' : B → Type 0} {lay' : B → List ℕ} {r : Reader B} (make : B → A) (get : A → B) → Fills r lay' good'
    → ((a : A) → good a → good' (get a)) → ((b : B) → good' b → (good (make b)) × (get (make b) ≡ b)) → ((a : A) → good a → a ≡ make (get a))
    → Fills (after r (λ b. done (make b))) (λ a. lay' (get a) ++ []) good
fills_last {A} {B} {good} {good'} {lay'} make get h sub up same =
    fills_as make h (λ b g. (up b g).0) (λ b g. append-nil (lay' (get (make b))) ∙ ap lay' (up b g).1) (λ a g. (get a, same a g, sub a g))

module _ {A : Type 0} {good : A → Type 0} {lay : A → List ℕ} where
  pub fills_choose : {r s : Reader A} (b : Bool) → (T b → Fills r lay good) → (T (not b) → Fills s lay good) → Fills (choose b r s) lay good
  unfolding choose
  fills_choose true h k = record { sound = (h tt).sound; complete = (h tt).complete }
  fills_choose false h k = record { sound = (k tt).sound; complete = (k tt).complete }

  -- all that is left
  pub fills_rest : (make : List ℕ → A) → ((s : List ℕ) → Octets s → good (make s)) → ((s : List ℕ) → lay (make s) ≡ s) → ((a : A) → good a → a ≡ make (lay a)) → Fills (rest λ s. done (make s)) lay good
  unfolding rest done
  fills_rest make up same down =
      record {
        sound = λ d pos end c a next e.
            let n = end - pos in
            let s = part d pos n in
            let ea : make s ≡ a = cc in
            let en : end ≡ next = cc in
            let es : pos + n ≡ end = omega (arith, c.room) in
            let el : s ≡ lay a = sym (same s) ∙ ap lay ea in
            let ls : length s ≡ n = length_part d pos n (omega (arith, c.fits, c.room)) in
            (subst (λ (x : List ℕ). Found d pos end x end) el (record { span = omega arith; here = rw es at (part_at d pos n); room = omega arith }), sym en, subst good ea (up s (octets_part d pos n c.octs)));
        complete = λ d pos end c a f g.
            let el : part d pos (end - pos) ≡ lay a = found_whole (lay a) (end - pos) (omega (arith, f.span)) f in
            ap (λ (x : List ℕ). ok (make x) end) el ∙ ap (λ (x : A). ok x end) (sym (down a g));
      }

-- ---- the same reader, and the same layout, said otherwise

module _ {A : Type 0} {good : A → Type 0} {lay : A → List ℕ} where
  pub fills_same : {r r' : Reader A} → ((d : List ℕ) (pos end : ℕ) → r' d pos end ≡ r d pos end) → Fills r lay good → Fills r' lay good
  fills_same e h =
      record { sound = λ d pos end c a next q. h.sound d pos end c a next (sym (e d pos end) ∙ q); complete = λ d pos end c a f g. e d pos end ∙ h.complete d pos end c a f g }

  pub reads_good : {m : ℕ} {r : Reader A} {good' : A → Type 0} → ((a : A) → good a → good' a) → ((a : A) → good' a → good a) → Reads m r lay good → Reads m r lay good'
  reads_good up down h =
      record {
        sound = λ d pos end c a next q. let s = h.sound d pos end c a next q in (s.0, up a s.1);
        complete = λ d pos end c a next f g. h.complete d pos end c a next f (down a g);
        short = λ d pos end c a s g. h.short d pos end c a s (down a g);
        least = λ a g. h.least a (down a g);
      }

  -- .. of what is good
  pub reads_laid : {m : ℕ} {r : Reader A} (lay' : A → List ℕ) → ((a : A) → good a → lay a ≡ lay' a) → Reads m r lay good → Reads m r lay' good
  reads_laid {m} lay' e h =
      record {
        sound = λ d pos end c a next q. let s = h.sound d pos end c a next q in (subst (λ (l : List ℕ). Found d pos end l next) (e a s.1) s.0, s.1);
        complete = λ d pos end c a next f g. h.complete d pos end c a next (subst (λ (l : List ℕ). Found d pos end l next) (sym (e a g)) f) g;
        short = λ d pos end c a s g. h.short d pos end c a (subst (λ (l : List ℕ). Cut d pos end l) (sym (e a g)) s) g;
        least = λ a g. subst (λ (l : List ℕ). m ≤ length l) (e a g) (h.least a g);
      }

  pub reads_lay : {m : ℕ} {r : Reader A} (lay' : A → List ℕ) → ((a : A) → lay a ≡ lay' a) → Reads m r lay good → Reads m r lay' good
  reads_lay lay' e h = reads_laid lay' (λ a g. e a) h

  pub fills_lay : {r : Reader A} (lay' : A → List ℕ) → ((a : A) → lay a ≡ lay' a) → Fills r lay good → Fills r lay' good
  fills_lay {r} lay' e h = subst (λ (l : A → List ℕ). Fills r l good) (λ j a. e a j) h

-- ---- a list of them

module _ {A : Type 0} {good : A → Type 0} {lay : A → List ℕ} {r : Reader A} (h : Reads 0 r lay good) where
  many_sound : (n : ℕ) (d : List ℕ) (pos end : ℕ) → Place d pos end 0 → (l : List A) (next : ℕ) → many n r d pos end ≡ ok l next
      → (Found d pos end (joined (map lay l)) next) × ((Each good l) × (length l ≡ n))
  unfolding many
  many_sound zero d pos end c l next e =
      let el : [] ≡ l = cc in
      let en : pos ≡ next = cc in
      subst (λ (l : List A). (Found d pos end (joined (map lay l)) next) × ((Each good l) × (length l ≡ 0))) el
      (record { span = omega arith; here = rw en; room = omega (arith, c.room) }, (tt, refl))
  many_sound (suc n) d pos end c l next e =
      let (a, mid, p, q) = followed_ok (r d pos end) (λ a mid. followed (many n r d mid end) (λ l last. ok (a ∷ l) last)) e in
      let (l', last, p', q') = followed_ok (many n r d mid end) (λ l last. ok (a ∷ l) last) q in
      let el : a ∷ l' ≡ l = cc in
      let en : last ≡ next = cc in
      let s = h.sound d pos end c a mid p in
      let t = many_sound n d mid end (move mid 0 c (omega (arith, s.0.room))) l' last p' in
      subst (λ (l : List A). (Found d pos end (joined (map lay l)) next) × ((Each good l) × (length l ≡ suc n))) el
      (subst (λ (x : ℕ). Found d pos end (lay a ++ joined (map lay l')) x) en (found_join (lay a) (joined (map lay l')) s.0.span s.0.here t.0), ((s.1, t.1.0), ap suc t.1.1))

  many_complete : (n : ℕ) (d : List ℕ) (pos end : ℕ) → Place d pos end 0 → (l : List A) (next : ℕ) → Found d pos end (joined (map lay l)) next → Each good l → length l ≡ n
      → many n r d pos end ≡ ok l next
  unfolding many
  many_complete zero d pos end c [] next s g e = ap (λ (x : ℕ). ok [] x) (omega (arith, s.span))
  many_complete zero d pos end c (x ∷ xs) next s g e = absurd (omega arith)
  many_complete (suc n) d pos end c [] next s g e = absurd (omega arith)
  many_complete (suc n) d pos end c (x ∷ xs) next s g e =
      let l = joined (map lay xs) in
      let mid = pos + length (lay x) in
      let s' = found_rest (lay x) l s in
      let room : mid ≤ end = omega (arith, s'.span, s'.room) in
      ap (λ (y : Answer A). followed y (λ a mid. followed (many n r d mid end) (λ l last. ok (a ∷ l) last)))
      (h.complete d pos end c x mid (record { span = refl; here = found_first (lay x) l s; room = room }) g.0)
      ∙ ap (λ (y : Answer (List A)). followed y (λ l last. ok (x ∷ l) last)) (many_complete n d mid end (move mid 0 c (omega arith)) xs next s' g.1 (suc_inj e))

  many_short : (n : ℕ) (d : List ℕ) (pos end : ℕ) → Place d pos end 0 → (l : List A) → Cut d pos end (joined (map lay l)) → Each good l → length l ≡ n
      → Short (many n r d pos end)
  unfolding many
  many_short zero d pos end c [] s g e = absurd (omega (arith, s.found.span, s.past, c.room))
  many_short zero d pos end c (x ∷ xs) s g e = absurd (omega arith)
  many_short (suc n) d pos end c [] s g e = absurd (omega arith)
  many_short (suc n) d pos end c (x ∷ xs) s g e =
      let l = joined (map lay xs) in
      let mid = pos + length (lay x) in
      let k : A → ℕ → Answer (List A) = λ a mid. followed (many n r d mid end) (λ l last. ok (a ∷ l) last) in
      let go : (b : Bool) → leb mid end ≡ b → Short (followed (r d pos end) k) = λ b. elim b as (λ b. leb mid end ≡ b → Short (followed (r d pos end) k)) [
        | true ↦ λ q.
            let room : mid ≤ end = leb→le mid end (rw q tt) in
            let p = h.complete d pos end c x mid (cut_found (lay x) l s room) g.0 in
            subst (λ (y : Answer A). Short (followed y k)) (sym p)
            (followed_short (many n r d mid end) (λ l last. ok (x ∷ l) last)
            (many_short n d mid end (move mid 0 c (omega arith)) xs (cut_rest (lay x) l (length (lay x)) refl s) g.1 (suc_inj e)))
        | false ↦ λ q.
            followed_short (r d pos end) k (h.short d pos end c x (cut_first (lay x) l s (nleb→lt mid end (rw q tt))) g.0)
      ] in
      go (leb mid end) refl

  pub reads_many : (n : ℕ) → Reads 0 (many n r) (λ l. joined (map lay l)) (λ l. (Each good l) × (length l ≡ n))
  reads_many n =
      record {
        sound = many_sound n;
        complete = λ d pos end c l next s g. many_complete n d pos end c l next s g.0 g.1;
        short = λ d pos end c l s g. many_short n d pos end c l s g.0 g.1;
        least = λ l g. omega arith;
      }
