-- What a step of a reader answers, one equation for each case of the code. Assumes nothing.
use Prim.Native.Nat.{ℕ, ◌+◌, ◌-◌, ◌<◌, ◌≤◌}
use mathlib.Core.Path.{◌≡◌, refl, sym, ap, ◌∙◌}
use mathlib.Core.Bool.{Bool, true, false}
use mathlib.Core.List.{List}
use mathlib.Core.Logic.{◌≢◌}
use native.Mathlib.Omega.{arith}
use lib.Dec.{T, ltb, lt→ltb, not_T, eqb, eqb→eq, eqb_refl}
use Rattle.std.specs.Prelude.{Result, Ok, Err, IsErrAnd}
use Rattle.octets.specs.Octets.{part}
use Rattle.reference.specs.declared.Refusal.{Refusal}
use Rattle.reference.specs.Steps.{Answer, ok, refused, Reader, pick, followed, seen, done, need, run, ending, within, fits, after}
use Rattle.reference.specs.Refusals.{cut_at, left_at, long_at}
use Rattle.reference.proofs.Laws.{guard_pass, pass_pass, not_ltb}

-- what `?` hands on is the refusal as it was
pub passed_on : {B : Type 0} (w : Result B Refusal) {x : Refusal} → IsErrAnd w (λ y. y ≡ x) → w ≡ Err x
passed_on (Ok b) h = absurd h
passed_on (Err y) h = ap Err h

module _ {A : Type 0} (d : List ℕ) (pos end : ℕ) where
  pub need_cut : (k place : ℕ) (r : Reader A) → end < pos + k → need k place r d pos end ≡ refused (cut_at place pos k end)
  unfolding need
  need_cut k place r h = pass_pass (ltb end (pos + k)) (refused (cut_at place pos k end)) (r d pos end) (lt→ltb end (pos + k) h)

  pub need_pass : (k place : ℕ) (r : Reader A) → pos + k ≤ end → need k place r d pos end ≡ r d pos end
  unfolding need
  need_pass k place r h = guard_pass (ltb end (pos + k)) (refused (cut_at place pos k end)) (r d pos end) (not_ltb end (pos + k) h)

  pub run_cut : (n : ℕ) (f : List ℕ → Reader A) → end - pos < n → run n f d pos end ≡ refused (long_at pos n end)
  unfolding run
  run_cut n f h = pass_pass (ltb (end - pos) n) (refused (long_at pos n end)) (f (part d pos n) d (pos + n) end) (lt→ltb (end - pos) n h)

  pub run_pass : (n : ℕ) (f : List ℕ → Reader A) → n ≤ end - pos → run n f d pos end ≡ f (part d pos n) d (pos + n) end
  unfolding run
  run_pass n f h = guard_pass (ltb (end - pos) n) (refused (long_at pos n end)) (f (part d pos n) d (pos + n) end) (not_ltb (end - pos) n h)

  pub within_pass : (n : ℕ) (r : Reader A) → n ≤ end - pos → within n r d pos end ≡ r d pos (pos + n)
  unfolding within
  within_pass n r h = guard_pass (ltb (end - pos) n) (refused (long_at pos n end)) (r d pos (pos + n)) (not_ltb (end - pos) n h)

  pub fits_pass : (n : ℕ) (r : Reader A) → n ≤ end - pos → fits n r d pos end ≡ r d pos end
  unfolding fits
  fits_pass n r h = guard_pass (ltb (end - pos) n) (refused (long_at pos n end)) (r d pos end) (not_ltb (end - pos) n h)

module _ {A : Type 0} (d : List ℕ) (pos end : ℕ) where
  pub ending_no : (place : ℕ) (r : Reader A) {x : Refusal} → r d pos end ≡ refused x → ending place r d pos end ≡ refused x
  unfolding ending
  ending_no place r e = rw (e, ending)

  pub ending_left : (place : ℕ) (r : Reader A) {a : A} {next : ℕ} → r d pos end ≡ ok a next → next ≢ end → ending place r d pos end ≡ refused (left_at place next end)
  unfolding ending
  ending_left place r {a} {next} e h =
      rw (e, ending) (guard_pass (eqb next end) (ok a next) (refused (left_at place next end)) (not_T (eqb next end) (λ t. h (eqb→eq next end t))))

  pub ending_ok : (place : ℕ) (r : Reader A) {a : A} → r d pos end ≡ ok a end → ending place r d pos end ≡ ok a end
  unfolding ending
  ending_ok place r {a} e = rw (e, ending) (pass_pass (eqb end end) (ok a end) (refused (left_at place end end)) (eqb_refl end))

  pub after_no : {B : Type 0} (r : Reader B) (f : B → Reader A) {x : Refusal} → r d pos end ≡ refused x → after r f d pos end ≡ refused x
  unfolding after
  after_no r f e = rw (e, after)

  pub after_ok : {B : Type 0} (r : Reader B) (f : B → Reader A) {b : B} {next : ℕ} → r d pos end ≡ ok b next → after r f d pos end ≡ f b d next end
  unfolding after
  after_ok r f e = rw (e, after)

-- ---- what an answer tells

picked_eq : {A : Type 0} (b : Bool) (a : A) (n : ℕ) (x : Refusal) {c : A} {m : ℕ} → pick b (ok a n) (refused x) ≡ ok c m → (T b) × (n ≡ m)
picked_eq true a n x e = (tt, cc)
picked_eq false a n x e = let z : ◌≡◌ {A = ℕ} 0 1 = cc in absurd (omega arith)

-- what must reach the end has reached it
pub ending_at : {A : Type 0} (place : ℕ) (r : Reader A) (d : List ℕ) (pos end : ℕ) {a : A} {n : ℕ} → ending place r d pos end ≡ ok a n → n ≡ end
unfolding ending
ending_at {A} place r d pos end {a} {n} e = go (r d pos end) e
  where
    go : (x : Answer A) → followed x (λ a next. pick (eqb next end) (ok a next) (refused (left_at place next end))) ≡ ok a n → n ≡ end
    go (ok b m) q = let p = picked_eq (eqb m end) b m (left_at place m end) q in sym p.1 ∙ eqb→eq m end p.0
    go (refused x) q = let z : ◌≡◌ {A = ℕ} 0 1 = cc in absurd (omega arith)

pub followed_followed : {A B C : Type 0} (x : Answer A) (f : A → ℕ → Answer B) (g : B → ℕ → Answer C)
    → followed (followed x f) g ≡ followed x (λ a n. followed (f a n) g)
followed_followed (ok a n) f g = refl
followed_followed (refused y) f g = refl

-- ---- what follows a step, put inside it

pub guarded_then : {A B : Type 0} (b : Bool) (x : Refusal) (y : Answer B) (f : B → ℕ → Answer A) → followed (pick b (refused x) y) f ≡ pick b (refused x) (followed y f)
guarded_then true x y f = refl
guarded_then false x y f = refl

pub passed_then : {A B : Type 0} (b : Bool) (x : Refusal) (y : Answer B) (f : B → ℕ → Answer A) → followed (pick b y (refused x)) f ≡ pick b (followed y f) (refused x)
passed_then true x y f = refl
passed_then false x y f = refl

module _ {A B : Type 0} (d : List ℕ) (pos end : ℕ) where
  -- what is made of an answer, and nothing more is read
  pub after_done : (r : Reader B) (make : B → A) → after r (λ b. done (make b)) d pos end ≡ seen make (r d pos end)
  unfolding after done
  after_done r make = go (r d pos end)
    where
      go : (x : Answer B) → followed x (λ b next. ok (make b) next) ≡ seen make x
      go (ok b next) = refl
      go (refused y) = refl

-- what code got, the reader got: its value, and the entry made of it
pub seen_ok : {A B : Type 0} (f : A → B) (x : Answer A) {b : B} {n : ℕ} → seen f x ≡ ok b n → (a : A) × (x ≡ ok a n) × (b ≡ f a)
seen_ok f (ok a m) {b} {n} e = let q : m ≡ n = cc in (a, ap (λ (k : ℕ). ok a k) q, cc)
seen_ok f (refused y) e = let z : ◌≡◌ {A = ℕ} 0 1 = cc in absurd (omega arith)

pub seen_seen : {A B C : Type 0} (f : A → B) (g : B → C) (x : Answer A) → seen g (seen f x) ≡ seen (λ a. g (f a)) x
seen_seen f g (ok a n) = refl
seen_seen f g (refused y) = refl

pub seen_no : {A B : Type 0} (f : A → B) (x : Answer A) {y : Refusal} → seen f x ≡ refused y → x ≡ refused y
seen_no f (ok a m) e = let z : ◌≡◌ {A = ℕ} 0 1 = cc in absurd (omega arith)
seen_no f (refused z) {y} e = let q : z ≡ y = cc in ap (λ (k : Refusal). refused k) q
