-- What a call tells where it is asked as it must be, and where it is not; and what it means to be asked so. Assumes nothing.
use Prim.Native.Nat.{ℕ, ◌<◌, ◌≤◌}
use mathlib.Core.Path.{◌≡◌, refl, sym, ap, ap₂, subst, ◌∙◌}
use mathlib.Core.Bool.{Bool, true, false, ◌&&◌}
use mathlib.Core.Logic.{◌≢◌, ◌↔◌}
use mathlib.Core.List.{List}
use native.Mathlib.Omega.{arith}
use Rattle.reference.specs.Refusals.{Told}
use Rattle.std.specs.Prelude.{Result, Ok, Err}
use Rattle.reference.specs.declared.TypeIdRule.{TypeIdRule}
use Rattle.reference.specs.declared.TypeIdRule.TheVariants.{Multiple}
use Rattle.reference.specs.declared.AddressWay.{AddressWay}
use Rattle.reference.specs.Writer.{size_of, measured, written, leaves}
use Rattle.survey.specs.ByTable.{used_in}
use Rattle.faults.specs.declared.Unsound.{Unsound}
use Rattle.faults.specs.declared.Unsound.TheVariants.{NotExact, Refused}
use Rattle.faults.specs.Judges.{Judges, Sounds, length_told}
use Rattle.faults.proofs.Judging.{passed_limit, gap_measured, refused_measured}
use Rattle.writing.proofs.Answers.{measure_refuses, refuses}
use Rattle.reference.specs.declared.Refusal.{Refusal}
use Rattle.reference.specs.Steps.{pick}
use lib.Dec.{eqb}
use lib.ListN.{length}
use borrow.Author.Tests.{eq-eqb, ne_eqb, eqb-true, le-leb, lt-leb}
use Rattle.reference.proofs.Asked.{picks_first, picks_second}
use Rattle.reference.proofs.Cases.{by_test, by_answer}
use Rattle.table.specs.Flat.{table_size, tables_from, Lent}
use Rattle.survey.specs.Exact.{exact}
use Rattle.survey.specs.Uncut.{Uncut}
use Rattle.survey.proofs.Every.{and_left, and_right}
use Rattle.survey.proofs.Uncut.{exact_exactly}
use Rattle.ior_c.specs.Said.{answer_size, number_of, numbers_of, Tells, Gives, sized, askable, tap_asked}
use Rattle.ior_c.specs.Judged.{UnsoundTold}

module _ {asked : Bool} {n : ℕ} {l a : List ℕ} where
  pub told : {r : ℕ} {b : List ℕ} → asked ≡ true → r ≡ n → b ≡ l → Tells asked n l a r b
  told e p q = record { result = p ∙ sym (picks_first asked n 255 e); array = q ∙ sym (picks_first asked l a e) }

  pub not_told : asked ≡ false → Tells asked n l a 255 a
  not_told e = record { result = sym (picks_second asked n 255 e); array = sym (picks_second asked l a e) }

-- of an answer v that is known to be x, after its numbers were put
pub answer_told : {asked : Bool} {x v : Told} {a : List ℕ} {r : ℕ} {b : List ℕ} → asked ≡ true → v ≡ x → (r ≡ number_of v) × (b ≡ numbers_of v)
    → Tells asked (number_of x) (numbers_of x) a r b
answer_told e h p = told e (p.0 ∙ ap number_of h) (p.1 ∙ ap numbers_of h)

module _ {asked : Bool} {x : Told} {y a d : List ℕ} where
  pub given : {v : Told} {r : ℕ} {b e : List ℕ} → asked ≡ true → v ≡ x → (r ≡ number_of v) × (b ≡ numbers_of v) → e ≡ y → Gives asked x y a d r b e
  given t h p q = record { tells = answer_told t h p; leaves = q ∙ sym (picks_first asked y d t) }

  pub not_given : asked ≡ false → {e : List ℕ} → e ≡ d → Gives asked x y a d 255 a e
  not_given t q = record { tells = not_told t; leaves = q ∙ sym (picks_second asked y d t) }

-- what a call told and left, by whether it was asked
module _ {asked : Bool} {n : ℕ} {l a : List ℕ} {r : ℕ} {b : List ℕ} (t : Tells asked n l a r b) where
  pub asked_told : asked ≡ true → (r ≡ n) × (b ≡ l)
  asked_told e = (t.result ∙ picks_first asked n 255 e, t.array ∙ picks_first asked l a e)

  pub unasked_told : asked ≡ false → (r ≡ 255) × (b ≡ a)
  unasked_told e = (t.result ∙ picks_second asked n 255 e, t.array ∙ picks_second asked l a e)

module _ {asked : Bool} {x : Told} {y a d : List ℕ} {r : ℕ} {b e : List ℕ} (g : Gives asked x y a d r b e) where
  pub asked_given : asked ≡ true → (r ≡ number_of x) × (b ≡ numbers_of x) × (e ≡ y)
  asked_given h = let (p, q) = asked_told g.tells h in (p, q, g.leaves ∙ picks_first asked y d h)

  pub unasked_given : asked ≡ false → (r ≡ 255) × (b ≡ a) × (e ≡ d)
  unasked_given h = let (p, q) = unasked_told g.tells h in (p, q, g.leaves ∙ picks_second asked y d h)

-- ---- whatever code meets these contracts gives the same result and leaves the same in its arrays

module _ {asked asked' : Bool} {n n' : ℕ} {l l' a : List ℕ} {r r' : ℕ} {b b' : List ℕ} where
  pub tells_alike : asked ≡ asked' → n ≡ n' → l ≡ l' → Tells asked n l a r b → Tells asked' n' l' a r' b' → (r ≡ r') × (b ≡ b')
  tells_alike e p q h h' = (
    h.result ∙ ap₂ (λ (k : Bool) (x : ℕ). pick k x 255) e p ∙ sym h'.result,
    h.array ∙ ap₂ (λ (k : Bool) (x : List ℕ). pick k x a) e q ∙ sym h'.array,
  )

module _ {asked asked' : Bool} {x x' : Told} {y y' a d : List ℕ} {r r' : ℕ} {b b' e e' : List ℕ} where
  pub gives_alike : asked ≡ asked' → x ≡ x' → y ≡ y' → Gives asked x y a d r b e → Gives asked' x' y' a d r' b' e' → (r ≡ r') × (b ≡ b') × (e ≡ e')
  gives_alike k p q h h' =
      let (u, v) = tells_alike k (ap number_of p) (ap numbers_of p) h.tells h'.tells in
      (u, v, h.leaves ∙ ap₂ (λ (i : Bool) (z : List ℕ). pick i z d) k q ∙ sym h'.leaves)

-- 255 is told exactly where the call is not asked as it must be, since no refusal bears that number
pub unasked_exactly : {asked : Bool} {x : Told} {l a : List ℕ} {r : ℕ} {b : List ℕ} → ((y : Refusal) → x ≡ Err y → y.number ≤ 10) → Tells asked (number_of x) l a r b
    → (r ≡ 255) ↔ (asked ≡ false)
unasked_exactly {asked} {x} {r = r} small t = (
  λ z. by_test asked
      (λ h.
      let p = (asked_told t h).0 in
      by_answer x (λ n e. let q : r ≡ 0 = p ∙ ap number_of e in absurd (omega arith))
      (λ y e. let k = small y e in let q : r ≡ y.number = p ∙ ap number_of e in absurd (omega arith)))
      (λ h. h),
  λ h. (unasked_told t h).0,
)

-- ---- asked as it must be

module _ (n array answer : ℕ) where
  pub not_sized : array ≢ n → sized n array answer ≡ false
  unfolding sized
  not_sized h = ap (λ (b : Bool). b && eqb answer answer_size) (ne_eqb array n h)

  pub sized_by_answer : array ≡ n → sized n array answer ≡ eqb answer answer_size
  unfolding sized
  sized_by_answer e = ap (λ (b : Bool). b && eqb answer answer_size) (eq-eqb array n e)

  pub not_answered : answer ≢ answer_size → sized n array answer ≡ false
  unfolding sized
  not_answered h = ap (λ (b : Bool). eqb array n && b) (ne_eqb answer answer_size h) ∙ go (eqb array n)
    where
      go : (b : Bool) → (b && false) ≡ false
      go true = refl
      go false = refl

  pub is_sized : array ≡ n → answer ≡ answer_size → sized n array answer ≡ true
  is_sized e f = sized_by_answer e ∙ eq-eqb answer answer_size f

  pub lengths : sized n array answer ≡ true → (array ≡ n) × (answer ≡ answer_size)
  unfolding sized
  lengths e = (eqb-true array n (and_left (eqb array n) (eqb answer answer_size) e), eqb-true answer answer_size (and_right (eqb array n) (eqb answer answer_size) e))

module _ (t : List ℕ) (answer : ℕ) where
  pub not_askable : sized table_size (length t) answer ≡ false → askable t answer ≡ false
  unfolding askable
  not_askable e = ap (λ (b : Bool). b && exact t) e

  pub askable_by_table : sized table_size (length t) answer ≡ true → askable t answer ≡ exact t
  unfolding askable
  askable_by_table e = ap (λ (b : Bool). b && exact t) e

  -- with arrays of the right lengths, exactly if no number of the table is cut
  pub unaskable_exactly : Lent t → answer ≡ answer_size → (askable t answer ≡ false) ↔ (Uncut t → ⊥)
  unaskable_exactly l f =
      let e = exact_exactly t l in
      let k = askable_by_table (is_sized table_size (length t) answer l f) in (
        λ h u. let x = sym (e.1 u) ∙ sym k ∙ h in let z : ◌≡◌ {A = ℕ} 0 1 = cc in omega arith,
        λ never. k ∙ by_test {P = exact t ≡ false} (exact t) (λ x. absurd (never (e.0 x))) (λ x. x),
      )

  pub askable_lengths : askable t answer ≡ true → (Lent t) × (answer ≡ answer_size)
  unfolding askable
  askable_lengths e = lengths table_size (length t) answer (and_left (sized table_size (length t) answer) (exact t) e)

module _ (uses pair : ℕ) where
  pub wide_use : 65535 < uses → tap_asked uses pair ≡ false
  unfolding tap_asked
  wide_use h = ap (λ (b : Bool). b && eqb pair 2) (lt-leb uses 65535 h)

  pub by_pair : uses ≤ 65535 → tap_asked uses pair ≡ eqb pair 2
  unfolding tap_asked
  by_pair h = ap (λ (b : Bool). b && eqb pair 2) (le-leb uses 65535 h)

-- ---- what the judgement of a lent table over a source lets tell

module _ (rule : TypeIdRule) (t s : List ℕ) {v : Result ℕ Unsound} (j : Sounds rule t (length s) v) where
  module _ {x : ℕ} (q : v ≡ Ok x) where
    says : Judges t (length s) (Ok x)
    says = subst (Sounds rule t (length s)) q j

    pub sound_exact : exact t ≡ true
    sound_exact = says.0

    pub sound_fits : (x ≡ size_of Multiple (used_in t)) × (x ≤ 65535)
    sound_fits = let (_, p, e) = says in (e, passed_limit (tables_from t) (length s) p e)

    pub sound_measured : {r : Told} → r ≡ length_told rule (used_in t) → r ≡ measured rule (tables_from t) s
    sound_measured a = let (_, p, e) = says in gap_measured rule (tables_from t) s p a

  -- .. of a table that is not sound, in an answer of six numbers
  module _ {u : Unsound} (q : v ≡ Err u) {a : List ℕ} {r : ℕ} {b : List ℕ} (six : sized table_size (length t) (length a) ≡ true) (p : UnsoundTold u a r b) where
    pub unsound_measured : Tells (askable t (length a)) (number_of (measured rule (tables_from t) s)) (numbers_of (measured rule (tables_from t) s)) a r b
    unsound_measured = go u (subst (Sounds rule t (length s)) q j) p
      where
        go : (u : Unsound) → Sounds rule t (length s) (Err u) → UnsoundTold u a r b → Tells (askable t (length a)) (number_of (measured rule (tables_from t) s)) (numbers_of (measured rule (tables_from t) s)) a r b
        go NotExact e p = let k = not_told (askable_by_table t (length a) six ∙ e) in record { result = p.0 ∙ k.result; array = p.1 ∙ k.array }
        go (Refused x) k p = answer_told (askable_by_table t (length a) six ∙ k.0) (refused_measured rule (tables_from t) s k.1) p

    pub unsound_written : (way : AddressWay) (d : List ℕ) → Gives (askable t (length a)) (written rule (tables_from t) s d) (leaves rule way (tables_from t) s d) a d r b d
    unsound_written way d = go u (subst (Sounds rule t (length s)) q j) p
      where
        go : (u : Unsound) → Sounds rule t (length s) (Err u) → UnsoundTold u a r b → Gives (askable t (length a)) (written rule (tables_from t) s d) (leaves rule way (tables_from t) s d) a d r b d
        go NotExact e p =
            let k = not_given (askable_by_table t (length a) six ∙ e) refl in
            record { tells = record { result = p.0 ∙ k.tells.result; array = p.1 ∙ k.tells.array }; leaves = k.leaves }
        go (Refused x) k p =
            let w = refuses rule way (tables_from t) s d (measure_refuses rule (tables_from t) (length s) (length d) k.1) in
            given (askable_by_table t (length a) six ∙ k.0) w.answers p w.leaves
