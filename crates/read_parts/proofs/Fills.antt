-- A loop that reads entries and stores each into a lent table: what is left to do does what was to be done; and what a caller knows of such
-- a run in each arm of its match. Assumes nothing.
use Prim.Native.Nat.{ℕ, suc, ◌+◌, ◌-◌, ◌<◌, ◌≤◌}
use mathlib.Core.Path.{◌≡◌, refl, sym, ap, ap₂, ◌∙◌}
use mathlib.Core.List.{List, [], ◌∷◌}
use mathlib.Core.Logic.{◌≢◌}
use native.Mathlib.Nat.{add_assoc, add-zero, sub-zero}
use native.Mathlib.Omega.{arith}
use lib.ListN.{length}
use Rattle.reference.specs.declared.Refusal.{Refusal}
use Rattle.reference.specs.Steps.{Answer, ok, refused, answer_of, Reader, followed, seen, many, ending}
use Rattle.reference.specs.Refusals.{left_at}
use Rattle.reference.specs.Placed.{placed}
use Rattle.reference.proofs.Steps.{passed_on, seen_ok, seen_no, ending_no, ending_left, ending_ok}
use Rattle.table.specs.Region.{Region, past, stored}
use Rattle.table.specs.Flat.{table_size, Lent}
use Rattle.table.proofs.Stored.{stored_none, stored_append, stored_length}
use Rattle.std.specs.Prelude.{Result, Ok, Err, IsErrAnd}
use Rattle.reference.specs.Refusals.{Told}
use Rattle.read_parts.specs.Told.{Moves, kept, ended, Stores}

-- an answer is not both
not_both : {A : Type 0} {x : Refusal} {a : A} {n : ℕ} → refused x ≡ ok a n → ⊥
not_both e = let z : ◌≡◌ {A = ℕ} 0 1 = cc in omega arith

module _ {A E : Type 0} (g : Region E) (f : ℕ → A → E) (lay : A → List ℕ) where
  kept_ok : (at : ℕ) (t : List ℕ) (k : ℕ) (x : Answer (List A)) {e : List ℕ} {n : ℕ} → kept g f lay at t k x ≡ ok e n
      → (l : List A) × (x ≡ ok l n) × (e ≡ stored g t k (placed f lay at l))
  kept_ok at t k (ok l m) {e} {n} h = let q : m ≡ n = cc in (l, ap (λ (j : ℕ). ok l j) q, cc)
  kept_ok at t k (refused y) h = absurd (not_both h)

  kept_no : (at : ℕ) (t : List ℕ) (k : ℕ) (x : Answer (List A)) {y : Refusal} → kept g f lay at t k x ≡ refused y → x ≡ refused y
  kept_no at t k (ok l m) h = absurd (not_both (sym h))
  kept_no at t k (refused z) {y} h = let q : z ≡ y = cc in ap (λ (k : Refusal). refused k) q

  module _ (r : Reader A) (d : List ℕ) (base end : ℕ) where
    -- n to come from pos on, the next of which is entry k of t
    abbrev leaves : ℕ → ℕ → List ℕ → ℕ → Answer (List ℕ)
    leaves n pos t k = kept g f lay (base + pos) t k (many n r d pos end)

    leaves_end : (pos : ℕ) (t : List ℕ) (k : ℕ) → leaves 0 pos t k ≡ ok t pos
    unfolding many
    leaves_end pos t k = ap (λ (x : List ℕ). ok x pos) (stored_none g t k)

    leaves_not : (n pos : ℕ) (t : List ℕ) (k : ℕ) {x : Refusal} → r d pos end ≡ refused x → leaves (suc n) pos t k ≡ refused x
    unfolding many
    leaves_not n pos t k e = rw e

    leaves_more : (n pos : ℕ) (t : List ℕ) (k : ℕ) {a : A} {next : ℕ} → r d pos end ≡ ok a next → next ≡ pos + length (lay a) → past g ≤ length t
        → leaves (suc n) pos t k ≡ leaves n next (stored g t k (f (base + pos) a ∷ [])) (k + 1)
    unfolding many
    leaves_more n pos t k {a} {next} e s h = rw e (go (many n r d next end))
      where
        x : E
        x = f (base + pos) a

        go : (y : Answer (List A)) → kept g f lay (base + pos) t k (followed y (λ l last. ok (a ∷ l) last)) ≡ kept g f lay (base + next) (stored g t k (x ∷ [])) (k + 1) y
        go (refused z) = refl
        go (ok l last) =
            let p : base + pos + length (lay a) ≡ base + next = omega arith in
            ap (λ (v : List ℕ). ok v last)
            (ap (λ (q : ℕ). stored g t k (x ∷ placed f lay q l)) p ∙ sym (stored_append g t k h (x ∷ []) (placed f lay (base + next) l)))

-- after i turns of n: the table, and where the next one stands, which is inside
pub record Fills {A E : Type 0} (g : Region E) (f : ℕ → A → E) (lay : A → List ℕ) (r : Reader A) (d : List ℕ) (base end n pos : ℕ) (t₀ : List ℕ) (first : ℕ) (t : List ℕ) (cur i : ℕ)
    : Type 0 where
  pub inside : cur ≤ end
  pub most : i ≤ n
  pub long : length t ≡ length t₀
  pub same : leaves g f lay r d base end n pos t₀ first ≡ leaves g f lay r d base end (n - i) cur t (first + i)

module _ {A E : Type 0} {g : Region E} {f : ℕ → A → E} {lay : A → List ℕ} {r : Reader A} {d : List ℕ} {base end n pos first : ℕ} {t₀ : List ℕ} where
  pub none_yet : pos ≤ end → Fills g f lay r d base end n pos t₀ first t₀ pos 0
  none_yet h = record { inside = h; most = omega arith; long = refl; same = rw (sub-zero, add-zero) }

  module _ {t : List ℕ} {cur i : ℕ} (h : Fills g f lay r d base end n pos t₀ first t cur i) where
    abbrev Ran : Answer (List A) → Told → Type 0
    Ran x v = Stores g f lay (base + pos) t₀ first x t v

    left_is : (m : ℕ) → n - i ≡ m → leaves g f lay r d base end n pos t₀ first ≡ leaves g f lay r d base end m cur t (first + i)
    left_is m q = h.same ∙ ap (λ (j : ℕ). leaves g f lay r d base end j cur t (first + i)) q

    -- behind the last turn
    module _ (done : n ≤ i) where
      were_read : (l : List A) × (many n r d pos end ≡ ok l cur) × (t ≡ stored g t₀ first (placed f lay (base + pos) l))
      were_read =
          kept_ok g f lay (base + pos) t₀ first (many n r d pos end) (left_is 0 (omega arith) ∙ leaves_end g f lay r d base end cur t (first + i))

      pub all_read : Ran (many n r d pos end) (Ok cur)
      all_read = let (l, e, s) = were_read in record { told = ap (λ (x : List ℕ). ok x cur) s ∙ ap (kept g f lay (base + pos) t₀ first) (sym e) }

-- a turn: what the code was told
module _ {E : Type 0} {A : Type 0} {g : Region E} {f : ℕ → A → E} {lay : A → List ℕ} {r : Reader A} {d : List ℕ} {base end n pos first : ℕ} {t₀ t : List ℕ} {cur i : ℕ}
    (h : Fills g f lay r d base end n pos t₀ first t cur i) (v : Result (E × ℕ) Refusal) (read : answer_of v ≡ seen (f (base + cur)) (r d cur end)) (l : i < n)
  where
    turn_no : {x : Refusal} → v ≡ Err x → many n r d pos end ≡ refused x
    turn_no q =
        kept_no g f lay (base + pos) t₀ first (many n r d pos end)
        (left_is h (suc (n - (i + 1))) (omega arith)
        ∙ leaves_not g f lay r d base end (n - (i + 1)) cur t (first + i) (seen_no (f (base + cur)) _ (sym read ∙ ap answer_of q)))

    pub one_no : {x : Refusal} → v ≡ Err x → (w : Told) → IsErrAnd w (λ y. y ≡ x) → Ran h (many n r d pos end) w
    one_no q w p = record { told = ap (ended t) (passed_on w p) ∙ ap (kept g f lay (base + pos) t₀ first) (sym (turn_no q)) }

-- an entry more
module _ {E A : Type 0} (g : Region E) (r : Reader A) (lay : A → List ℕ) {f : ℕ → A → E} {d : List ℕ} {base end n pos first : ℕ} {t₀ t : List ℕ} {cur i : ℕ}
    (h : Fills g f lay r d base end n pos t₀ first t cur i) (v : Result (E × ℕ) Refusal) (read : answer_of v ≡ seen (f (base + cur)) (r d cur end)) (moves : Moves r lay d cur end) (l : i < n)
    {e : E} {next cur' : ℕ} {t' : List ℕ} (lent : Lent t₀) (fits : past g ≤ table_size) (q : v ≡ Ok (e, next)) (c : cur' ≡ next) where
  pub one_more : t' ≡ stored g t (first + i) (e ∷ []) → Fills g f lay r d base end n pos t₀ first t' cur' (i + 1)
  one_more s =
      let (a, p, ev) = seen_ok (f (base + cur)) (r d cur end) (sym read ∙ ap answer_of q) in
      let (inside, span) = moves a next p in
      let k : past g ≤ length t = omega (arith, h.long) in
      let s' = s ∙ ap (λ (x : E). stored g t (first + i) (x ∷ [])) ev in
      record {
        inside = omega arith;
        most = omega arith;
        long = ap length s ∙ stored_length g t (first + i) k (e ∷ []) ∙ h.long;
        same =
            left_is h (suc (n - (i + 1))) (omega arith)
            ∙ leaves_more g f lay r d base end (n - (i + 1)) cur t (first + i) (p ∙ ap (ok a) (sym c)) (c ∙ span) k
            ∙ ap₂ (λ (x : List ℕ) (j : ℕ). leaves g f lay r d base end (n - (i + 1)) cur' x j) (sym s') (add_assoc first i 1);
      }

-- what a caller knows in each arm of its match
module _ {A E : Type 0} {g : Region E} {f : ℕ → A → E} {lay : A → List ℕ} {at k : ℕ} {t e : List ℕ} {x : Answer (List A)} {v : Told} (h : Stores g f lay at t k x e v) where
  pub told_no : {y : Refusal} → v ≡ Err y → x ≡ refused y
  told_no q = kept_no g f lay at t k x (sym h.told ∙ ap (ended e) q)

  pub told_ok : {n : ℕ} → v ≡ Ok n → (l : List A) × (x ≡ ok l n) × (e ≡ stored g t k (placed f lay at l))
  told_ok q = kept_ok g f lay at t k x (sym h.told ∙ ap (ended e) q)

-- the same run, which must reach the end
module _ {A E : Type 0} {g : Region E} {f : ℕ → A → E} {lay : A → List ℕ} {at k : ℕ} {t e : List ℕ} (n : ℕ) (r : Reader A) (d : List ℕ) (pos end : ℕ) {v : Told}
    (h : Stores g f lay at t k (many n r d pos end) e v) (place : ℕ) where
  pub ending_not : {x : Refusal} → v ≡ Err x → (w : Told) → IsErrAnd w (λ y. y ≡ x) → Stores g f lay at t k (ending place (many n r) d pos end) e w
  ending_not q w p = record { told = ap (ended e) (passed_on w p) ∙ ap (kept g f lay at t k) (sym (ending_no d pos end place (many n r) (told_no h q))) }

  module _ {last : ℕ} (q : v ≡ Ok last) where
    pub ending_left_over : {x : Refusal} → x ≡ left_at place last end → last ≢ end → Stores g f lay at t k (ending place (many n r) d pos end) e (Err x)
    ending_left_over p ne =
        let (l, m, s) = told_ok h q in
        record { told = ap refused p ∙ ap (kept g f lay at t k) (sym (ending_left d pos end place (many n r) m ne)) }

    pub ending_all_read : last ≡ end → Stores g f lay at t k (ending place (many n r) d pos end) e (Ok last)
    ending_all_read z =
        let (l, m, s) = told_ok h q in
        record { told = ap₂ (λ (x : List ℕ) (p : ℕ). ok x p) s z ∙ ap (kept g f lay at t k) (sym (ending_ok d pos end place (many n r) (m ∙ ap (ok l) z))) }
