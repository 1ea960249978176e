-- What a loop over entries goes by: what is seen so far is what was before, and each entry before i. Assumes nothing.
use Prim.Native.Nat.{ℕ, ◌+◌, ◌≤◌}
use mathlib.Core.Path.{◌≡◌, refl, ap, ap₂, ◌∙◌}
use native.Mathlib.Numerals.{add-one}
use native.Mathlib.Omega.{arith}
use Rattle.survey.specs.declared.Survey.{Survey}
use Rattle.survey.specs.Seen.{Bounded, Grown, added, all_seen}

pub record Seeing (f : ℕ → Survey) (s all : Survey) (i : ℕ) : Type 0 where
  pub seen : all ≡ all_seen f i s
  pub grown : Grown i s all

pub see_begin : {f : ℕ → Survey} {s : Survey} → Seeing f s s 0
unfolding all_seen
see_begin = record { seen = refl; grown = (omega arith, omega arith, omega arith, omega arith) }

module _ {f : ℕ → Survey} {s a : Survey} {i : ℕ} (g : Seeing f s a i) where
  pub see_bounded : i ≤ 64 → Bounded 501 s → Bounded 999 a
  see_bounded h b = let w = g.grown in (omega arith, omega arith, omega arith, omega arith)

  next : added (all_seen f i s) (f i) ≡ all_seen f (i + 1) s
  unfolding all_seen
  next = rw add-one refl

  pub see_turn : {b r : Survey} → b ≡ f i → Bounded 1 b → r ≡ added a b → Seeing f s r (i + 1)
  see_turn {b} {r} e small q =
      let w = g.grown in
      record {
        seen = q ∙ ap₂ added g.seen e ∙ next;
        grown = (
          omega (arith, ap (λ (x : Survey). x.taps) q),
          omega (arith, ap (λ (x : Survey). x.names) q),
          omega (arith, ap (λ (x : Survey). x.extras) q),
          omega (arith, ap (λ (x : Survey). x.octets) q),
        );
      }

  pub see_end : {n : ℕ} → i ≡ n → n ≤ 64 → (a ≡ all_seen f n s) × Grown 64 s a
  see_end {n} e h = let w = g.grown in (g.seen ∙ ap (λ (k : ℕ). all_seen f k s) e, (omega arith, omega arith, omega arith, omega arith))

-- .. where the fixed fields of all entries were added before the first
pub fixed_bounded : (b s : Survey) → Bounded 500 b → Grown 1 b s → Bounded 501 s
fixed_bounded b s h g = (omega arith, omega arith, omega arith, omega arith)

pub fixed_grown : (b s a : Survey) → Grown 1 b s → Grown 64 s a → Grown 65 b a
fixed_grown b s a g h = (omega arith, omega arith, omega arith, omega arith)

-- .. and where the loop goes by the place of entry i
pub record SeeingAt (f : ℕ → Survey) (place : ℕ → ℕ) (count : ℕ) (s all : Survey) (at : ℕ) : Type 0 where
  pub i : ℕ
  pub here : at ≡ place i
  pub few : i ≤ count
  pub seeing : Seeing f s all i
