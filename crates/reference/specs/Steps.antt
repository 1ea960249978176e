-- The steps that readers are put together from: what each answers of a list d, from pos on, before end. Assumes nothing.
use Rattle.std.specs.Prelude.{ℕ, zero, suc, ◌+◌, ◌-◌, Bool, true, false, List, [], ◌∷◌, ltb, eqb, Result, Ok, Err}
use Rattle.octets.specs.Octets.{part, be}
use Rattle.reference.specs.declared.Refusal.{Refusal}
use Rattle.reference.specs.Refusals.{cut_at, left_at, long_at, wrong_at, shifted}

-- what was read, and where it ends; or why it is refused
pub data Answer (A : Type 0) : Type 0 where
  ok : A → ℕ → Answer A
  refused : Refusal → Answer A

-- the code's answer in these words: what was read and where it ends, or the refusal
abbrev pub answer_of : {A : Type 0} → Result (A × ℕ) Refusal → Answer A
answer_of (Ok p) = ok p.0 p.1
answer_of (Err x) = refused x

-- of d, from pos, before end
abbrev pub Reader : Type 0 → Type 0
Reader A = List ℕ → ℕ → ℕ → Answer A

abbrev pub pick : {A : Type 0} → Bool → A → A → A
pick true a b = a
pick false a b = b

abbrev pub followed : {A B : Type 0} → Answer B → (B → ℕ → Answer A) → Answer A
followed (ok b next) f = f b next
followed (refused x) f = refused x

-- the answer of n octets of data that stand at pos, told of the list they stand in
abbrev pub outward : {A : Type 0} → ℕ → ℕ → Answer A → Answer A
outward pos n (ok a next) = ok a (pos + n)
outward pos n (refused x) = refused (shifted pos x)

-- the answer with its value told otherwise, as an entry of a table
abbrev pub seen : {A B : Type 0} → (A → B) → Answer A → Answer B
seen f (ok a next) = ok (f a) next
seen f (refused x) = refused x

module _ {A : Type 0} where
  -- the answer, and nothing more is read
  unfoldable pub done : A → Reader A
  done a d pos end = ok a pos

  -- k octets must be there, or 1
  unfoldable pub need : ℕ → ℕ → Reader A → Reader A
  need k place r d pos end = pick (ltb end (pos + k)) (refused (cut_at place pos k end)) (r d pos end)

  -- a number of w octets, which are known to be there
  unfoldable pub number : ℕ → (ℕ → Reader A) → Reader A
  number w f d pos end = f (be (part d pos w)) d (pos + w) end

  -- the same, which must pass the test, or n
  unfoldable pub checked : ℕ → (ℕ → Bool) → ℕ → ℕ → (ℕ → Reader A) → Reader A
  checked w test n place f d pos end = pick (test (be (part d pos w))) (number w f d pos end) (refused (wrong_at n place pos))

  -- n octets, or 2
  unfoldable pub run : ℕ → (List ℕ → Reader A) → Reader A
  run n f d pos end = pick (ltb (end - pos) n) (refused (long_at pos n end)) (f (part d pos n) d (pos + n) end)

  -- all that is left
  unfoldable pub rest : (List ℕ → Reader A) → Reader A
  rest f d pos end = f (part d pos (end - pos)) d end end

  -- one of two
  unfoldable pub choose : Bool → Reader A → Reader A → Reader A
  choose b r s d pos end = pick b (r d pos end) (s d pos end)

  -- what is read must reach the end, or 1
  unfoldable pub ending : ℕ → Reader A → Reader A
  ending place r d pos end = followed (r d pos end) (λ a next. pick (eqb next end) (ok a next) (refused (left_at place next end)))

  -- before the end of a component of n octets, or 2
  unfoldable pub within : ℕ → Reader A → Reader A
  within n r d pos end = pick (ltb (end - pos) n) (refused (long_at pos n end)) (r d pos (pos + n))

  -- n octets must be there, or 2; none is read
  unfoldable pub fits : ℕ → Reader A → Reader A
  fits n r d pos end = pick (ltb (end - pos) n) (refused (long_at pos n end)) (r d pos end)

  -- data of n octets, which are known to be there, read as a list of its own
  unfoldable pub apart : ℕ → Reader A → Reader A
  apart n r d pos end = outward pos n (r (part d pos n) 0 n)

  -- n of them
  unfoldable pub many : ℕ → Reader A → Reader (List A)
  many zero r d pos end = ok [] pos
  many (suc n) r d pos end = followed (r d pos end) (λ a next. followed (many n r d next end) (λ l last. ok (a ∷ l) last))

  -- one after the other
  unfoldable pub after : {B : Type 0} → Reader B → (B → Reader A) → Reader A
  after r f d pos end = followed (r d pos end) (λ b next. f b d next end)
