-- What checks in a row find, by what the check of each number may find. Assumes nothing.
use Rattle.std.specs.Prelude.{ℕ, ◌≡◌, ◌<◌}
use Rattle.reference.specs.Refusals.{Check}
use Rattle.reference.specs.Checks.{each}
use Rattle.table.specs.Region.{listed}

-- the check of each i below n finds f i
abbrev pub Tells : (ℕ → Check → Type 0) → ℕ → (ℕ → Check) → Type 0
Tells finds n f = (i : ℕ) (found : Check) → i < n → finds i found → found ≡ f i

-- so the first refusal among f 0, f 1, .. is found
abbrev pub EachBy : (ℕ → Check → Type 0) → ℕ → Check → Type 0
EachBy finds n found = (f : ℕ → Check) → Tells finds n f → found ≡ each f (listed n (λ i. i))
