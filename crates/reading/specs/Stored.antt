-- What the parts of a reading leave in a lent table, and what they answer: profiles, a reference. Assumes nothing.
use Rattle.std.specs.Prelude.{ℕ, ◌+◌, ◌≡◌, List, Result, Ok, Err}
use Rattle.reference.specs.declared.Refusal.{Refusal}
use Rattle.reference.specs.Refusals.{Told}
use Rattle.reference.specs.Meaning.{Profile, taps_of, names_of, extras_of, sum}
use Rattle.reference.specs.Steps.{Answer, ok, refused, seen}
use Rattle.table.specs.declared.Counts.{Counts}
use Rattle.table.specs.Filed.{profiles_filed, no_counts}
use Rattle.read_parts.specs.Told.{Filled}

-- ---- profiles: of a refused reading the table is open, the public reading clears it

abbrev pub profiles_told : List ℕ → Result (Counts × ℕ) Refusal → Answer Filled
profiles_told e (Ok p) = ok (record { table = e; counts = p.0 }) p.1
profiles_told e (Err x) = refused x

-- the table t with all entries of the profiles l, which become profiles i, i + 1, .. and the first of which stands at offset at; and the counts, which
-- were u
abbrev pub filled_from : ℕ → List ℕ → ℕ → Counts → List Profile → Filled
filled_from at t i u l =
    record {
      table = profiles_filed at t i u l;
      counts = record { taps = u.taps + sum taps_of l; names = u.names + sum names_of l; extras = u.extras + sum extras_of l };
    }

-- A reading x of profiles, the first of which stands at offset at, was stored into t: that left e, and ended as v.
pub record StoresProfiles (at : ℕ) (t : List ℕ) (x : Answer (List Profile)) (e : List ℕ) (v : Result (Counts × ℕ) Refusal) : Type 0 where
  pub told : profiles_told e v ≡ seen (filled_from at t 0 no_counts) x

-- ---- a reference, and what is checked behind its profiles: the table is still open where it is refused

abbrev pub open_told : List ℕ → Told → Answer (List ℕ)
open_told e (Ok n) = ok e n
open_told e (Err x) = refused x

-- A reading that should answer x, with the table that it leaves, left e and answered r.
pub record Leaves (x : Answer (List ℕ)) (e : List ℕ) (r : Told) : Type 0 where
  pub told : open_told e r ≡ x
