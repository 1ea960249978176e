-- What measuring and writing share: the length of a sound table's image under rule 1, or what the table is refused with. Assumes nothing.
use Rattle.std.specs.Prelude.{ℕ, ◌≡◌, List, Ok, Err}
use Rattle.reference.specs.declared.Refusal.{Refusal}
use Rattle.reference.specs.declared.TypeIdRule.{TypeIdRule}
use Rattle.reference.specs.Refusals.{Told, refusal}
use Rattle.faults.specs.Judges.{Sounds}
use Rattle.faults.specs.declared.Unsound.{Unsound}
use Rattle.faults.specs.declared.Unsound.TheVariants.{NotExact, Refused}

-- what an unsound table is refused with
abbrev pub refusal_for : Unsound → Refusal
refusal_for NotExact = refusal 255 0 0 0
refusal_for (Refused x) = x

-- the length of a sound table's image under rule 1, over n octets; or what the table is refused with under the rule
abbrev pub SoundOr : TypeIdRule → List ℕ → ℕ → Told → Type 0
SoundOr rule t n (Ok x) = Sounds rule t n (Ok x)
SoundOr rule t n (Err y) = (u : Unsound) × (y ≡ refusal_for u) × Sounds rule t n (Err u)
