-- The contracts of the exported functions that name neither a rule nor a way, and the day of one reference through them: rule 1, and an address with its
-- constants. Assumes nothing.
use Rattle.std.specs.Prelude.{ℕ, List}
use Rattle.reference.specs.declared.TypeIdRule.TheVariants.{Multiple}
use Rattle.reference.specs.declared.AddressWay.TheVariants.{Constants}
use Rattle.reference.specs.Meaning.{Reference}
use Rattle.ior_c.specs.Calls as Calls
use Rattle.ior_c.specs.Promises as Promises

abbrev pub IorRead : (s t a : List ℕ) (r : ℕ) (b e : List ℕ) → Type 0
IorRead = Calls.IorRead Multiple

abbrev pub IorReadWhole : (s t a : List ℕ) (r : ℕ) (b e : List ℕ) → Type 0
IorReadWhole = Calls.IorReadWhole Multiple

abbrev pub IorLength : (t s a : List ℕ) (r : ℕ) (b : List ℕ) → Type 0
IorLength = Calls.IorLength Multiple

abbrev pub IorWrite : (t s d a : List ℕ) (r : ℕ) (b f : List ℕ) → Type 0
IorWrite = Calls.IorWrite Multiple Constants

abbrev pub Day : List ℕ → Type 0
Day = Promises.Day Multiple Constants

abbrev pub Kept : (s : List ℕ) → Day s → Reference → Type 0
Kept = Promises.Kept Multiple Constants
