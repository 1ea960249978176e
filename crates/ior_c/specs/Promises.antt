-- The statements of what the functions promise together: one length, and the day of one reference. Assumes nothing.
use Rattle.std.specs.Prelude.{ℕ, ◌≤◌, ◌≡◌, ◌≢◌, ◌↔◌, List, [], ◌∷◌, length, take, get_or}
use Rattle.reference.specs.declared.TypeIdRule.{TypeIdRule}
use Rattle.reference.specs.declared.AddressWay.{AddressWay}
use Rattle.reference.specs.Meaning.{Reference}
use Rattle.reference.specs.Checks.{Among}
use Rattle.reference.specs.Contents.{said}
use Rattle.reference.specs.Promises.{GivesBack, SameUsed}
use Rattle.table.specs.Flat.{tables_from, Lent}
use Rattle.ior_c.specs.Calls.{IorReadWhole, IorWrite}
use Rattle.ior_c.specs.Said.{answer_size}

-- ior_length answered q and left c, ior_write of the same table answered r and left b: one length, that of the image l; and 6, 8, 9, 10 and 255 alike.
pub record SameLength (l : List ℕ) (q : ℕ) (c : List ℕ) (r : ℕ) (b : List ℕ) : Type 0 where
  pub image : q ≡ 0 → (length l ≡ get_or c 4 0) × (get_or c 4 0 ≤ 65535)
  pub length : r ≡ 0 → (q ≡ 0) × (c ≡ b)
  pub refused : q ≢ 0 → q ≢ 255 → (r ≡ q) × (b ≡ c) × (Among q (6 ∷ 8 ∷ 9 ∷ 10 ∷ []))
  pub early : Among r (6 ∷ 8 ∷ 9 ∷ 10 ∷ []) → (q ≡ r) × (c ≡ b)
  pub unasked : (q ≡ 255) ↔ (r ≡ 255)

-- ---- the day of one reference

-- A call of ior_read_whole under the rule on the octets s, into a table and an answer of the right lengths, whatever they hold: its result, and what it left in both.
pub record Read (rule : TypeIdRule) (s : List ℕ) : Type 0 where
  pub table : List ℕ
  pub answer : List ℕ
  pub result : ℕ
  pub told : List ℕ
  pub left : List ℕ
  pub lent : Lent table
  pub six : length answer ≡ answer_size
  pub call : IorReadWhole rule s table answer result told left

-- A call of ior_write, under the rule and in the way, on a table over the octets s, into an output, with an answer of the right length.
pub record Copied (rule : TypeIdRule) (way : AddressWay) (table s : List ℕ) : Type 0 where
  pub output : List ℕ
  pub answer : List ℕ
  pub result : ℕ
  pub told : List ℕ
  pub left : List ℕ
  pub six : length answer ≡ answer_size
  pub call : IorWrite rule way table s output answer result told left

-- The octets s come in, and are accepted as a whole. They are stored as they are, and later read again. From the table that this left they are written
-- anew over themselves, into an output with room for them. And the copy, as long as s, is read.
pub record Day (rule : TypeIdRule) (way : AddressWay) (s : List ℕ) : Type 0 where
  pub arrival : Read rule s
  pub accepted : arrival.result ≡ 0
  pub again : Read rule s
  pub copy : Copied rule way again.left s
  pub room : length s ≤ length copy.output
  pub after : Read rule (take (length s) copy.left)

-- What such a day keeps of the reference, which says m: reading again is accepted with the same answer, and with equal used counts and entries; the copy
-- is the octets, save the seven constants of each address, and behind it the output is as before; and the copy is accepted with the same answer, equal
-- used counts and entries, and equal contents.
pub record Kept (rule : TypeIdRule) (way : AddressWay) (s : List ℕ) (day : Day rule way s) (m : Reference) : Type 0 where
  pub again : (day.again.result ≡ 0) × (day.again.told ≡ day.arrival.told)
  pub equal : SameUsed (tables_from day.again.left) (tables_from day.arrival.left)
  pub copied : (day.copy.result ≡ 0) × (day.copy.told ≡ day.arrival.told)
  pub back : GivesBack rule way s m (length s) day.copy.output day.copy.left
  pub after : (day.after.result ≡ 0) × (day.after.told ≡ day.arrival.told)
  pub stands : SameUsed (tables_from day.after.left) (tables_from day.arrival.left)
  pub says : said (take (length s) day.copy.left) (tables_from day.after.left) ≡ said s (tables_from day.arrival.left)
