-- The listing of a cache as text (document 01, "Cache listing"): a heading, a row for each record, and a last line. The rows may tell of a refused record,
-- behind 01's columns, where it broke (document 02, No. 3): of a Bool, true asks for that, and false gives 01's listing to the octet. Assumes nothing.
use Rattle.std.specs.Prelude.{ℕ, ◌+◌, ◌*◌, ◌≤◌, ◌<◌, ◌≡◌, Bool, true, false, cond, List, [], ◌∷◌, ◌++◌, length, take}
use Rattle.text.specs.Text.{ascii, decimal}
use Rattle.reference.specs.Meaning.{Reference}
use Rattle.reference.specs.Steps.{Answer, ok, refused}
use Rattle.reference.specs.Today.{read_whole}
use Rattle.reference.specs.declared.Refusal.{Refusal}
use Rattle.reference.specs.declared.ObjectKind.{ObjectKind}
use Rattle.reference.specs.Questions.{kind_of}
use Rattle.lines.specs.Lines.{kind_text}
use Rattle.place_words.specs.Words.{place_text}
use Rattle.records.specs.declared.Record.TheVariants.{Got}
use Rattle.rows.specs.declared.Rows.{Rows}
use Rattle.records.specs.Records.{record_at}
use Rattle.records.specs.Walk.{Piece, Ending, whole, broken, Walked, walk, walk_on, content}

-- kind, number of profiles and 0
unfoldable pub found_text : ObjectKind → ℕ → List ℕ
found_text k n = kind_text k ++ (32 ∷ decimal n) ++ (32 ∷ 48 ∷ [])

-- a refused reference's place in words, and the offset in the file, where the reference starts at `start`
unfoldable pub where_text : ℕ → Refusal → List ℕ
where_text start x = ascii " " ++ place_text x.place ++ ascii " at " ++ decimal (start + x.offset)

-- `- -` and the refusal's number; and where it broke, if that is asked for
unfoldable pub refused_text : Bool → ℕ → Refusal → List ℕ
refused_text asked start x = ascii "- -" ++ (32 ∷ decimal x.number) ++ cond asked (where_text start x) []

unfoldable pub answer_text : Bool → ℕ → Answer Reference → List ℕ
answer_text asked start (ok m n) = found_text (kind_of m.type_id) (length m.profiles)
answer_text asked start (refused x) = refused_text asked start x

-- the row of record k, whose reference is s: its number, how many octets it has, and what the reader answers of it
unfoldable pub row_of : Bool → ℕ → ℕ → List ℕ → List ℕ
row_of asked start k s = decimal k ++ (32 ∷ decimal (length s)) ++ (32 ∷ []) ++ answer_text asked start (read_whole s) ++ (10 ∷ [])

abbrev pub heading : Bool → List ℕ
heading asked = cond asked (ascii "record bytes kind profiles refusal where\n") (ascii "record bytes kind profiles refusal\n")

-- how many records there were
unfoldable pub end_text : ℕ → List ℕ
end_text k = ascii "end" ++ (32 ∷ decimal k) ++ (10 ∷ [])

-- where the mark stands or should
unfoldable pub broken_text : ℕ → List ℕ
broken_text at = ascii "broken at" ++ (32 ∷ decimal at) ++ (10 ∷ [])

-- the lines of a walk over l, after k records: a row for each, and a last line by how it ended
unfoldable pub lines_for : Bool → ℕ → List ℕ → List Piece → Ending → List ℕ
lines_for asked k l [] whole = end_text k
lines_for asked k l [] (broken at) = broken_text at
lines_for asked k l (p ∷ ps) e = row_of asked p.start (k + 1) (content l p) ++ lines_for asked (k + 1) l ps e

abbrev pub lines_of : Bool → ℕ → List ℕ → Walked → List ℕ
lines_of asked k l w = lines_for asked k l w.pieces w.ending

-- the whole output
unfoldable pub listed : Bool → List ℕ → List ℕ
listed asked l = heading asked ++ lines_of asked 0 l (walk l)

-- the lines from place `at` on, after k records
abbrev pub lines_from : Bool → ℕ → List ℕ → ℕ → List ℕ
lines_from asked k l at = lines_of asked k l (walk_on l at)

-- The rows of the records of the block l from `at` on, after k records, fill the first `used` octets of a page, up to record `seen`, which ends before `next`:
-- in every file that has this block, what the page holds and then the lines from `next` on are the lines from `at` on, and as many records fewer are left
-- as were listed. Where it is asked where a record broke, the file has the block at `base`. A row has at most 128 octets, a record at least one.
pub record Rowed (asked : Bool) (base : ℕ) (l : List ℕ) (at k : ℕ) (page : List ℕ) (next seen used : ℕ) : Type 0 where
  pub inside : next ≤ length l
  pub later : k ≤ seen
  pub apart : seen + at ≤ next + k
  pub within : used ≤ length page
  pub short : used + 128 * k ≤ 128 * seen
  pub lines : (front behind : List ℕ) → (asked ≡ true → length front ≡ base)
      → lines_from asked k (front ++ (l ++ behind)) (length front + at) ≡ take used page ++ lines_from asked seen (front ++ (l ++ behind)) (length front + next)
  pub counted : (front behind : List ℕ)
      → k + length (walk_on (front ++ (l ++ behind)) (length front + at)).pieces ≡ seen + length (walk_on (front ++ (l ++ behind)) (length front + next)).pieces

-- Such rows, as far as r says: the page is full, so that no row more surely fits, or no whole record stands next.
pub record Listed (asked : Bool) (base : ℕ) (l : List ℕ) (at k : ℕ) (page : List ℕ) (r : Rows) : Type 0 where
  pub rows : Rowed asked base l at k page r.next r.seen r.used
  pub full : r.is_full ≡ true → length page < r.used + 128
  pub none : r.is_full ≡ false → (a b : ℕ) → record_at l r.next ≡ Got a b → ⊥
