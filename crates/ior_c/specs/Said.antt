-- What the exported functions answer, in numbers: an answer as six, a kind, a tap's numbers, a name's views; and what holds of the result and the
-- arrays where the call is asked with arrays of the right lengths, and where it is not. Assumes nothing.
use Rattle.std.specs.Prelude.{ℕ, ◌≡◌, Bool, true, false, ◌&&◌, List, [], ◌∷◌, eqb, leb, length, Option, Some, None, Result, Ok, Err}
use Rattle.octets.specs.Octets.{be}
use Rattle.reference.specs.declared.NameComponent.{NameComponent}
use Rattle.reference.specs.Refusals.{Told}
use Rattle.reference.specs.Steps.{Answer, ok, refused, pick}
use Rattle.reference.specs.declared.ObjectKind.{ObjectKind}
use Rattle.reference.specs.declared.ObjectKind.TheVariants.{Directory, File, Stream, ServiceGateway, StreamEvent, Unknown}
use Rattle.reference.specs.declared.TapNumbers.{TapNumbers}
use Rattle.reference.specs.declared.Refusal.{Refusal}
use Rattle.table.specs.Flat.{name_numbers, table_size}
use Rattle.survey.specs.Exact.{exact}

-- ---- an answer: the refusal's number, its place and figures, the count, and the offset where a reading broke; what is not named is 0

abbrev pub number_of : Told → ℕ
number_of (Ok n) = 0
number_of (Err x) = x.number

abbrev pub answer_size : ℕ
answer_size = 6

abbrev pub numbers_of : Told → List ℕ
numbers_of (Ok n) = 0 ∷ 0 ∷ 0 ∷ 0 ∷ n ∷ 0 ∷ []
numbers_of (Err x) = x.number ∷ x.place ∷ x.first ∷ x.second ∷ 0 ∷ x.offset ∷ []

-- ---- a call: asked as it must be, it answers n and leaves l in the array a; else it answers 255 and leaves a

pub record Tells (asked : Bool) (n : ℕ) (l a : List ℕ) (r : ℕ) (b : List ℕ) : Type 0 where
  pub result : r ≡ pick asked n 255
  pub array : b ≡ pick asked l a

-- the same of an answer x with its six numbers, and of a second array, which held d, is to hold y, and holds e
pub record Gives (asked : Bool) (x : Told) (y a d : List ℕ) (r : ℕ) (b e : List ℕ) : Type 0 where
  pub tells : Tells asked (number_of x) (numbers_of x) a r b
  pub leaves : e ≡ pick asked y d

-- ---- asked as it must be: an array of n numbers and an answer of six; a table of 490 that is exact, too; a use of 16 bits and a pair of numbers

unfoldable pub sized : ℕ → ℕ → ℕ → Bool
sized n array answer = eqb array n && eqb answer answer_size

unfoldable pub askable : List ℕ → ℕ → Bool
askable t answer = sized table_size (length t) answer && exact t

unfoldable pub tap_asked : ℕ → ℕ → Bool
tap_asked uses pair = leb uses 65535 && eqb pair 2

-- ---- the questions

abbrev pub kind_number : ObjectKind → ℕ
kind_number Directory = 0
kind_number File = 1
kind_number Stream = 2
kind_number ServiceGateway = 3
kind_number StreamEvent = 4
kind_number (Unknown n) = 5

-- a type id of four octets as a number
unfoldable pub type_number : List ℕ → ℕ
type_number l = pick (eqb (length l) 4) (be l) 0

abbrev pub tap_result : Option TapNumbers → ℕ
tap_result (Some x) = 1
tap_result None = 0

abbrev pub tap_pair : Option TapNumbers → List ℕ
tap_pair (Some x) = x.transaction ∷ x.timeout ∷ []
tap_pair None = 0 ∷ 0 ∷ []

-- 8, one more than the last index, where there is none
abbrev pub first_said : Result (Option ℕ) Refusal → Told
first_said (Ok (Some i)) = Ok i
first_said (Ok None) = Ok 8
first_said (Err x) = Err x

abbrev pub truth : Bool → ℕ
truth true = 1
truth false = 0

-- ---- the name with lengths of one octet: what is answered, and the four numbers of its views

abbrev pub name_said : Answer NameComponent → Told
name_said (ok x n) = Ok n
name_said (refused y) = Err y

abbrev pub name_left : Answer NameComponent → List ℕ
name_left (ok x n) = name_numbers x
name_left (refused y) = 0 ∷ 0 ∷ 0 ∷ 0 ∷ []
