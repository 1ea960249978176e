-- What each sort of answer is as text: the lines of the program `answers`. Assumes nothing.
use Rattle.std.specs.Prelude.{ℕ, zero, suc, cond, List, [], ◌∷◌, ◌++◌, eqb, get_or, Option, Some, None, Result, Ok, Err}
use Rattle.octets.specs.Octets.{octets}
use Rattle.text.specs.Text.{decimal, hexes}
use Rattle.reference.specs.declared.Refusal.{Refusal}
use Rattle.reference.specs.Refusals.{Told as Answer}
use Rattle.reference.specs.declared.ObjectKind.{ObjectKind}
use Rattle.reference.specs.declared.ObjectKind.TheVariants as Kinds
use Rattle.reference.specs.declared.TapNumbers.{TapNumbers}
use Rattle.reference.specs.declared.NameComponent.{NameComponent}

-- a space and a number
abbrev pub spaced : ℕ → List ℕ
spaced n = 32 ∷ decimal n

-- number, place, first and second figure
unfoldable pub refusal_text : Refusal → List ℕ
refusal_text r = decimal r.number ++ spaced r.place ++ spaced r.first ++ spaced r.second

-- `0 0 0 0` and a count
unfoldable pub accepted_text : ℕ → List ℕ
accepted_text n = 48 ∷ 32 ∷ 48 ∷ 32 ∷ 48 ∷ 32 ∷ 48 ∷ spaced n

-- a refused answer has the count 0
unfoldable pub answer_text : Answer → List ℕ
answer_text (Ok n) = accepted_text n
answer_text (Err r) = refusal_text r ++ (32 ∷ 48 ∷ [])

-- the same with the offset where a reading broke, before the count
unfoldable pub where_text : Answer → List ℕ
where_text (Ok n) = accepted_text 0 ++ spaced n
where_text (Err r) = refusal_text r ++ spaced r.offset ++ (32 ∷ 48 ∷ [])

-- ` i:v`, and nothing where v is 0
unfoldable pub item_text : ℕ → ℕ → List ℕ
item_text i v = cond (eqb v 0) [] (spaced i ++ (58 ∷ []) ++ decimal v)

-- the first n numbers of a table
unfoldable pub table_text : List ℕ → ℕ → List ℕ
table_text t zero = []
table_text t (suc i) = table_text t i ++ item_text i (get_or t i 0)

-- a space, and the octets in hexadecimal, or `-` for none
unfoldable pub output_text : List ℕ → List ℕ
output_text [] = 32 ∷ 45 ∷ []
output_text (x ∷ xs) = 32 ∷ hexes (x ∷ xs)

-- three letters, or the four octets in hexadecimal
unfoldable pub kind_text : ObjectKind → List ℕ
kind_text Kinds.Directory = 100 ∷ 105 ∷ 114 ∷ []
kind_text Kinds.File = 102 ∷ 105 ∷ 108 ∷ []
kind_text Kinds.Stream = 115 ∷ 116 ∷ 114 ∷ []
kind_text Kinds.ServiceGateway = 115 ∷ 114 ∷ 103 ∷ []
kind_text Kinds.StreamEvent = 115 ∷ 116 ∷ 101 ∷ []
kind_text (Kinds.Unknown v) = hexes (octets 4 v)

-- `none`
abbrev pub none : List ℕ
none = 110 ∷ 111 ∷ 110 ∷ 101 ∷ []

-- both numbers, or `none none`
unfoldable pub tap_text : Option TapNumbers → List ℕ
tap_text (Some n) = decimal n.transaction ++ spaced n.timeout
tap_text None = none ++ (32 ∷ none)

-- octets consumed and both views; five times 0 where refused
unfoldable pub name_text : Result (NameComponent × ℕ) Refusal → List ℕ
name_text (Ok (name, next)) = accepted_text next ++ spaced name.id.at ++ spaced name.id.len ++ spaced name.kind.at ++ spaced name.kind.len
name_text (Err why) = refusal_text why ++ (32 ∷ 48 ∷ 32 ∷ 48 ∷ 32 ∷ 48 ∷ 32 ∷ 48 ∷ 32 ∷ 48 ∷ [])

-- the index, or `none`
unfoldable pub first_text : Result (Option ℕ) Refusal → List ℕ
first_text (Ok (Some i)) = accepted_text i
first_text (Ok None) = 48 ∷ 32 ∷ 48 ∷ 32 ∷ 48 ∷ 32 ∷ 48 ∷ 32 ∷ none
first_text (Err why) = refusal_text why ++ (32 ∷ none)
