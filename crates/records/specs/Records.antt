-- Marked records (document 01, "Cache listing"): the mark 4F 52, a length of 2, then so many octets. What stands at a place of a cache.
-- Assumes nothing.
use Rattle.std.specs.Prelude.{ℕ, ◌+◌, ◌<◌, ◌≡◌, List, ◌∷◌, ◌++◌, ltb, leb, eqb, length}
use Rattle.octets.specs.Octets.{part, be, octets}
use Rattle.reference.specs.Steps.{pick}
use Rattle.records.specs.declared.Record.{Record}
use Rattle.records.specs.declared.Record.TheVariants.{Got, Broken, End}

-- the mark's two octets as a number
abbrev pub mark : ℕ
mark = 0x4F52

-- what a record can hold, and a record in octets
abbrev pub Fits : List ℕ → Type 0
Fits x = length x < 65536

unfoldable pub layout_record : List ℕ → List ℕ
layout_record x = 0x4F ∷ 0x52 ∷ octets 2 (length x) ++ x

-- the record at `at` of a cache: where its reference begins and ends. A wrong mark or a cut record is broken; at the end there is nothing.
unfoldable pub record_at : List ℕ → ℕ → Record
record_at l at =
    pick (leb (length l) at) End
    (pick (ltb (length l) (at + 4)) Broken
    (pick (eqb (be (part l at 2)) mark)
    (pick (ltb (length l) (at + 4 + be (part l (at + 2) 2))) Broken (Got (at + 4) (at + 4 + be (part l (at + 2) 2))))
    Broken))

-- a record stands in l: its mark at `at`, its reference from a on, before b
pub record Laid (l : List ℕ) (at a b : ℕ) : Type 0 where
  pub content : List ℕ
  pub fits : Fits content
  pub there : part l at (4 + length content) ≡ layout_record content
  pub start : a ≡ at + 4
  pub stop : b ≡ a + length content

-- how many octets a record's first four announce behind them; none where they are fewer or have a wrong mark
unfoldable pub announced : List ℕ → ℕ
announced l = pick (ltb (length l) 4) 0 (pick (eqb (be (part l 0 2)) mark) (be (part l 2 2)) 0)
