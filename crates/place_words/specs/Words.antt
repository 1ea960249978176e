-- Document 01's places in words. Assumes nothing.
use Rattle.std.specs.Prelude.{ℕ, List, [], ◌∷◌, map, get_or}
use Prim.Native.String.{String}
use Rattle.text.specs.Text.{ascii}

-- by place, from 0 on; 0 is the data that a length announced
abbrev pub place_words : List String
place_words =
    "data"
    -- 1 to 4: what is cut off or left over, of the reference
    ∷ "reference fixed fields" ∷ "profile count" ∷ "profile header" ∷ "reference leftover"
    -- 5 to 14: of BIOP data
    ∷ "BIOP fixed fields" ∷ "ObjectLocation header" ∷ "ObjectLocation fixed fields" ∷ "ObjectLocation leftover" ∷ "ConnBinder header"
    ∷ "tap count" ∷ "tap fixed fields" ∷ "ConnBinder leftover" ∷ "BIOP extra header" ∷ "BIOP leftover"
    -- 15 to 25: of LiteOptions data
    ∷ "LiteOptions fixed fields" ∷ "ServiceLocation header" ∷ "address length" ∷ "address" ∷ "name count"
    ∷ "id length" ∷ "kind length" ∷ "context length" ∷ "ServiceLocation leftover" ∷ "LiteOptions extra header" ∷ "LiteOptions leftover"
    -- 26 and 27: of an 8-bit name
    ∷ "8-bit id length" ∷ "8-bit kind length"
    -- 28 to 32: a value that is wrong
    ∷ "BIOP order octet" ∷ "ObjectLocation tag" ∷ "ConnBinder tag" ∷ "LiteOptions order octet" ∷ "ServiceLocation tag"
    -- 33 to 36: a value out of range
    ∷ "type id length" ∷ "BIOP component count" ∷ "LiteOptions component count" ∷ "address length"
    -- 37 to 39 are no places
    ∷ "" ∷ "" ∷ ""
    -- 40 to 43: a table
    ∷ "table of profiles" ∷ "table of taps" ∷ "table of names" ∷ "table of extras"
    ∷ []

-- as text; nothing for a number that is no place
abbrev pub place_text : ℕ → List ℕ
place_text place = get_or (map ascii place_words) place []
