-- Document 01's listing, worked: what the definition lists of its cache is the text that 01 prints; and the listing's edges. Assumes nothing.
use mathlib.Core.Path.{◌≡◌, refl}
use mathlib.Core.Bool.{true, false}
use mathlib.Core.List.{List, [], ◌∷◌, ◌++◌}
use Prim.Native.Nat.{ℕ}
use lib.ListN.{take, drop}
use Rattle.octets.specs.Octets.{be, octets}
use Rattle.text.specs.Text.{ascii, digits_in, decimal, hex, hexes}
use Rattle.reference.specs.Steps.{done, need, number, checked, run, rest, choose, ending, within, fits, apart, many, after}
use Rattle.reference.specs.Reader.{read_count, read_run, read_named, component, read_fixed, read_extra, read_tap, read_location, read_object_location, read_binder, read_biop, read_address, read_name, read_context, read_service, read_lite, read_body, read_profile, read_gap, read_reference, read_whole}
use Rattle.reference.specs.Questions.{kind_numbered, kind_of}
use Rattle.reference.specs.Worked.{j}
use Rattle.records.specs.Records.{layout_record, record_at}
use Rattle.records.specs.Walk.{walk_from, walk_on}
use Rattle.lines.specs.Lines.{kind_text}
use Rattle.rows.specs.Rows.{found_text, where_text, refused_text, answer_text, row_of, heading, end_text, broken_text, lines_for, listed}

-- 00000003 00000000
abbrev odd : List ℕ
odd = 0 ∷ 0 ∷ 0 ∷ 3 ∷ 0 ∷ 0 ∷ 0 ∷ 0 ∷ []

pub example : listed false (layout_record j ++ layout_record odd) ≡ ascii "record bytes kind profiles refusal\n1 42 srg 1 0\n2 8 - - 4\nend 2\n"
unfolding be octets digits_in decimal hex hexes done need number checked run rest choose ending within fits apart many after read_count read_run read_named component read_fixed read_extra read_tap read_location read_object_location read_binder read_biop read_address read_name read_context read_service read_lite read_body read_profile read_gap read_reference read_whole kind_numbered kind_of kind_text layout_record record_at found_text refused_text answer_text row_of end_text broken_text walk_from walk_on lines_for listed
example = refl

-- nothing: `end 0`; a remainder under four octets: `broken at 0`
pub nothing : listed false [] ≡ heading false ++ ascii "end 0\n"
unfolding digits_in decimal record_at end_text walk_from walk_on lines_for listed
nothing = refl

pub remainder : listed false (0x4F ∷ 0x52 ∷ 0 ∷ []) ≡ heading false ++ ascii "broken at 0\n"
unfolding digits_in decimal record_at broken_text walk_from walk_on lines_for listed
remainder = refl

-- The same cache with a third record, J with a ConnBinder tag of 41 for 40: its reference starts at 62 in the file, and the tag stands 36 octets behind that.
abbrev lies : List ℕ
lies = take 39 j ++ (0x41 ∷ drop 40 j)

pub where_it_broke : listed true (layout_record j ++ layout_record odd ++ layout_record lies)
    ≡ ascii "record bytes kind profiles refusal where\n1 42 srg 1 0\n2 8 - - 4 type id length at 50\n3 42 - - 3 ConnBinder tag at 98\nend 3\n"
unfolding be octets digits_in decimal hex hexes done need number checked run rest choose ending within fits apart many after read_count read_run read_named component read_fixed read_extra read_tap read_location read_object_location read_binder read_biop read_address read_name read_context read_service read_lite read_body read_profile read_gap read_reference read_whole kind_numbered kind_of kind_text layout_record record_at found_text where_text refused_text answer_text row_of end_text broken_text walk_from walk_on lines_for listed
where_it_broke = refl
