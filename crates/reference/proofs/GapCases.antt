-- The rules for type ids, case by case (document 02, No. 11): type ids of 0 to 5 octets with right, wrong and cut gaps, each number, place and figure; and
-- tables that are measured and written under each rule. Assumes nothing.
use Prim.Native.Nat.{ℕ}
use mathlib.Core.Path.{◌≡◌, refl}
use mathlib.Core.List.{List, [], ◌∷◌, ◌++◌, map}
use lib.ListN.{take, replicate}
use Rattle.octets.specs.Octets.{be, octets, splice}
use Rattle.reference.specs.declared.TypeIdRule.{TypeIdRule}
use Rattle.reference.specs.declared.TypeIdRule.TheVariants.{Multiple, Gap}
use Rattle.reference.specs.declared.AddressWay.TheVariants.{Constants}
use Rattle.reference.specs.declared.View.{View}
use Rattle.reference.specs.declared.TaggedProfile.TheVariants as Sort
use Rattle.reference.specs.declared.Tables.{Tables}
use Rattle.reference.specs.Refusals.{Check}
use Rattle.std.specs.Prelude.{Ok, Err}
use Rattle.reference.specs.Layout.{layout_profile, data_of, tag_of, layout_of}
use Rattle.reference.specs.Refusals.{refusal}
use Rattle.reference.specs.Tabled.{filled, tabled}
use Rattle.reference.specs.Steps.{done, need, number, checked, run, rest, choose, ending, within, fits, apart, many, after}
use Rattle.reference.specs.Reader.{read_count, read_run, read_named, component, read_fixed, read_extra, read_tap, read_location, read_object_location, read_binder, read_biop, read_address, read_name, read_context, read_service, read_lite, read_body, read_profile, read_gap, read_reference, read_leading, read_whole, answered}
use Rattle.reference.specs.Checks.{test, both, each}
use Rattle.reference.specs.Writer.{image_of, size_of, counts_check, views_check, measure_check, write_check, measured, leaves}
use Rattle.reference.proofs.Places.{Out, taken, not, out}

-- ---- how the cases are written

abbrev four : ℕ → List ℕ
four n = 0 ∷ 0 ∷ 0 ∷ n ∷ []

abbrev letters : List ℕ
letters = 0x61 ∷ 0x62 ∷ 0x63 ∷ 0x64 ∷ 0x65 ∷ []

-- a type id of n octets behind its length, and what stands there instead of a gap
abbrev typed : ℕ → List ℕ → List ℕ
typed n gap = four n ++ (take n letters ++ gap)

-- ---- reading

-- under rule 2, from a slice's start
abbrev pub gaps : List (List ℕ × Out)
gaps =
    -- no gap behind a multiple of 4; four octets FF are a profile count
    (typed 0 [] ++ four 0, taken 8)
    ∷ (typed 4 [] ++ four 0, taken 12)
    ∷ (typed 0 (0xFF ∷ 0xFF ∷ 0xFF ∷ 0xFF ∷ []) ++ four 0, not 1 3 16 12 8)
    ∷ (typed 4 (0xFF ∷ 0xFF ∷ 0xFF ∷ 0xFF ∷ []) ++ four 0, not 1 3 20 16 12)
    -- a right gap
    ∷ (typed 1 (0xFF ∷ 0xFF ∷ 0xFF ∷ []) ++ four 0, taken 12)
    ∷ (typed 2 (0xFF ∷ 0xFF ∷ []) ++ four 0, taken 12)
    ∷ (typed 3 (0xFF ∷ []) ++ four 0, taken 12)
    ∷ (typed 5 (0xFF ∷ 0xFF ∷ 0xFF ∷ []) ++ four 0, taken 16)
    -- another octet: the first, the last, the only one; it comes before the count's 1
    ∷ (typed 1 (0x00 ∷ 0xFF ∷ 0xFF ∷ []) ++ four 0, not 3 46 0 0 5)
    ∷ (typed 1 (0xFF ∷ 0xFF ∷ 0xFE ∷ []) ++ four 0, not 3 46 0 0 5)
    ∷ (typed 2 (0xFF ∷ 0x00 ∷ []) ++ four 0, not 3 46 0 0 6)
    ∷ (typed 3 (0x7F ∷ []) ++ four 0, not 3 46 0 0 7)
    ∷ (typed 5 (0xFF ∷ 0x00 ∷ 0xFF ∷ []), not 3 46 0 0 9)
    -- a gap that is left out
    ∷ (typed 1 [] ++ four 0, not 3 46 0 0 5)
    ∷ (typed 5 [] ++ four 0, not 3 46 0 0 9)
    -- a cut gap, with a wrong octet in it or without; behind fewer than four octets of type id the eight octets of place 1 are not there
    ∷ (typed 5 [], not 1 47 12 9 9)
    ∷ (typed 5 (0xFF ∷ []), not 1 47 12 10 9)
    ∷ (typed 5 (0x00 ∷ 0xFF ∷ []), not 1 47 12 11 9)
    ∷ (typed 1 (0xFF ∷ 0xFF ∷ []), not 1 1 8 7 0)
    ∷ (typed 2 (0x00 ∷ []), not 1 1 8 7 0)
    ∷ (typed 3 [], not 1 1 8 7 0)
    -- the type id's 2 before it, and the count's 1 behind it
    ∷ (four 5 ++ (0x61 ∷ 0x62 ∷ 0x63 ∷ 0x64 ∷ []), not 2 0 5 4 4)
    ∷ (typed 5 (0xFF ∷ 0xFF ∷ 0xFF ∷ []) ++ (0 ∷ []), not 1 2 16 13 12)
    ∷ (typed 2 (0xFF ∷ 0xFF ∷ []) ++ four 1, not 1 3 20 12 12)
    ∷ []

-- under rule 1 a length that is no multiple of 4 is refused, whatever follows; a multiple is read as under rule 2
abbrev pub multiples : List (List ℕ × Out)
multiples =
    (typed 0 [] ++ four 0, taken 8)
    ∷ (typed 4 [] ++ four 0, taken 12)
    ∷ (typed 1 (0xFF ∷ 0xFF ∷ 0xFF ∷ []) ++ four 0, not 4 33 0 0 0)
    ∷ (typed 2 (0xFF ∷ 0xFF ∷ []) ++ four 0, not 4 33 0 0 0)
    ∷ (typed 3 (0xFF ∷ []) ++ four 0, not 4 33 0 0 0)
    ∷ (typed 5 (0xFF ∷ 0xFF ∷ 0xFF ∷ []) ++ four 0, not 4 33 0 0 0)
    ∷ (typed 5 (0xFF ∷ []), not 4 33 0 0 0)
    ∷ []

-- the whole slice under rule 2: what is left over behind the gap and the profiles
abbrev pub slices : List (List ℕ × Out)
slices =
    (typed 3 (0xFF ∷ []) ++ four 0, taken 12)
    ∷ (typed 3 (0xFF ∷ []) ++ four 0 ++ (0xFF ∷ []), not 1 4 1 0 12)
    ∷ (typed 5 (0xFF ∷ 0xFF ∷ []), not 1 47 12 11 9)
    ∷ (typed 5 (0xFF ∷ 0xFF ∷ 0x00 ∷ []) ++ four 0, not 3 46 0 0 9)
    ∷ []

pub gaps_read : map (λ q. out (read_leading Gap q.0)) gaps ≡ map (λ q. q.1) gaps
unfolding be done need number checked run rest choose ending within fits apart many after read_count read_run read_named component read_fixed read_extra read_tap read_location read_object_location read_binder read_biop read_address read_name read_context read_service read_lite read_body read_profile read_gap read_reference read_leading
gaps_read = refl

pub multiples_read : map (λ q. out (read_leading Multiple q.0)) multiples ≡ map (λ q. q.1) multiples
unfolding be done need number checked run rest choose ending within fits apart many after read_count read_run read_named component read_fixed read_extra read_tap read_location read_object_location read_binder read_biop read_address read_name read_context read_service read_lite read_body read_profile read_gap read_reference read_leading
multiples_read = refl

pub slices_read : map (λ q. out (read_whole Gap q.0)) slices ≡ map (λ q. q.1) slices
unfolding be done need number checked run rest choose ending within fits apart many after read_count read_run read_named component read_fixed read_extra read_tap read_location read_object_location read_binder read_biop read_address read_name read_context read_service read_lite read_body read_profile read_gap read_reference read_whole
slices_read = refl

-- ---- tables: views stand behind the gap, and the gap is written back

abbrev v : ℕ → ℕ → View
v at len = record { at = at; len = len }

-- an opaque profile of one octet behind a type id of five
abbrev sample : List ℕ
sample = typed 5 (0xFF ∷ 0xFF ∷ 0xFF ∷ []) ++ four 1 ++ four 7 ++ four 1 ++ (0xAA ∷ [])

abbrev seen : Tables
seen = tabled (record { type_id = v 4 5; profiles = record { body = Sort.Opaque 7 (v 24 1) } ∷ []; taps = []; names = []; extras = [] })

pub sample_seen : answered Gap (read_leading Gap sample) ≡ record { answer = Ok 25; tables = seen }
unfolding filled be done need number checked run rest choose ending within fits apart many after read_count read_body read_profile read_gap read_reference read_leading layout_profile octets data_of
sample_seen = refl

pub sample_back : leaves Gap Constants seen sample (replicate 26 0xA5) ≡ sample ++ (0xA5 ∷ [])
unfolding octets splice filled tag_of data_of layout_profile layout_of image_of leaves test both each counts_check views_check size_of measure_check write_check
sample_back = refl

-- ---- measuring and writing: tables with a type id of so many octets, and nothing else

abbrev tables : ℕ → Tables
tables n = tabled (record { type_id = v 0 n; profiles = []; taps = []; names = []; extras = [] })

-- the rule, the type id's length and the source's, the output's; the check of measuring, and that of writing
abbrev pub writings : List ((TypeIdRule × ℕ × ℕ) × (Check × Check))
writings =
    -- lengths with and without the gap; 4 with place 33 under rule 1 only, and 5 before it
    ((Gap, 5, 16), ((Ok tt), (Ok tt)))
    ∷ ((Gap, 5, 15), ((Ok tt), Err (refusal 5 0 16 15)))
    ∷ ((Gap, 1, 12), ((Ok tt), (Ok tt)))
    ∷ ((Gap, 1, 11), ((Ok tt), Err (refusal 5 0 12 11)))
    ∷ ((Gap, 4, 12), ((Ok tt), (Ok tt)))
    ∷ ((Gap, 4, 11), ((Ok tt), Err (refusal 5 0 12 11)))
    ∷ ((Multiple, 4, 12), ((Ok tt), (Ok tt)))
    ∷ ((Multiple, 5, 13), ((Ok tt), Err (refusal 4 33 0 0)))
    ∷ ((Multiple, 5, 12), ((Ok tt), Err (refusal 5 0 13 12)))
    -- 65,525 octets of type id: without its gap of 3 the image would fit
    ∷ ((Gap, 65525, 70000), (Err (refusal 10 0 65536 65535), Err (refusal 10 0 65536 65535)))
    ∷ ((Multiple, 65525, 70000), ((Ok tt), Err (refusal 4 33 0 0)))
    ∷ ((Gap, 65524, 70000), ((Ok tt), (Ok tt)))
    ∷ ((Gap, 65523, 70000), ((Ok tt), (Ok tt)))
    ∷ []

pub writings_checked : map (λ q. (measure_check q.0.0 (tables q.0.1) q.0.1, write_check q.0.0 (tables q.0.1) q.0.1 q.0.2)) writings ≡ map (λ q. q.1) writings
unfolding filled test both each counts_check views_check size_of measure_check write_check
writings_checked = refl

-- the lengths that measuring tells over a source of five octets
pub measured_lengths : map (λ (n : ℕ). measured Gap (tables n) letters) (0 ∷ 1 ∷ 2 ∷ 3 ∷ 4 ∷ 5 ∷ []) ≡ Ok 8 ∷ Ok 12 ∷ Ok 12 ∷ Ok 12 ∷ Ok 12 ∷ Ok 16 ∷ []
unfolding filled test both each counts_check views_check size_of measure_check measured
measured_lengths = refl
