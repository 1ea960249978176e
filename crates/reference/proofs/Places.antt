-- One case at least for each number and each place of a refused reading, and for each order of two checks that could change places: a case
-- has later faults as well. Two figures count from the start of a profile's data inside it, the third from the slice's. Assumes nothing.
use Prim.Native.Nat.{ℕ}
use mathlib.Core.Path.{◌≡◌, refl}
use mathlib.Core.List.{List, [], ◌∷◌, ◌++◌, map}
use lib.ListN.{length, replicate}
use Rattle.octets.specs.Octets.{be, joined}
use Rattle.reference.specs.declared.TypeIdRule.TheVariants.{Multiple}
use Rattle.reference.specs.Meaning.{Reference}
use Rattle.reference.specs.Steps.{Answer, ok, refused, done, need, number, checked, run, rest, choose, ending, within, fits, apart, many, after}
use Rattle.reference.specs.Reader.{read_count, read_run, read_named, component, read_fixed, read_extra, read_tap, read_location, read_object_location, read_binder, read_biop, read_address, read_name, read_context, read_service, read_lite, read_body, read_profile, read_gap, read_reference, read_leading, read_whole}

-- accepted with so many octets, or the refusal
pub data Out : Type 0 where
  taken : ℕ → Out
  not : ℕ → ℕ → ℕ → ℕ → ℕ → Out

abbrev pub out : Answer Reference → Out
out (ok m n) = taken n
out (refused x) = not x.number x.place x.first x.second x.offset

-- ---- how the cases are written

abbrev four : ℕ → List ℕ
four n = 0 ∷ 0 ∷ 0 ∷ n ∷ []

abbrev tag : ℕ → List ℕ
tag t = 0x49 ∷ 0x53 ∷ 0x4F ∷ t ∷ []

-- an empty type id and the profiles
abbrev pub whole : List (List ℕ) → List ℕ
whole ps = four 0 ++ four (length ps) ++ joined ps

abbrev pub profile : ℕ → List ℕ → List ℕ
profile t l = tag t ++ four (length l) ++ l

abbrev pub marked : ℕ → List ℕ → List ℕ
marked t l = tag t ++ (length l ∷ l)

abbrev place : List ℕ
place = 0 ∷ 0 ∷ 0 ∷ 1 ∷ 0 ∷ 2 ∷ 1 ∷ 0 ∷ []

-- ObjectLocation with an empty key, ConnBinder with no tap
abbrev location : List ℕ
location = marked 0x50 (place ++ (0 ∷ []))

abbrev biop : List ℕ → List ℕ
biop l = whole (profile 6 l ∷ [])

abbrev lite : List ℕ → List ℕ
lite l = whole (profile 5 l ∷ [])

-- a BIOP body up to its ConnBinder: 16 octets
abbrev located : ℕ → List ℕ
located count = 0 ∷ count ∷ location

-- a LiteOptions body whose ServiceLocation is so
abbrev served : ℕ → List ℕ → List ℕ
served count l = 0 ∷ count ∷ (tag 0x46 ++ four (length l) ++ l)

abbrev address : List ℕ
address = 20 ∷ 0 ∷ 0 ∷ 0 ∷ 0 ∷ 0 ∷ 1 ∷ 1 ∷ 0 ∷ 1 ∷ 0x5A ∷ 0 ∷ 1 ∷ 0 ∷ 2 ∷ 0 ∷ 3 ∷ 255 ∷ 255 ∷ 255 ∷ 255 ∷ []

abbrev tap : List ℕ
tap = 0 ∷ 1 ∷ 0 ∷ 0x16 ∷ 0 ∷ 2 ∷ 0 ∷ []

abbrev extra : List ℕ
extra = marked 0x99 []

abbrev taps : ℕ → List ℕ
taps n = located 2 ++ marked 0x40 (n ∷ joined (replicate n tap))

-- ---- the reference itself

abbrev references : List (List ℕ × Out)
references =
    ([], not 1 1 8 0 0)
    ∷ (replicate 7 255, not 1 1 8 7 0)
    ∷ (four 3 ++ four 0, not 4 33 0 0 0)
    ∷ (four 6 ++ [], not 1 1 8 4 0)
    ∷ (four 7 ++ four 0, not 4 33 0 0 0)
    ∷ (four 8 ++ four 0, not 2 0 8 4 4)
    ∷ (four 4 ++ four 0, not 1 2 12 8 8)
    ∷ (four 4 ++ four 0 ++ (0 ∷ 0 ∷ 0 ∷ []), not 1 2 12 11 8)
    ∷ (four 0 ++ four 1, not 1 3 16 8 8)
    ∷ (four 0 ++ four 1 ++ replicate 7 0, not 1 3 16 15 8)
    ∷ (four 0 ++ four 2 ++ (four 9 ++ four 0), not 1 3 24 16 16)
    ∷ (four 0 ++ four 1 ++ (four 9 ++ four 3 ++ (1 ∷ 2 ∷ [])), not 2 0 3 2 16)
    ∷ (four 0 ++ four 1 ++ (tag 6 ++ four 3 ++ (1 ∷ 2 ∷ [])), not 2 0 3 2 16)
    ∷ (four 0 ++ four 1 ++ (tag 5 ++ four 3 ++ (1 ∷ 2 ∷ [])), not 2 0 3 2 16)
    ∷ (four 0 ++ four 0 ++ (1 ∷ []), taken 8)
    ∷ []

-- ---- a BIOP body

abbrev biops : List (List ℕ × Out)
biops =
    (biop [], not 1 5 2 0 16)
    ∷ (biop (1 ∷ []), not 1 5 2 1 16)
    ∷ (biop (1 ∷ 1 ∷ []), not 3 28 0 0 16)
    ∷ (biop (0 ∷ 1 ∷ []), not 4 34 0 0 17)
    ∷ (biop (0 ∷ 2 ∷ []), not 1 6 7 2 18)
    ∷ (biop (0 ∷ 2 ∷ (tag 0x51 ++ [])), not 1 6 7 6 18)
    ∷ (biop (0 ∷ 2 ∷ (tag 0x51 ++ (9 ∷ []))), not 3 29 0 0 18)
    ∷ (biop (0 ∷ 2 ∷ (tag 0x50 ++ (9 ∷ place))), not 2 0 9 8 23)
    ∷ (biop (0 ∷ 2 ∷ (tag 0x50 ++ (8 ∷ place) ++ (9 ∷ []))), not 1 7 16 15 23)
    ∷ (biop (0 ∷ 2 ∷ marked 0x50 (place ++ (1 ∷ []))), not 2 0 1 0 32)
    ∷ (biop (0 ∷ 2 ∷ marked 0x50 (place ++ (0 ∷ 7 ∷ []))), not 1 8 1 0 32)
    ∷ (biop (located 2 ++ tag 0x41), not 1 9 21 20 32)
    ∷ (biop (located 2 ++ marked 0x41 []), not 3 30 0 0 32)
    ∷ (biop (located 2 ++ (tag 0x40 ++ (1 ∷ []))), not 2 0 1 0 37)
    ∷ (biop (located 2 ++ marked 0x40 []), not 1 10 22 21 37)
    ∷ (biop (located 2 ++ marked 0x40 (1 ∷ 0 ∷ 1 ∷ 0 ∷ 0x16 ∷ 0 ∷ 2 ∷ [])), not 1 11 29 28 38)
    ∷ (biop (located 2 ++ marked 0x40 (1 ∷ 0 ∷ 1 ∷ 0 ∷ 0x16 ∷ 0 ∷ 2 ∷ 1 ∷ []) ++ (9 ∷ [])), not 2 0 1 0 45)
    ∷ (biop (located 2 ++ marked 0x40 (0 ∷ 7 ∷ 7 ∷ []) ++ (9 ∷ [])), not 1 12 2 0 38)
    ∷ (biop (located 3 ++ marked 0x40 (0 ∷ [])), not 1 13 27 22 38)
    ∷ (biop (located 3 ++ marked 0x40 (0 ∷ []) ++ (tag 0x99 ++ (2 ∷ 7 ∷ []))), not 2 0 2 1 43)
    ∷ (biop (located 2 ++ marked 0x40 (0 ∷ []) ++ (7 ∷ 7 ∷ 7 ∷ [])), not 1 14 3 0 38)
    ∷ (biop (located 3 ++ marked 0x40 (0 ∷ []) ++ extra ++ (7 ∷ [])), not 1 14 1 0 43)
    ∷ (biop (located 3 ++ marked 0x40 (1 ∷ tap) ++ extra), taken 50)
    ∷ []

-- ---- a body that is not the first, behind a type id: the third figure counts from the slice's start

abbrev second : List ℕ → List ℕ
second l = four 4 ++ (0x73 ∷ 0x72 ∷ 0x67 ∷ 0 ∷ []) ++ four 2 ++ (four 9 ++ four 3 ++ (1 ∷ 2 ∷ 3 ∷ [])) ++ l

abbrev seconds : List (List ℕ × Out)
seconds =
    (second (tag 6 ++ four 9), not 2 0 9 0 31)
    ∷ (second (profile 6 (0 ∷ 1 ∷ [])), not 4 34 0 0 32)
    ∷ (second (profile 6 (located 2 ++ marked 0x41 [])), not 3 30 0 0 47)
    ∷ (second (profile 6 (located 2 ++ marked 0x40 (0 ∷ []) ++ (7 ∷ []))), not 1 14 1 0 53)
    ∷ (second (profile 5 (served 1 (19 ∷ []))), not 4 36 0 0 41)
    ∷ []

-- ---- a LiteOptions body

abbrev lites : List (List ℕ × Out)
lites =
    (lite [], not 1 15 2 0 16)
    ∷ (lite (1 ∷ 0 ∷ []), not 3 31 0 0 16)
    ∷ (lite (0 ∷ 0 ∷ []), not 4 35 0 0 17)
    ∷ (lite (0 ∷ 1 ∷ (tag 0x47 ++ (0 ∷ 0 ∷ 0 ∷ []))), not 1 16 10 9 18)
    ∷ (lite (0 ∷ 1 ∷ (tag 0x47 ++ four 5)), not 3 32 0 0 18)
    ∷ (lite (0 ∷ 1 ∷ (tag 0x46 ++ four 5 ++ (20 ∷ []))), not 2 0 5 1 26)
    ∷ (lite (served 1 []), not 1 17 11 10 26)
    ∷ (lite (served 1 (19 ∷ [])), not 4 36 0 0 26)
    ∷ (lite (served 1 (20 ∷ replicate 19 0)), not 1 18 31 30 27)
    ∷ (lite (served 1 (address ++ (0 ∷ 0 ∷ 0 ∷ []))), not 1 19 35 34 47)
    ∷ (lite (served 1 (address ++ four 1 ++ (0 ∷ 0 ∷ []))), not 1 20 39 37 51)
    ∷ (lite (served 1 (address ++ four 1 ++ four 3 ++ (7 ∷ 7 ∷ []))), not 2 0 3 2 55)
    ∷ (lite (served 1 (address ++ four 1 ++ four 2 ++ (7 ∷ 7 ∷ 0 ∷ []))), not 1 21 45 42 57)
    ∷ (lite (served 1 (address ++ four 1 ++ four 0 ++ four 1)), not 2 0 1 0 59)
    ∷ (lite (served 1 (address ++ four 0 ++ (0 ∷ 0 ∷ []))), not 1 22 39 37 51)
    ∷ (lite (served 1 (address ++ four 0 ++ four 2 ++ (7 ∷ [])) ++ (9 ∷ [])), not 2 0 2 1 55)
    ∷ (lite (served 1 (address ++ four 0 ++ four 0 ++ (7 ∷ 7 ∷ [])) ++ (9 ∷ [])), not 1 23 2 0 55)
    ∷ (lite (served 2 (address ++ four 0 ++ four 0)), not 1 24 44 39 55)
    ∷ (lite (served 2 (address ++ four 0 ++ four 0) ++ (tag 0x99 ++ (1 ∷ []))), not 2 0 1 0 60)
    ∷ (lite (served 1 (address ++ four 0 ++ four 0) ++ (7 ∷ [])), not 1 25 1 0 55)
    ∷ (lite (served 1 (address ++ four 0 ++ four 0)), taken 55)
    ∷ (lite (served 1 (address ++ replicate 4 255 ++ four 0)), not 1 21 43 39 55)
    ∷ []

-- ---- tables too small, after all else: the first of profiles, taps, names, extras

abbrev nameless : List ℕ
nameless = four 0 ++ four 0

abbrev tables : List (List ℕ × Out)
tables =
    (whole (replicate 9 (four 1 ++ four 0)), not 7 40 9 8 0)
    ∷ (four 0 ++ four 10 ++ joined (replicate 9 (four 1 ++ four 0)), not 1 3 88 80 80)
    ∷ (whole (profile 6 (taps 30) ∷ profile 6 (taps 7) ∷ replicate 7 (four 1 ++ four 0)), not 7 40 9 8 0)
    ∷ (whole (profile 6 (taps 30) ∷ profile 6 (taps 7) ∷ []), not 7 41 37 36 0)
    ∷ (whole (profile 5 (served 1 (address ++ four 33 ++ joined (replicate 33 nameless) ++ four 0)) ∷ profile 6 (taps 30) ∷ profile 6 (taps 7) ∷ []), not 7 41 37 36 0)
    ∷ (whole (profile 5 (served 34 (address ++ four 33 ++ joined (replicate 33 nameless) ++ four 0) ++ joined (replicate 33 extra)) ∷ []), not 7 42 33 32 0)
    ∷ (whole (profile 6 (located 35 ++ marked 0x40 (0 ∷ []) ++ joined (replicate 33 extra)) ∷ []), not 7 43 33 32 0)
    ∷ (whole (profile 6 (located 34 ++ marked 0x40 (0 ∷ []) ++ joined (replicate 32 extra)) ∷ []), taken 198)
    ∷ (replicate 65536 0, not 6 0 65536 65535 0)
    ∷ []

-- ---- the whole slice: leftover octets last, before 7

abbrev slices : List (List ℕ × Out)
slices =
    (whole [] ++ (7 ∷ 7 ∷ []), not 1 4 2 0 8)
    ∷ (whole (replicate 9 (four 1 ++ four 0)) ++ (7 ∷ []), not 1 4 1 0 80)
    ∷ (whole (replicate 9 (four 1 ++ four 0)), not 7 40 9 8 0)
    ∷ (biop (0 ∷ 1 ∷ []) ++ (7 ∷ []), not 4 34 0 0 17)
    ∷ (whole [], taken 8)
    ∷ (replicate 65536 0, not 6 0 65536 65535 0)
    ∷ []

pub leading_places : map (λ q. out (read_leading Multiple q.0)) (references ++ biops ++ seconds ++ lites ++ tables) ≡ map (λ q. q.1) (references ++ biops ++ seconds ++ lites ++ tables)
unfolding be done need number checked run rest choose ending within fits apart many after read_count read_run read_named component read_fixed read_extra read_tap read_location read_object_location read_binder read_biop read_address read_name read_context read_service read_lite read_body read_profile read_gap read_reference read_leading
leading_places = refl

pub whole_places : map (λ q. out (read_whole Multiple q.0)) slices ≡ map (λ q. q.1) slices
unfolding be done need number checked run rest choose ending within fits apart many after read_count read_run read_named component read_fixed read_extra read_tap read_location read_object_location read_binder read_biop read_address read_name read_context read_service read_lite read_body read_profile read_gap read_reference read_whole
whole_places = refl
