-- References cut at every octet, and with octets put behind them, case by case (document 02, No. 13): the number that each shorter leading piece is refused
-- with, under each rule that takes the whole. Crate `worked` cuts references so through the code. Assumes nothing.
use Prim.Native.Nat.{ℕ, zero, suc}
use mathlib.Core.Path.{◌≡◌, refl}
use mathlib.Core.List.{List, [], ◌∷◌, ◌++◌, map}
use lib.ListN.{length, take, replicate}
use Rattle.octets.specs.Octets.{be}
use Rattle.reference.specs.declared.TypeIdRule.{TypeIdRule}
use Rattle.reference.specs.declared.TypeIdRule.TheVariants.{Multiple, Gap}
use Rattle.reference.specs.Meaning.{Reference}
use Rattle.reference.specs.Steps.{Answer, ok, refused, done, need, number, checked, run, rest, choose, ending, within, fits, apart, many, after}
use Rattle.reference.specs.Reader.{read_count, read_run, read_named, component, read_fixed, read_extra, read_tap, read_location, read_object_location, read_binder, read_biop, read_address, read_name, read_context, read_service, read_lite, read_body, read_profile, read_gap, read_reference, read_leading, read_whole}
use Rattle.reference.specs.Worked.{j}

-- ---- how the cases are written

-- the number of a refusal, or 0
abbrev number_of : Answer Reference → ℕ
number_of (ok m n) = 0
number_of (refused x) = x.number

-- the numbers of the pieces of d with fewer than n octets, the shortest first
abbrev pieces : (List ℕ → Answer Reference) → List ℕ → ℕ → List ℕ
pieces read d zero = []
pieces read d (suc n) = pieces read d n ++ (number_of (read (take n d)) ∷ [])

abbrev four : ℕ → List ℕ
four n = 0 ∷ 0 ∷ 0 ∷ n ∷ []

-- a type id of five octets with its gap, and an opaque profile of one octet
abbrev gapped : List ℕ
gapped = four 5 ++ (0x61 ∷ 0x62 ∷ 0x63 ∷ 0x64 ∷ 0x65 ∷ 0xFF ∷ 0xFF ∷ 0xFF ∷ []) ++ four 1 ++ four 7 ++ four 1 ++ (0xAA ∷ [])

-- a LiteOptions profile of 39 octets: no names, no context, no extras
abbrev lite : List ℕ
lite =
    four 0 ++ four 1 ++ (0x49 ∷ 0x53 ∷ 0x4F ∷ 0x05 ∷ []) ++ four 0x27 ++ (0x00 ∷ 0x01 ∷ 0x49 ∷ 0x53 ∷ 0x4F ∷ 0x46 ∷ []) ++ four 0x1D
    ++ (0x14 ∷ 0x00 ∷ 0x00 ∷ 0x00 ∷ 0x00 ∷ 0x00 ∷ 0x01 ∷ 0x01 ∷ 0x00 ∷ 0x01 ∷ 0x5A ∷ 0x00 ∷ 0x01 ∷ 0x00 ∷ 0x02 ∷ 0x00 ∷ 0x03 ∷ 0xFF ∷ 0xFF ∷ 0xFF ∷ 0xFF ∷ [])
    ++ four 0 ++ four 0

-- A rule, a reference that it takes, and the numbers of its pieces: 1 where a field is cut off, 2 where a type id or a profile's data is.
abbrev pub heads : List ((TypeIdRule × List ℕ) × List ℕ)
heads =
    -- P2: the eight octets of place 1
    ((Multiple, four 0 ++ four 0), replicate 8 1)
    ∷ ((Gap, four 0 ++ four 0), replicate 8 1)
    -- a type id and no profile: behind the eight octets the count is cut off
    ∷ ((Multiple, four 4 ++ four 0 ++ four 0), replicate 12 1)
    ∷ ((Gap, four 4 ++ four 0 ++ four 0), replicate 12 1)
    -- the type id's fifth octet; its gap, the count and the profile's header; the octet of data
    ∷ ((Gap, gapped), replicate 8 1 ++ (2 ∷ []) ++ replicate 15 1 ++ (2 ∷ []))
    ∷ []

-- P7, which is J, and a LiteOptions profile: head and profile's header by 1, the 22 and 39 octets of data by 2
abbrev pub bodies : List ((TypeIdRule × List ℕ) × List ℕ)
bodies =
    ((Multiple, j), replicate 20 1 ++ replicate 22 2)
    ∷ ((Gap, j), replicate 20 1 ++ replicate 22 2)
    ∷ ((Multiple, lite), replicate 16 1 ++ replicate 39 2)
    ∷ ((Gap, lite), replicate 16 1 ++ replicate 39 2)
    ∷ []

-- by the leading reading, and by that of a whole slice
abbrev both : (TypeIdRule × List ℕ) × List ℕ → List ℕ × List ℕ
both q = let (rule, d) = q.0 in (pieces (read_leading rule) d (length d), pieces (read_whole rule) d (length d))

pub heads_cut : map both heads ≡ map (λ q. (q.1, q.1)) heads
unfolding be done need number checked run rest choose ending fits apart many after read_count read_body read_profile read_gap read_reference read_leading read_whole
heads_cut = refl

pub bodies_cut : map both bodies ≡ map (λ q. (q.1, q.1)) bodies
unfolding be done need number checked run rest choose ending within fits apart many after read_count read_run read_named component read_fixed read_extra read_tap read_location read_object_location read_binder read_biop read_address read_name read_context read_service read_lite read_body read_profile read_gap read_reference read_leading read_whole
bodies_cut = refl

-- Eight octets put behind each, which could be a profile's header, change neither meaning nor length.
pub behind_unseen : map (λ q. let (rule, d) = q.0 in read_leading rule (d ++ four 7 ++ four 0)) (heads ++ bodies) ≡ map (λ q. read_leading q.0.0 q.0.1) (heads ++ bodies)
unfolding be done need number checked run rest choose ending within fits apart many after read_count read_run read_named component read_fixed read_extra read_tap read_location read_object_location read_binder read_biop read_address read_name read_context read_service read_lite read_body read_profile read_gap read_reference read_leading
behind_unseen = refl
