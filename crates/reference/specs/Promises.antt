-- The statements of the promises: what holds of an accepted reading's tables, of writing them back, of reading what was written, of measuring
-- against writing (document 01, "Tables" and the three demands). The theorems stand in proofs/. Assumes nothing.
use Rattle.std.specs.Prelude.{ℕ, ◌-◌, ◌%◌, ◌<◌, ◌≤◌, ◌≡◌, List, [], ◌∷◌, length, take, drop, get_or, replicate, Ok, Err}
use Rattle.octets.specs.Octets.{Each, Octets, part, be}
use Rattle.reference.specs.declared.TypeIdRule.{TypeIdRule}
use Rattle.reference.specs.declared.TypeIdRule.TheVariants.{Multiple, Gap}
use Rattle.reference.specs.declared.AddressWay.{AddressWay}
use Rattle.reference.specs.declared.Refusal.{Refusal}
use Rattle.reference.specs.declared.Tables.{Tables}
use Rattle.reference.specs.declared.Reading.{Reading}
use Rattle.reference.specs.Refusals.{Told}
use Rattle.reference.specs.Meaning.{Reference}
use Rattle.reference.specs.Reader.{read_leading, read_whole, answered}
use Rattle.reference.specs.Used.{taps_in, names_in, extras_in}
use Rattle.reference.specs.Contents.{contents, said}
use Rattle.reference.specs.Placed.{tables_of}
use Rattle.reference.specs.Standard.{canon, standard_of, Free, Kept}
use Rattle.reference.specs.Tabled.{no_profile, no_tap, no_name, no_extra, used_of}
use Rattle.reference.specs.Typed.{Typed}
use Rattle.reference.specs.Checks.{Among}
use Rattle.reference.specs.Writer.{counted, image_of, measured, written, leaves}

-- the reading that accepts n octets with the tables t
abbrev pub taking : ℕ → Tables → Reading
taking n t = record { answer = Ok n; tables = t }

-- Each used count is the number of used entries, and the sum of the profiles' counts.
pub record Agrees (t : Tables) : Type 0 where
  pub profiles : length (used_of t).profiles ≡ t.profiles_used
  pub taps : length (used_of t).taps ≡ t.taps_used
  pub names : length (used_of t).names ≡ t.names_used
  pub extras : length (used_of t).extras ≡ t.extras_used
  pub taps_sum : counted taps_in (used_of t).profiles ≡ t.taps_used
  pub names_sum : counted names_in (used_of t).profiles ≡ t.names_used
  pub extras_sum : counted extras_in (used_of t).profiles ≡ t.extras_used

-- The tables t of an accepted reading of d under the rule that says m: the entries are m's, each view at the offset where its field stands; over d they
-- say m as each way writes it, with an address's constants; each used count is the number of entries and the sum of the profiles' counts; the arrays have
-- their sizes and the numbers their widths; what is unused is zero throughout.
pub record ShowsFields (rule : TypeIdRule) (d : List ℕ) (m : Reference) (t : Tables) : Type 0 where
  pub stands : used_of t ≡ tables_of rule m
  pub shows : (way : AddressWay) → contents way d (used_of t) ≡ canon way m
  pub agrees : Agrees t
  pub typed : Typed t
  pub no_profiles : drop t.profiles_used t.profiles ≡ replicate (8 - t.profiles_used) no_profile
  pub no_taps : drop t.taps_used t.taps ≡ replicate (36 - t.taps_used) no_tap
  pub no_names : drop t.names_used t.names ≡ replicate (32 - t.names_used) no_name
  pub no_extras : drop t.extras_used t.extras ≡ replicate (32 - t.extras_used) no_extra

-- What a reading of a piece that is cut short answers (document 02, No. 13): it is refused, and only with 1 or 2.
pub record CutShort (r : Told) : Type 0 where
  pub refusal : Refusal
  pub refused : r ≡ Err refusal
  pub number : Among refusal.number (1 ∷ 2 ∷ [])

-- Writing the tables of an accepted reading of d that says m, over d itself, into an output that held out and has room, left e: at every index before the
-- part's length n that is not one of an address's constants the octet is the one that was read; where the constants are standard the part is back
-- whole; behind the part the output is as before.
pub record GivesBack (rule : TypeIdRule) (way : AddressWay) (d : List ℕ) (m : Reference) (n : ℕ) (out e : List ℕ) : Type 0 where
  pub keeps : (i : ℕ) → i < n → Free i (standard_of rule way m) → get_or e i 0 ≡ get_or d i 0
  pub constants : Each (λ q. get_or e q.0 0 ≡ q.1) (standard_of rule way m)
  pub whole : Kept way m → take n e ≡ take n d
  pub behind : drop n e ≡ drop n out
  pub long : length e ≡ length out

-- Reading x answers n, and its tables say over x what t says over s: as document 01 lists contents, and profile by profile.
pub record ReadsBack (way : AddressWay) (t : Tables) (s : List ℕ) (n : ℕ) (x : List ℕ) (r : Reading) : Type 0 where
  pub answers : r.answer ≡ Ok n
  pub says : said x r.tables ≡ said s t
  pub means : contents way x (used_of r.tables) ≡ contents way s (used_of t)

-- An accepted writing, which answers n, puts the image at the front of an output that held d, and leaves the octets behind it: then it holds e.
pub record PutInFront (image d : List ℕ) (n : ℕ) (e : List ℕ) : Type 0 where
  pub size : length image ≡ n
  pub room : n ≤ length d
  pub front : take n e ≡ image
  pub behind : drop n e ≡ drop n d
  pub long : length e ≡ length d

-- Measuring answers q, and writing r: one length, that of the image l; and refusals with one of these numbers alike.
pub record LengthIsWritten (numbers l : List ℕ) (q r : Told) : Type 0 where
  pub image : (n : ℕ) → q ≡ Ok n → (length l ≡ n) × (n ≤ 65535)
  pub length : (n : ℕ) → r ≡ Ok n → q ≡ Ok n
  pub refused : (x : Refusal) → q ≡ Err x → (r ≡ Err x) × (Among x.number numbers)
  pub early : (x : Refusal) → r ≡ Err x → Among x.number numbers → q ≡ Err x

-- Two tables have the same used counts and the same used entries.
pub record SameUsed (t t' : Tables) : Type 0 where
  pub profiles : t.profiles_used ≡ t'.profiles_used
  pub taps : t.taps_used ≡ t'.taps_used
  pub names : t.names_used ≡ t'.names_used
  pub extras : t.extras_used ≡ t'.extras_used
  pub entries : used_of t ≡ used_of t'

-- They are measured and written alike: what stands in unused entries changes nothing.
pub record SameWriting (rule : TypeIdRule) (way : AddressWay) (t t' : Tables) (s d : List ℕ) : Type 0 where
  pub measures : measured rule t s ≡ measured rule t' s
  pub answers : written rule t s d ≡ written rule t' s d
  pub image : image_of rule way s t ≡ image_of rule way s t'
  pub leave : leaves rule way t s d ≡ leaves rule way t' s d

-- Where a slice gives its type id a length that is a multiple of 4, both rules read it alike;
pub record ReadAlike (d : List ℕ) : Type 0 where
  pub leading : answered Gap (read_leading Gap d) ≡ answered Multiple (read_leading Multiple d)
  pub whole : answered Gap (read_whole Gap d) ≡ answered Multiple (read_whole Multiple d)

-- and where the type id of tables has such a length, both measure and write them alike.
pub record WrittenAlike (way : AddressWay) (t : Tables) (s d : List ℕ) : Type 0 where
  pub measures : measured Gap t s ≡ measured Multiple t s
  pub answers : written Gap t s d ≡ written Multiple t s d
  pub leave : leaves Gap way t s d ≡ leaves Multiple way t s d

pub record RulesAgree : Type 0 where
  pub reading : (d : List ℕ) → Octets d → be (part d 0 4) % 4 ≡ 0 → ReadAlike d
  pub writing : (way : AddressWay) (t : Tables) (s d : List ℕ) → t.type_id.len % 4 ≡ 0 → WrittenAlike way t s d
