-- The promises, over what the face's contracts say. `s` are the octets of the caller's slice, `t` the caller's tables, `d` the output before the call and
-- `e` after it, `r` what the call answered: each theorem begins with the very clause of the call's contract. That a slice of u8 holds octets (`Octets`)
-- and that tables keep to their types (`Typed`) is what the language gives a caller; nothing else is asked. The promises of the calls on a lent table stand
-- in `Lent`. Those of reading and writing are instances, at rule 1 and with an address's constants, of what `Rules` proves over the rule and the way.
-- Assumes nothing.
use Prim.Native.Nat.{ℕ, ◌+◌, ◌<◌, ◌≤◌}
use mathlib.Core.Path.{◌≡◌, sym, ◌∙◌, subst}
use mathlib.Core.Bool.{Bool}
use mathlib.Core.List.{List, [], ◌∷◌, ◌++◌, map}
use mathlib.Core.Logic.{◌≢◌, ◌↔◌}
use lib.ListN.{length, take, get_or}
use lib.Dec.{T}
use Rattle.octets.specs.Octets.{Octets, Each}
use Rattle.reference.specs.Refusals.{Told}
use Rattle.std.specs.Prelude.{Option, Result, Ok, Err}
use Rattle.reference.specs.declared.Reading.{Reading}
use Rattle.reference.specs.declared.Refusal.{Refusal}
use Rattle.reference.specs.declared.Tables.{Tables}
use Rattle.reference.specs.Meaning.{Reference, Address}
use Rattle.reference.specs.declared.TypeIdRule.TheVariants.{Multiple, Gap}
use Rattle.reference.specs.declared.AddressWay.{AddressWay}
use Rattle.reference.specs.declared.AddressWay.TheVariants.{Constants}
use Rattle.reference.specs.Reader.{read_address}
use Rattle.reference.specs.Reader as Reader
use Rattle.reference.specs.Steps.{answer_of, seen, ok}
use Rattle.reference.specs.Today.{Leads, tables_of, read_leading, read_whole, answered, image_of, measured, ShowsFields, GivesBack, ReadsBack, Points, Alike}
use Rattle.reference.specs.Tabled.{tabled, no_tables, used_of}
use Rattle.reference.specs.Typed.{Typed, Unknown}
use Rattle.reference.specs.Checks.{Among}
use Rattle.reference.specs.Promises.{taking, CutShort, PutInFront, LengthIsWritten, SameUsed, RulesAgree}
use Rattle.reference.specs.Worked as Table
use Rattle.reference.proofs.Worked as worked-out
use Rattle.reference.proofs.Addresses as addresses
use Rattle.writing.specs.Writes as By
use Rattle.writing.specs.Today.{Writes}
use Rattle.reference.specs.declared.NameComponent.{NameComponent}
use Rattle.reference.specs.Questions.{kind_of, tap_numbers_of, first_biop, dvb_address, DvbAddress, dvb_octets}
use Rattle.reference.specs.Names.{read_short_name, short_at}
use Rattle.reference.specs.declared.ObjectKind.{ObjectKind}
use Rattle.reference.specs.declared.TapNumbers.{TapNumbers}
use Rattle.names.specs.Writes as Short
use Rattle.names.proofs.Promises as names
use Rattle.reference.proofs.Rules as agreeing
use Rattle.reference.proofs.Blame as blame
use Rattle.reference.proofs.Measured as measuredly
use Rattle.ior.proofs.Rules as rules

module _ (s : List ℕ) (o : Octets s) where
  -- DEMAND 3. A slice of up to 65,535 octets is accepted by the leading reading with n octets and the tables t exactly when its first n octets are the
  -- layout of a well-formed meaning that fits the tables, and t are that meaning's: no publisher is refused for nothing, none accepted for nothing.
  pub accepts_exactly : (r : Reading) → r ≡ answered (read_leading s) → length s ≤ 65535 → (n : ℕ) (t : Tables)
      → (r ≡ taking n t) ↔ ((m : Reference) × (Leads s m n) × (t ≡ tabled (tables_of m)))
  accepts_exactly = rules.accepts_exactly Multiple s o

  -- The same for the whole slice, with n its length.
  pub accepts_whole_exactly : (r : Reading) → r ≡ answered (read_whole s) → length s ≤ 65535 → (n : ℕ) (t : Tables)
      → (r ≡ taking n t) ↔ ((m : Reference) × (Leads s m n) × (n ≡ length s) × (t ≡ tabled (tables_of m)))
  accepts_whole_exactly = rules.accepts_whole_exactly Multiple s o

  -- What the whole reading accepts, the leading reading accepts with the same answer and tables: what is promised of one holds of the other.
  pub whole_is_leading : (r : Reading) → r ≡ answered (read_whole s) → (n : ℕ) → r.answer ≡ Ok n → (r ≡ answered (read_leading s)) × (n ≡ length s)
  whole_is_leading = rules.whole_is_leading Multiple s o

  -- Part and meaning are unique: an invented consumed count or a second reading of the same octets is shut out.
  pub one_part_one_meaning : (m m' : Reference) (n n' : ℕ) → Leads s m n → Leads s m' n' → (m ≡ m') × (n ≡ n')
  one_part_one_meaning = rules.one_part_one_meaning Multiple s o

  -- The tables of an accepted reading: each view shows the very octets of its field, at the offset where the field stands; unused entries are zero; the sums
  -- equal the used counts.
  pub views_show_their_fields : (r : Reading) → r ≡ answered (read_leading s) → (n : ℕ) → r.answer ≡ Ok n
      → (m : Reference) × (Leads s m n) × (ShowsFields s m r.tables)
  views_show_their_fields = rules.views_show_their_fields Multiple s o

  -- Writing the tables of an accepted reading over the same octets into any output with room answers the part's length and gives the part back: at every index
  -- but the seven constants of each address the octets are equal, and behind the part the output is as before (`GivesBack`).
  pub write_gives_back : (r : Reading) → r ≡ answered (read_leading s) → (n : ℕ) → r.answer ≡ Ok n
      → (d : List ℕ) (w : Told) (e : List ℕ) → Writes r.tables s d w e → n ≤ length d → (m : Reference) × (Leads s m n) × (w ≡ Ok n) × (GivesBack s m n d e)
  write_gives_back = rules.write_gives_back Multiple Constants s o

-- DEMAND 1, first half: a refused reading gives the empty tables.
pub refused_reading_is_empty : (s : List ℕ) (r : Reading) → r ≡ answered (read_leading s) → (x : Refusal) → r.answer ≡ Err x → r.tables ≡ no_tables
refused_reading_is_empty = rules.refused_reading_is_empty Multiple

pub refused_whole_is_empty : (s : List ℕ) (r : Reading) → r ≡ answered (read_whole s) → (x : Refusal) → r.answer ≡ Err x → r.tables ≡ no_tables
refused_whole_is_empty = rules.refused_whole_is_empty Multiple

module _ (t : Tables) (s d : List ℕ) (r : Told) (e : List ℕ) (w : Writes t s d r e) where
  -- DEMAND 1, second half: a refused writing changes no octet.
  pub refused_writing_leaves_all : (x : Refusal) → r ≡ Err x → e ≡ d
  refused_writing_leaves_all = rules.refused_writing_leaves_all Multiple Constants t s d r e w

  -- An accepted one puts the image at the front, as long as it answers, and leaves the octets behind it.
  pub accepted_writing_puts : (n : ℕ) → r ≡ Ok n → PutInFront (image_of s t) d n e
  accepted_writing_puts = rules.accepted_writing_puts Multiple Constants t s d r e w

  -- DEMAND 3, the other way: tables that the writer accepts, with no opaque profile under a known tag, are read back from the output itself with equal contents.
  pub written_reads_back : Octets s → Octets d → length d ≤ 65535 → Typed t → Each Unknown (used_of t).profiles → (n : ℕ) → r ≡ Ok n
      → (q : Reading) → q ≡ answered (read_leading e) → ReadsBack t s n e q
  written_reads_back = rules.written_reads_back Multiple Constants t s d r e w

  -- The n octets that were written, read as a whole slice, say the same, whatever the output's length.
  pub image_reads_back : Octets s → Typed t → Each Unknown (used_of t).profiles → (n : ℕ) → r ≡ Ok n → (q : Reading) → q ≡ answered (read_whole (take n e)) → ReadsBack t s n (take n e) q
  image_reads_back = rules.image_reads_back Multiple Constants t s d r e w

  -- The octets of an accepted image are octets.
  pub image_octets : Octets s → Typed t → (n : ℕ) → r ≡ Ok n → Octets (image_of s t)
  image_octets = rules.image_octets Multiple Constants t s d r e w

  -- The measured length q is the image's and the length written, and measuring is refused with 6, 8, 9 or 10 exactly as writing is.
  pub length_is_written : (q : Told) → q ≡ measured t s → LengthIsWritten (6 ∷ 8 ∷ 9 ∷ 10 ∷ []) (image_of s t) q r
  length_is_written = rules.length_is_written Multiple Constants t s d r e w

-- Only used entries are looked at: tables that agree in used counts and used entries are measured and written alike.
pub only_used_matter : (t t' : Tables) → SameUsed t t' → (s d : List ℕ) (r r' : Told) (e e' : List ℕ) → Writes t s d r e → Writes t' s d r' e'
    → (measured t s ≡ measured t' s) × (r ≡ r') × (e ≡ e')
only_used_matter = rules.only_used_matter Multiple Constants

-- ---- where a reading broke (document 02, No. 3)

-- The third figure of a refused reading is an octet of the slice, or its end. Where a value is wrong (3, 4), the field that the place names stands there, and
-- what it holds is not what it must hold. 6 and 7 have 0.
pub offset_inside : (s : List ℕ) (r : Reading) → r ≡ answered (read_leading s) → (x : Refusal) → r.answer ≡ Err x → Points s x
offset_inside = rules.offset_inside Multiple

pub whole_offset_inside : (s : List ℕ) (r : Reading) → r ≡ answered (read_whole s) → (x : Refusal) → r.answer ≡ Err x → Points s x
whole_offset_inside = rules.whole_offset_inside Multiple

pub name_offset_inside : (s : List ℕ) (r : Result (NameComponent × ℕ) Refusal) → answer_of r ≡ seen short_at (read_short_name s) → (x : Refusal) → r ≡ Err x → Points s x
name_offset_inside s r c x h = names.offset_inside s r c x h

-- Nothing behind a wrong value is to blame: every slice of at least this length, up to 65,535, that agrees with this one up to the end of the field is refused
-- with the very same refusal.
pub blamed : (s : List ℕ) (r : Reading) → r ≡ answered (read_leading s) → (x : Refusal) → r.answer ≡ Err x → Among x.number (3 ∷ 4 ∷ [])
    → (s' : List ℕ) → Alike s s' x → (r' : Reading) → r' ≡ answered (read_leading s') → r'.answer ≡ Err x
blamed = rules.blamed Multiple

pub whole_blamed : (s : List ℕ) (r : Reading) → r ≡ answered (read_whole s) → (x : Refusal) → r.answer ≡ Err x → Among x.number (3 ∷ 4 ∷ [])
    → (s' : List ℕ) → Alike s s' x → (r' : Reading) → r' ≡ answered (read_whole s') → r'.answer ≡ Err x
whole_blamed = rules.whole_blamed Multiple

-- ---- a reference cut short (document 02, No. 13), under each rule: here under rule 1, in `Rules` over the rule

-- Of a slice s whose first n octets are accepted:
module _ (s : List ℕ) (o : Octets s) (r : Reading) (c : r ≡ answered (read_leading s)) (n : ℕ) (h : r.answer ≡ Ok n) where
  -- Every shorter leading piece of the part is refused, and only with 1 or 2: what a power cut leaves never passes for a reference.
  pub cut_short : (j : ℕ) → j < n → (q : Reading) → q ≡ answered (read_leading (take j s)) → CutShort q.answer
  cut_short = rules.cut_short Multiple s o r c n h

  -- So it is where the piece is read as a whole slice.
  pub whole_cut_short : (j : ℕ) → j < n → (q : Reading) → q ≡ answered (read_whole (take j s)) → CutShort q.answer
  whole_cut_short = rules.whole_cut_short Multiple s o r c n h

  -- Octets x put behind the part, up to 65,535 in all, change neither tables nor consumed length.
  pub behind : (x : List ℕ) → Octets x → n + length x ≤ 65535 → (q : Reading) → q ≡ answered (read_leading (take n s ++ x)) → q ≡ r
  behind = rules.behind Multiple s o r c n h

-- ---- the rules for type ids (document 02, No. 11)

-- Where the type id's length is a multiple of 4, the two rules give equal answers: in reading, of a slice whose first four octets are such a length, with equal
-- tables; in measuring and writing, of tables with such a type id, and the output is left the same.
pub rules_agree : RulesAgree
rules_agree = agreeing.rules_agree

-- Under rule 2 no length of a type id is refused: 4 with place 33 isn't given in reading, and no 4 in writing.
pub any_length_read : (s : List ℕ) (r : Reading) → r ≡ Reader.answered Gap (Reader.read_leading Gap s) → (x : Refusal) → r.answer ≡ Err x → x.number ≡ 4 → x.place ≢ 33
any_length_read s r c x h = blame.any_length s x (rules.offset_inside Gap s r c x h)

pub any_length_read_whole : (s : List ℕ) (r : Reading) → r ≡ Reader.answered Gap (Reader.read_whole Gap s) → (x : Refusal) → r.answer ≡ Err x → x.number ≡ 4 → x.place ≢ 33
any_length_read_whole s r c x h = blame.any_length s x (rules.whole_offset_inside Gap s r c x h)

pub any_length_written : (way : AddressWay) (t : Tables) (s d : List ℕ) (r : Told) (e : List ℕ) → By.Writes Gap way t s d r e → (x : Refusal) → r ≡ Err x → x.number ≢ 4
any_length_written way t s d r e w x h = measuredly.any_length_written t s d x (sym w.answers ∙ h)

-- P1 to P11 of document 01: each question of the table is answered as 01 says.
pub worked : map (λ q. Table.reply q.0) Table.cases ≡ map (λ q. q.1) Table.cases
worked = worked-out.worked

-- ---- the DVB address question (document 02, No. 5), of twenty octets `a`

module _ (a : List ℕ) (o : Octets a) (twenty : length a ≡ 20) (r : Bool) (c : r ≡ dvb_address a) where
  -- Yes exactly if the address that is read of them (there always is one: `address_read`) has the four constants, and DVB's organisation number 00 01 5A as
  -- its specifier data.
  pub dvb_exactly : (m : Address) → read_address a 0 20 ≡ ok m 20 → T r ↔ DvbAddress m
  dvb_exactly m e = subst (λ (x : Bool). T x ↔ DvbAddress m) (sym c) (addresses.dvb_exactly a o twenty m e)

  -- Yes exactly if ten of them are these octets (`dvb_octets`): one of the ten changed gives no.
  pub dvb_octets_lem : T r ↔ Each (λ q. get_or a q.0 0 ≡ q.1) dvb_octets
  dvb_octets_lem = subst (λ (x : Bool). T x ↔ Each (λ q. get_or a q.0 0 ≡ q.1) dvb_octets) (sym c) (addresses.dvb_octets_lem a o twenty)

-- The answer doesn't depend on the ten other octets: addresses that agree in the ten that matter get the same one.
pub dvb_only : (a b : List ℕ) → Octets a → Octets b → length a ≡ 20 → length b ≡ 20 → Each (λ q. get_or a q.0 0 ≡ get_or b q.0 0) dvb_octets
    → (r r' : Bool) → r ≡ dvb_address a → r' ≡ dvb_address b → r ≡ r'
dvb_only a b o p m n h r r' c c' = c ∙ addresses.dvb_only a b o p m n h ∙ sym c'

-- ---- `determined`: each public call's contract determines the answer, and the output too. Any two that it allows are equal; where a lower crate has
-- shown it, its theorem is cited.

pub determined_read_leading : (s : List ℕ) (r r' : Reading) → r ≡ answered (read_leading s) → r' ≡ answered (read_leading s) → r ≡ r'
determined_read_leading = rules.determined_read_leading Multiple

pub determined_read_whole : (s : List ℕ) (r r' : Reading) → r ≡ answered (read_whole s) → r' ≡ answered (read_whole s) → r ≡ r'
determined_read_whole = rules.determined_read_whole Multiple

pub determined_image_length : (t : Tables) (s : List ℕ) (r r' : Told) → r ≡ measured t s → r' ≡ measured t s → r ≡ r'
determined_image_length = rules.determined_image_length Multiple

pub determined_write : (t : Tables) (s d : List ℕ) (r r' : Told) (e e' : List ℕ) → Writes t s d r e → Writes t s d r' e' → (r ≡ r') × (e ≡ e')
determined_write = rules.determined_write Multiple Constants

pub determined_object_kind : (l : List ℕ) (r r' : ObjectKind) → r ≡ kind_of l → r' ≡ kind_of l → r ≡ r'
determined_object_kind l r r' p q = p ∙ sym q

pub determined_tap_numbers : (uses : ℕ) (l : List ℕ) (r r' : Option TapNumbers) → r ≡ tap_numbers_of uses l → r' ≡ tap_numbers_of uses l → r ≡ r'
determined_tap_numbers uses l r r' p q = p ∙ sym q

pub determined_first_biop : (t : Tables) (r r' : Result (Option ℕ) Refusal) → r ≡ first_biop t → r' ≡ first_biop t → r ≡ r'
determined_first_biop t r r' p q = p ∙ sym q

pub determined_is_dvb : (a : List ℕ) (r r' : Bool) → r ≡ dvb_address a → r' ≡ dvb_address a → r ≡ r'
determined_is_dvb a r r' p q = p ∙ sym q

pub determined_read_short_name : (s : List ℕ) (r r' : Result (NameComponent × ℕ) Refusal) → answer_of r ≡ seen short_at (read_short_name s) → answer_of r' ≡ seen short_at (read_short_name s) → r ≡ r'
determined_read_short_name s r r' p q = names.reading_determined s r r' p q

pub determined_write_short_name : (n : NameComponent) (s d : List ℕ) (r r' : Told) (e e' : List ℕ) → Short.Writes n s d r e → Short.Writes n s d r' e' → (r ≡ r') × (e ≡ e')
determined_write_short_name n s d r r' e e' p q = names.writing_determined n s d e e' r r' p q
