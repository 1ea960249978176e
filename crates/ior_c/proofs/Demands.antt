-- The promises of the functions that firmware links, over their contracts (specs/Calls: `IorRead`, `IorReadWhole`, `IorLength`, `IorWrite` ..). `s` are the
-- caller's octets, `t` its table, whatever it holds, `a` its array for the answer and `d` its output, all before the call; `r` is the result, 0 where it was
-- accepted; `b`, `e` and `f` are the answer, the table and the output after the call; `get_or b 4 0` is the count told. That a slice of u8 holds octets
-- (`Octets`) and one of u32 numbers below 2^32 (`Words`) is what the language gives a caller; nothing else is asked. Those of reading and writing are
-- instances, at rule 1 and with an address's constants, of what `Rules` proves over the rule and the way. Assumes nothing.
use Prim.Native.Nat.{ℕ, ◌+◌, ◌%◌, ◌<◌, ◌≤◌}
use mathlib.Core.Path.{◌≡◌, refl, sym, ap, ◌∙◌, subst}
use mathlib.Core.Bool.{Bool, true, false}
use mathlib.Core.Logic.{◌≢◌, ◌↔◌}
use mathlib.Core.List.{List, [], ◌∷◌, ◌++◌}
use native.Mathlib.Omega.{arith}
use lib.ListN.{length, take, get_or, replicate}
use lib.Dec.{T, eqb}
use Rattle.octets.specs.Octets.{Octets, Each, part, be}
use Rattle.std.specs.Prelude.{Err}
use Rattle.reference.specs.declared.Reading.{Reading}
use Rattle.reference.specs.declared.Refusal.{Refusal}
use Rattle.reference.specs.declared.NameComponent.{NameComponent}
use Rattle.reference.specs.Meaning.{Reference, Address}
use Rattle.reference.specs.declared.TypeIdRule.TheVariants.{Multiple, Gap}
use Rattle.reference.specs.declared.AddressWay.TheVariants.{Constants}
use Rattle.reference.specs.Checks.{Among}
use Rattle.reference.specs.Reader.{read_address}
use Rattle.reference.specs.Steps.{Answer, ok, refused, seen}
use Rattle.reference.specs.Names.{read_short_name, short_at}
use Rattle.reference.specs.Questions.{dvb_address, DvbAddress, dvb_octets}
use Rattle.reference.specs.Used.{Used}
use Rattle.reference.specs.Today.{Leads, tables_of, image_of, GivesBack, ReadsBack, Points, Alike}
use Rattle.reference.specs.Tabled.{used_of}
use Rattle.reference.specs.Typed.{Unknown}
use Rattle.reference.specs.Promises.{taking, PutInFront, SameUsed}
use Rattle.reference.proofs.Cases.{by_test, by_answer}
use Rattle.reference.proofs.Steps.{seen_no}
use Rattle.reference.proofs.Asked.{picks_first}
use Rattle.reference.proofs.Blame as blame
use Rattle.reference.proofs.Addresses as addresses
use Rattle.reference.proofs.Rules.{rules_agree}
use Rattle.table.specs.Region.{Words}
use Rattle.table.specs.Flat.{tables_from, table_size, Lent}
use Rattle.table.specs.Filed.{SameEntries}
use Rattle.survey.specs.Uncut.{Uncut}
use Rattle.reading.specs.Today.{ShowsInto}
use Rattle.reading.proofs.Agreed.{leading_left, whole_left}
use Rattle.ior_c.specs.Said.{answer_size, number_of, numbers_of, sized, askable, truth, name_said}
use Rattle.ior_c.specs.Calls.{rule_number, way_number, Unasked, IorReadBy, IorReadWholeBy, IorLengthBy, IorWriteBy, IorKind, IorTap, IorFirstBiop, IorDvbAddress, IorNameRead, IorNameWrite}
use Rattle.ior_c.specs.Today.{IorRead, IorReadWhole, IorLength, IorWrite, Day, Kept}
use Rattle.ior_c.specs.Promises.{SameLength}
use Rattle.ior_c.proofs.Calls.{asked_given, unasked_given, tells_alike, gives_alike}
use Rattle.ior_c.proofs.Rules as rules
use Rattle.ior_c.proofs.Named.{by_determined, rule_named, way_named}

-- ---- ior_read

module _ (s : List ℕ) (o : Octets s) (t a : List ℕ) (r : ℕ) (b e : List ℕ) (c : IorRead s t a r b e) where
  -- DEMAND 3. With arrays of the right lengths, a slice of up to 65,535 octets is accepted with n octets and the used entries u exactly when its first n
  -- octets are the layout of a well-formed meaning that fits the tables, and u are that meaning's.
  pub c_accepts_exactly : Lent t → length a ≡ answer_size → length s ≤ 65535 → (n : ℕ) (u : Used)
      → ((r ≡ 0) × (get_or b 4 0 ≡ n) × (used_of (tables_from e) ≡ u)) ↔ ((m : Reference) × (Leads s m n) × (u ≡ tables_of m))
  c_accepts_exactly = rules.c_accepts_exactly Multiple s o t a r b e c

  -- The table of an accepted reading: each view shows the very octets of its field; the sums equal the used counts; the numbers of unused entries are as before.
  pub c_views_show_their_fields : r ≡ 0 → (m : Reference) × (Leads s m (get_or b 4 0)) × (ShowsInto s m t e)
  c_views_show_their_fields = rules.c_views_show_their_fields Multiple s o t a r b e c

  -- DEMAND 1. 255: nothing was asked, and nothing is changed. Any other result but 0: the reading was refused with that number, with a place and figures, and
  -- the table is zero.
  pub c_unasked_reading_leaves_all : r ≡ 255 → (b ≡ a) × (e ≡ t)
  c_unasked_reading_leaves_all = rules.c_unasked_reading_leaves_all Multiple s o t a r b e c

  pub c_refused_reading_is_empty : r ≢ 0 → r ≢ 255 → (x : Refusal) × (r ≡ x.number) × (Among r (1 ∷ 2 ∷ 3 ∷ 4 ∷ 6 ∷ 7 ∷ [])) × (b ≡ numbers_of (Err x)) × (e ≡ replicate table_size 0)
  c_refused_reading_is_empty = rules.c_refused_reading_is_empty Multiple s o t a r b e c

  -- Where it broke. The sixth number points into s; where a value is wrong (3, 4), the field that the place names stands there and is wrong; 6 and 7 have 0.
  pub c_offset_inside : r ≢ 0 → r ≢ 255 → (x : Refusal) × (b ≡ numbers_of (Err x)) × (Points s x)
  c_offset_inside = rules.c_offset_inside Multiple s o t a r b e c

  -- Nothing behind a wrong value is to blame: of every array s' of octets that is not shorter, up to 65,535, and agrees with s up to the end of the field, a call
  -- with arrays of the right lengths tells the same.
  pub c_blamed : Among r (3 ∷ 4 ∷ []) → (x : Refusal) × (b ≡ numbers_of (Err x))
      × ((s' : List ℕ) → Alike s s' x → (t' a' : List ℕ) (r' : ℕ) (b' e' : List ℕ) → Lent t' → length a' ≡ answer_size → IorRead s' t' a' r' b' e' → (r' ≡ r) × (b' ≡ b))
  c_blamed = rules.c_blamed Multiple s o t a r b e c

  -- A reference cut short (document 02, No. 13): of every shorter leading piece of an accepted part, a call with arrays of the right lengths has the result 1
  -- or 2; so it is where ior_read_whole reads it.
  pub c_cut_short : r ≡ 0 → (j : ℕ) → j < get_or b 4 0 → (t' a' : List ℕ) (r' : ℕ) (b' e' : List ℕ) → Lent t' → length a' ≡ answer_size → IorRead (take j s) t' a' r' b' e' → Among r' (1 ∷ 2 ∷ [])
  c_cut_short = rules.c_cut_short Multiple s o t a r b e c

  pub c_whole_cut_short : r ≡ 0 → (j : ℕ) → j < get_or b 4 0 → (t' a' : List ℕ) (r' : ℕ) (b' e' : List ℕ) → Lent t' → length a' ≡ answer_size → IorReadWhole (take j s) t' a' r' b' e' → Among r' (1 ∷ 2 ∷ [])
  c_whole_cut_short = rules.c_whole_cut_short Multiple s o t a r b e c

  -- Octets x put behind the part, up to 65,535 in all, change neither result nor answer, nor what the table tells; a table that held the same before holds
  -- the same then.
  pub c_behind : r ≡ 0 → (x : List ℕ) → Octets x → get_or b 4 0 + length x ≤ 65535 → (t' a' : List ℕ) (r' : ℕ) (b' e' : List ℕ) → Lent t' → length a' ≡ answer_size
      → IorRead (take (get_or b 4 0) s ++ x) t' a' r' b' e' → (r' ≡ 0) × (b' ≡ b) × (SameUsed (tables_from e') (tables_from e)) × (t' ≡ t → e' ≡ e)
  c_behind = rules.c_behind Multiple s o t a r b e c

  -- The table that an accepted reading left can be asked of: no number of it is cut, whatever source and output it is measured and written with.
  pub c_read_is_askable : r ≡ 0 → askable e answer_size ≡ true
  c_read_is_askable = rules.c_read_is_askable Multiple s o t a r b e c

  pub c_write_after_read_is_asked : r ≡ 0 → (s' d a' : List ℕ) (r' : ℕ) (b' f : List ℕ) → length a' ≡ answer_size → IorWrite e s' d a' r' b' f → r' ≢ 255
  c_write_after_read_is_asked = rules.c_write_after_read_is_asked Multiple s o t a r b e c Constants

  -- Measuring it over the same octets tells the part's length, with the very answer of the reading.
  pub c_length_is_read : r ≡ 0 → (a' : List ℕ) (r' : ℕ) (b' : List ℕ) → length a' ≡ answer_size → IorLength e s a' r' b' → (r' ≡ 0) × (b' ≡ b)
  c_length_is_read = rules.c_length_is_read Multiple s o t a r b e c

  -- Writing it over the same octets into any output with room is accepted with the part's length and gives the part back: at every index but the seven
  -- constants of each address the octets are equal, and behind the part the output is as before.
  pub c_write_gives_back : r ≡ 0 → (d a' : List ℕ) (r' : ℕ) (b' f : List ℕ) → length a' ≡ answer_size → get_or b 4 0 ≤ length d → IorWrite e s d a' r' b' f
      → (m : Reference) × (Leads s m (get_or b 4 0)) × (r' ≡ 0) × (b' ≡ b) × (GivesBack s m (get_or b 4 0) d f)
  c_write_gives_back = rules.c_write_gives_back Multiple s o t a r b e c Constants

-- ---- ior_read_whole

module _ (s : List ℕ) (o : Octets s) (t a : List ℕ) (r : ℕ) (b e : List ℕ) (c : IorReadWhole s t a r b e) where
  -- The same of a whole slice, with n its length.
  pub c_accepts_whole_exactly : Lent t → length a ≡ answer_size → length s ≤ 65535 → (n : ℕ) (u : Used)
      → ((r ≡ 0) × (get_or b 4 0 ≡ n) × (used_of (tables_from e) ≡ u)) ↔ ((m : Reference) × (Leads s m n) × (n ≡ length s) × (u ≡ tables_of m))
  c_accepts_whole_exactly = rules.c_accepts_whole_exactly Multiple s o t a r b e c

  -- What it accepts, ior_read accepts with the same result, answer and table: what is promised of one holds of the other.
  pub c_whole_is_leading : r ≡ 0 → (IorRead s t a r b e) × (get_or b 4 0 ≡ length s)
  c_whole_is_leading = rules.c_whole_is_leading Multiple s o t a r b e c

  -- Refused readings of a whole slice: the same as of a leading part.
  pub c_unasked_whole_leaves_all : r ≡ 255 → (b ≡ a) × (e ≡ t)
  c_unasked_whole_leaves_all = rules.c_unasked_whole_leaves_all Multiple s o t a r b e c

  pub c_refused_whole_is_empty : r ≢ 0 → r ≢ 255 → (x : Refusal) × (r ≡ x.number) × (Among r (1 ∷ 2 ∷ 3 ∷ 4 ∷ 6 ∷ 7 ∷ [])) × (b ≡ numbers_of (Err x)) × (e ≡ replicate table_size 0)
  c_refused_whole_is_empty = rules.c_refused_whole_is_empty Multiple s o t a r b e c

  pub c_whole_offset_inside : r ≢ 0 → r ≢ 255 → (x : Refusal) × (b ≡ numbers_of (Err x)) × (Points s x)
  c_whole_offset_inside = rules.c_whole_offset_inside Multiple s o t a r b e c

  pub c_whole_blamed : Among r (3 ∷ 4 ∷ []) → (x : Refusal) × (b ≡ numbers_of (Err x))
      × ((s' : List ℕ) → Alike s s' x → (t' a' : List ℕ) (r' : ℕ) (b' e' : List ℕ) → Lent t' → length a' ≡ answer_size → IorReadWhole s' t' a' r' b' e' → (r' ≡ r) × (b' ≡ b))
  c_whole_blamed = rules.c_whole_blamed Multiple s o t a r b e c

-- ---- ior_write: t is any table of u32, read or made by the caller

module _ (t s d a : List ℕ) (r : ℕ) (b f : List ℕ) (c : IorWrite t s d a r b f) where
  -- DEMAND 1. Unless the result is 0, no octet of the output is changed; with 255 the answer stays, too.
  pub c_refused_writing_leaves_all : r ≢ 0 → f ≡ d
  c_refused_writing_leaves_all = rules.c_refused_writing_leaves_all Multiple Constants t s d a r b f c

  pub c_unasked_writing_leaves_all : r ≡ 255 → (b ≡ a) × (f ≡ d)
  c_unasked_writing_leaves_all = rules.c_unasked_writing_leaves_all Multiple Constants t s d a r b f c

  -- No number is cut: with arrays of the right lengths the result is 255 exactly if some used entry would not be told as it stands.
  pub c_cuts_no_number : Lent t → length a ≡ answer_size → (r ≡ 255) ↔ (Uncut t → ⊥)
  c_cuts_no_number = rules.c_cuts_no_number Multiple Constants t s d a r b f c

  -- 0: the image stands at the front, as long as the answer tells, and behind it the output is as before.
  pub c_accepted_writing_puts : r ≡ 0 → PutInFront (image_of s (tables_from t)) d (get_or b 4 0) f
  c_accepted_writing_puts = rules.c_accepted_writing_puts Multiple Constants t s d a r b f c

  -- DEMAND 3, the other way: what is written, with no opaque profile under a known tag, is read back from the output itself, into any table, with equal
  -- contents.
  pub c_written_reads_back : Octets s → Octets d → length d ≤ 65535 → Words t → Each Unknown (used_of (tables_from t)).profiles → r ≡ 0
      → (t' a' : List ℕ) (r' : ℕ) (b' e' : List ℕ) → Lent t' → length a' ≡ answer_size → IorRead f t' a' r' b' e'
      → (r' ≡ 0) × (b' ≡ b) × (ReadsBack (tables_from t) s (get_or b 4 0) f (taking (get_or b 4 0) (tables_from e')))
  c_written_reads_back = rules.c_written_reads_back Multiple Constants t s d a r b f c

  -- The octets that were written, read as a whole slice: the same, whatever the output's length.
  pub c_image_reads_back : Octets s → Words t → Each Unknown (used_of (tables_from t)).profiles → r ≡ 0
      → (t' a' : List ℕ) (r' : ℕ) (b' e' : List ℕ) → Lent t' → length a' ≡ answer_size → IorReadWhole (take (get_or b 4 0) f) t' a' r' b' e'
      → (r' ≡ 0) × (b' ≡ b) × (ReadsBack (tables_from t) s (get_or b 4 0) (take (get_or b 4 0) f) (taking (get_or b 4 0) (tables_from e')))
  c_image_reads_back = rules.c_image_reads_back Multiple Constants t s d a r b f c

  -- The length that ior_length tells is the image's and the length written; 6, 8, 9, 10 and 255 are told by both alike.
  pub c_length_is_written : (a' : List ℕ) (q : ℕ) (b' : List ℕ) → length a' ≡ length a → IorLength t s a' q b' → SameLength (image_of s (tables_from t)) q b' r b
  c_length_is_written = rules.c_length_is_written Multiple Constants t s d a r b f c

  -- Only used entries are looked at: tables of one length with the same front, and the same numbers in their used entries, are written alike.
  pub c_only_used_matter : (t' : List ℕ) → length t ≡ length t' → SameEntries t t' → (r' : ℕ) (b' f' : List ℕ) → IorWrite t' s d a r' b' f' → (r ≡ r') × (b ≡ b') × (f ≡ f')
  c_only_used_matter = rules.c_only_used_matter Multiple Constants t s d a r b f c

-- ---- ior_length

module _ (t s a : List ℕ) (r : ℕ) (b : List ℕ) (c : IorLength t s a r b) where
  -- 255 leaves the answer as it was, and is told exactly if a number would be cut.
  pub c_unasked_measuring_leaves_all : r ≡ 255 → b ≡ a
  c_unasked_measuring_leaves_all = rules.c_unasked_measuring_leaves_all Multiple t s a r b c

  pub c_measuring_cuts_no_number : Lent t → length a ≡ answer_size → (r ≡ 255) ↔ (Uncut t → ⊥)
  c_measuring_cuts_no_number = rules.c_measuring_cuts_no_number Multiple t s a r b c

  -- Only used entries are looked at.
  pub c_only_used_measured : (t' : List ℕ) → length t ≡ length t' → SameEntries t t' → (r' : ℕ) (b' : List ℕ) → IorLength t' s a r' b' → (r ≡ r') × (b ≡ b')
  c_only_used_measured = rules.c_only_used_measured Multiple t s a r b c

-- ---- the day of one reference

-- Octets that ior_read_whole accepts, stored and read again into any table, give the same answer and equal tables; written anew from it into an output with
-- room they are the octets, save the seven constants of each address; and the copy is accepted again with equal contents (specs/Promises: `Day`, `Kept`).
pub through_the_day : (s : List ℕ) → Octets s → (d : Day s) → (m : Reference) × (Leads s m (length s)) × (Kept s d m)
through_the_day = rules.through_the_day Multiple Constants

-- ---- ior_name_read

name_refuses : (y : Answer NameComponent) (x : Refusal) → name_said y ≡ Err x → y ≡ refused x
name_refuses (ok n k) x e = let z : ◌≡◌ {A = ℕ} 0 1 = cc in absurd (omega arith)
name_refuses (refused z) x e = let q : z ≡ x = cc in ap (λ (y : Refusal). refused y) q

-- Where it broke: the sixth number points into s, and 6 has 0.
pub c_name_offset_inside : (s v a : List ℕ) (r : ℕ) (b e : List ℕ) → IorNameRead s v a r b e → r ≢ 0 → r ≢ 255 → (x : Refusal) × (b ≡ numbers_of (Err x)) × (Points s x)
c_name_offset_inside s v a r b e c z w =
    by_test (sized 4 (length v) (length a))
    (λ h.
    let (p, q, l) = asked_given c h in
    by_answer (name_said (seen short_at (read_short_name s))) (λ n g. absurd (z (p ∙ ap number_of g)))
    (λ x g. (x, q ∙ ap numbers_of g, blame.short_points Multiple s x (seen_no short_at (read_short_name s) (name_refuses _ x g)))))
    (λ h. absurd (w (unasked_given c h).0))

-- ---- ior_dvb_address (document 02, No. 5), of an array of twenty octets

truth_one : (b : Bool) → (truth b ≡ 1) ↔ T b
truth_one true = (λ e. tt, λ t. refl)
truth_one false = (λ e. absurd (omega arith), λ t. absurd t)

asked_truth : (l : List ℕ) (r : ℕ) → IorDvbAddress l r → length l ≡ 20 → r ≡ truth (dvb_address l)
asked_truth l r c twenty = c ∙ picks_first (eqb (length l) 20) (truth (dvb_address l)) 255 (ap (λ (n : ℕ). eqb n 20) twenty)

module _ (l : List ℕ) (o : Octets l) (twenty : length l ≡ 20) (r : ℕ) (c : IorDvbAddress l r) where
  told : (r ≡ 1) ↔ T (dvb_address l)
  told = subst (λ (x : ℕ). (x ≡ 1) ↔ T (dvb_address l)) (sym (asked_truth l r c twenty)) (truth_one (dvb_address l))

  -- The result is 1 exactly if the address that is read of them (there always is one: `address_read`) has the four constants, and DVB's organisation number
  -- 00 01 5A as its specifier data.
  pub c_dvb_exactly : (m : Address) → read_address l 0 20 ≡ ok m 20 → (r ≡ 1) ↔ DvbAddress m
  c_dvb_exactly m e = let h = addresses.dvb_exactly l o twenty m e in (λ x. h.0 (told.0 x), λ x. told.1 (h.1 x))

  -- It is 1 exactly if ten of them are these octets (`dvb_octets`): one of the ten changed gives 0.
  pub c_dvb_octets : (r ≡ 1) ↔ Each (λ q. get_or l q.0 0 ≡ q.1) dvb_octets
  c_dvb_octets = let h = addresses.dvb_octets_lem l o twenty in (λ x. h.0 (told.0 x), λ x. told.1 (h.1 x))

-- The result doesn't depend on the ten other octets: addresses that agree in the ten that matter get the same one.
pub c_dvb_only : (l m : List ℕ) → Octets l → Octets m → length l ≡ 20 → length m ≡ 20 → Each (λ q. get_or l q.0 0 ≡ get_or m q.0 0) dvb_octets
    → (r r' : ℕ) → IorDvbAddress l r → IorDvbAddress m r' → r ≡ r'
c_dvb_only l m o p x y h r r' c c' = asked_truth l r c x ∙ ap truth (addresses.dvb_only l m o p x y h) ∙ sym (asked_truth m r' c' y)

-- ---- the four by a number: the rule (document 02, No. 11), and the way in writing

-- Where the number names a rule, the call is the one under that rule, and what `Rules` proves over the rule holds of it; under 1 it is the function without
-- `_by`. A number that names none is answered with 255, and neither the answer nor the table or output is changed.
pub c_read_by_one : (s t a : List ℕ) (r : ℕ) (b e : List ℕ) → IorReadBy 1 s t a r b e → IorRead s t a r b e
c_read_by_one s t a r b e c = c.named Multiple refl

pub c_read_whole_by_one : (s t a : List ℕ) (r : ℕ) (b e : List ℕ) → IorReadWholeBy 1 s t a r b e → IorReadWhole s t a r b e
c_read_whole_by_one s t a r b e c = c.named Multiple refl

pub c_length_by_one : (t s a : List ℕ) (r : ℕ) (b : List ℕ) → IorLengthBy 1 t s a r b → IorLength t s a r b
c_length_by_one t s a r b c = c.named Multiple refl

pub c_write_by_one : (t s d a : List ℕ) (r : ℕ) (b f : List ℕ) → IorWriteBy 1 1 t s d a r b f → IorWrite t s d a r b f
c_write_by_one t s d a r b f c = (c.named Multiple refl).named Constants refl

-- On multiples of 4 the two rules give equal results, and leave the same in every array.
module _ (s : List ℕ) (o : Octets s) (h : be (part s 0 4) % 4 ≡ 0) (t a : List ℕ) (r r' : ℕ) (b b' e e' : List ℕ) where
  pub c_rules_agree_read_leading : IorReadBy 2 s t a r b e → IorReadBy 1 s t a r' b' e' → (r ≡ r') × (b ≡ b') × (e ≡ e')
  c_rules_agree_read_leading p q =
      gives_alike refl (ap (λ (x : Reading). x.answer) (rules_agree.reading s o h).leading) (leading_left s o h t) (p.named Gap refl) (q.named Multiple refl)

  pub c_rules_agree_read_whole : IorReadWholeBy 2 s t a r b e → IorReadWholeBy 1 s t a r' b' e' → (r ≡ r') × (b ≡ b') × (e ≡ e')
  c_rules_agree_read_whole p q =
      gives_alike refl (ap (λ (x : Reading). x.answer) (rules_agree.reading s o h).whole) (whole_left s o h t) (p.named Gap refl) (q.named Multiple refl)

module _ (t s d a : List ℕ) (h : (tables_from t).type_id.len % 4 ≡ 0) (r r' : ℕ) (b b' : List ℕ) where
  pub c_rules_agree_image_length : IorLengthBy 2 t s a r b → IorLengthBy 1 t s a r' b' → (r ≡ r') × (b ≡ b')
  c_rules_agree_image_length p q =
      let x = (rules_agree.writing Constants (tables_from t) s d h).measures in
      tells_alike refl (ap number_of x) (ap numbers_of x) (p.named Gap refl) (q.named Multiple refl)

  pub c_rules_agree_write : (f f' : List ℕ) → IorWriteBy 2 1 t s d a r b f → IorWriteBy 1 1 t s d a r' b' f' → (r ≡ r') × (b ≡ b') × (f ≡ f')
  c_rules_agree_write f f' p q =
      let x = rules_agree.writing Constants (tables_from t) s d h in
      gives_alike refl x.answers x.leave ((p.named Gap refl).named Constants refl) ((q.named Multiple refl).named Constants refl)

unasked_alike : {a d : List ℕ} {r r' : ℕ} {b b' e e' : List ℕ} → Unasked a d r b e → Unasked a d r' b' e' → (r ≡ r') × (b ≡ b') × (e ≡ e')
unasked_alike u v = (u.0 ∙ sym v.0, u.1 ∙ sym v.1, u.2 ∙ sym v.2)

-- ---- each contract determines the result, and what the call leaves in its arrays

pub c_determined_read_leading : (s t a : List ℕ) (r r' : ℕ) (b b' e e' : List ℕ) → IorRead s t a r b e → IorRead s t a r' b' e' → (r ≡ r') × (b ≡ b') × (e ≡ e')
c_determined_read_leading = rules.c_determined_read_leading Multiple

pub c_determined_read_whole : (s t a : List ℕ) (r r' : ℕ) (b b' e e' : List ℕ) → IorReadWhole s t a r b e → IorReadWhole s t a r' b' e' → (r ≡ r') × (b ≡ b') × (e ≡ e')
c_determined_read_whole = rules.c_determined_read_whole Multiple

pub c_determined_image_length : (t s a : List ℕ) (r r' : ℕ) (b b' : List ℕ) → IorLength t s a r b → IorLength t s a r' b' → (r ≡ r') × (b ≡ b')
c_determined_image_length = rules.c_determined_image_length Multiple

pub c_determined_write : (t s d a : List ℕ) (r r' : ℕ) (b b' f f' : List ℕ) → IorWrite t s d a r b f → IorWrite t s d a r' b' f' → (r ≡ r') × (b ≡ b') × (f ≡ f')
c_determined_write = rules.c_determined_write Multiple Constants

-- .. and of the four by a number, whatever number it is

pub c_determined_read_leading_by : (k : ℕ) (s t a : List ℕ) (r r' : ℕ) (b b' e e' : List ℕ) → IorReadBy k s t a r b e → IorReadBy k s t a r' b' e' → (r ≡ r') × (b ≡ b') × (e ≡ e')
c_determined_read_leading_by k s t a r r' b b' e e' p q =
    by_determined rule_number k rule_named (λ rule. rules.c_determined_read_leading rule s t a r r' b b' e e') (λ u v. unasked_alike u v) p q

pub c_determined_read_whole_by : (k : ℕ) (s t a : List ℕ) (r r' : ℕ) (b b' e e' : List ℕ) → IorReadWholeBy k s t a r b e → IorReadWholeBy k s t a r' b' e' → (r ≡ r') × (b ≡ b') × (e ≡ e')
c_determined_read_whole_by k s t a r r' b b' e e' p q =
    by_determined rule_number k rule_named (λ rule. rules.c_determined_read_whole rule s t a r r' b b' e e') (λ u v. unasked_alike u v) p q

pub c_determined_image_length_by : (k : ℕ) (t s a : List ℕ) (r r' : ℕ) (b b' : List ℕ) → IorLengthBy k t s a r b → IorLengthBy k t s a r' b' → (r ≡ r') × (b ≡ b')
c_determined_image_length_by k t s a r r' b b' p q =
    by_determined rule_number k rule_named (λ rule. rules.c_determined_image_length rule t s a r r' b b') (λ u v. (u.0 ∙ sym v.0, u.1 ∙ sym v.1)) p q

pub c_determined_write_by : (k w : ℕ) (t s d a : List ℕ) (r r' : ℕ) (b b' f f' : List ℕ) → IorWriteBy k w t s d a r b f → IorWriteBy k w t s d a r' b' f' → (r ≡ r') × (b ≡ b') × (f ≡ f')
c_determined_write_by k w t s d a r r' b b' f f' p q =
    by_determined rule_number k rule_named
    (λ rule. by_determined way_number w way_named (λ way. rules.c_determined_write rule way t s d a r r' b b' f f') (λ u v. unasked_alike u v)) (λ u v. unasked_alike u v) p q

pub c_determined_object_kind : (i k : List ℕ) (r r' : ℕ) (b b' : List ℕ) → IorKind i k r b → IorKind i k r' b' → (r ≡ r') × (b ≡ b')
c_determined_object_kind i k r r' b b' p q = tells_alike refl refl refl p q

pub c_determined_tap_numbers : (uses : ℕ) (s l : List ℕ) (r r' : ℕ) (b b' : List ℕ) → IorTap uses s l r b → IorTap uses s l r' b' → (r ≡ r') × (b ≡ b')
c_determined_tap_numbers uses s l r r' b b' p q = tells_alike refl refl refl p q

pub c_determined_first_biop : (t a : List ℕ) (r r' : ℕ) (b b' : List ℕ) → IorFirstBiop t a r b → IorFirstBiop t a r' b' → (r ≡ r') × (b ≡ b')
c_determined_first_biop t a r r' b b' p q = tells_alike refl refl refl p q

pub c_determined_is_dvb : (l : List ℕ) (r r' : ℕ) → IorDvbAddress l r → IorDvbAddress l r' → r ≡ r'
c_determined_is_dvb l r r' p q = p ∙ sym q

pub c_determined_read_short_name : (s v a : List ℕ) (r r' : ℕ) (b b' e e' : List ℕ) → IorNameRead s v a r b e → IorNameRead s v a r' b' e' → (r ≡ r') × (b ≡ b') × (e ≡ e')
c_determined_read_short_name s v a r r' b b' e e' p q = gives_alike refl refl refl p q

pub c_determined_write_short_name : (v s d a : List ℕ) (r r' : ℕ) (b b' f f' : List ℕ) → IorNameWrite v s d a r b f → IorNameWrite v s d a r' b' f' → (r ≡ r') × (b ≡ b') × (f ≡ f')
c_determined_write_short_name v s d a r r' b b' f f' p q = gives_alike refl refl refl p q
