-- The promises of the calls that read into a table which the caller lends, and that measure and write from it, over what their contracts say. `s` are the
-- octets of the caller's slice, `t` the table before the call, whatever it holds, and `e` after it, `r` what the call answered; `d` is an output before a
-- writing call, `f` after it, `w` its answer. That a slice of u8 holds octets (`Octets`), that the table has 490 numbers and that they are u32 (`Words`)
-- is what the language gives a caller; nothing else is asked. Each but those on both rules is an instance, at rule 1 and with an address's constants, of what
-- `LentRules` proves over the rule and the way. Assumes nothing.
use Prim.Native.Nat.{ℕ, ◌+◌, ◌%◌, ◌<◌, ◌≤◌}
use mathlib.Core.Path.{◌≡◌, sym, ap, ◌∙◌}
use mathlib.Core.List.{List, [], ◌∷◌, ◌++◌}
use mathlib.Core.Logic.{◌↔◌}
use lib.ListN.{length, take, replicate}
use Rattle.octets.specs.Octets.{Octets, Each, part, be}
use Rattle.reference.specs.Refusals.{Told}
use Rattle.std.specs.Prelude.{Ok, Err}
use Rattle.reference.specs.declared.Refusal.{Refusal}
use Rattle.reference.specs.Meaning.{Reference, Room}
use Rattle.reference.specs.declared.TypeIdRule.TheVariants.{Multiple, Gap}
use Rattle.reference.specs.declared.AddressWay.{AddressWay}
use Rattle.reference.specs.declared.AddressWay.TheVariants.{Constants}
use Rattle.reference.specs.declared.Reading.{Reading}
use Rattle.reference.specs.Steps.{pick}
use Rattle.reference.specs.Reader as Reader
use Rattle.reference.specs.Layout.{WellFormed}
use Rattle.reference.specs.Used.{Used}
use Rattle.reference.specs.Today.{Leads, tables_of, read_leading, read_whole, image_of, GivesBack, ReadsBack, Points, Alike}
use Rattle.reference.specs.Tabled.{no_tables, used_of}
use Rattle.reference.specs.Typed.{Unknown}
use Rattle.reference.specs.Checks.{Among}
use Rattle.reference.specs.Promises.{CutShort, PutInFront, LengthIsWritten, SameUsed}
use Rattle.table.specs.Region.{Words}
use Rattle.table.specs.Flat.{tables_from, table_size, Lent}
use Rattle.table.specs.Filed.{reference_filed, SameEntries}
use Rattle.survey.specs.Uncut.{Uncut}
use Rattle.survey.specs.Exact.{exact}
use Rattle.reading.specs.Into as Into
use Rattle.reading.specs.Today.{ReadInto, ShowsInto}
use Rattle.reference.proofs.Rules.{rules_agree}
use Rattle.reading.proofs.Agreed.{leading_left, whole_left}
use Rattle.ior.specs.Lent.{not_exact}
use Rattle.ior.specs.Lent as By
use Rattle.ior.specs.Today.{measured_from, WritesFrom}
use Rattle.ior.proofs.LentRules as rules

-- What is told of the table that an accepted reading leaves has exactly the reference's used entries, whatever the table held before.
pub lent_shows : (t : List ℕ) → Lent t → (m : Reference) → WellFormed Multiple m → Room m → used_of (tables_from (reference_filed Multiple t m)) ≡ tables_of m
lent_shows = rules.lent_shows Multiple

-- ---- read_leading_into

module _ (s : List ℕ) (o : Octets s) (t e : List ℕ) (lent : Lent t) (r : Told) (c : ReadInto (read_leading s) t e r) where
  -- DEMAND 3. A slice of up to 65,535 octets is accepted with n octets and the used entries u exactly when its first n octets are the layout of a
  -- well-formed meaning that fits the tables, and u are that meaning's.
  pub lent_accepts_exactly : length s ≤ 65535 → (n : ℕ) (u : Used)
      → ((r ≡ Ok n) × (used_of (tables_from e) ≡ u)) ↔ ((m : Reference) × (Leads s m n) × (u ≡ tables_of m))
  lent_accepts_exactly = rules.lent_accepts_exactly Multiple s o t e lent r c

  -- The table of an accepted reading: each view shows the very octets of its field, at the offset where the field stands; the sums equal the used counts;
  -- the numbers of unused entries are as before.
  pub lent_views_show_their_fields : (n : ℕ) → r ≡ Ok n → (m : Reference) × (Leads s m n) × (ShowsInto s m t e)
  lent_views_show_their_fields = rules.lent_views_show_their_fields Multiple s o t e lent r c

  -- DEMAND 1, first half: a refused reading leaves zeros, which tell the empty tables.
  pub lent_refused_reading_is_empty : (x : Refusal) → r ≡ Err x → (e ≡ replicate table_size 0) × (tables_from e ≡ no_tables)
  lent_refused_reading_is_empty = rules.lent_refused_reading_is_empty Multiple s o t e lent r c

  -- Where it broke: the third figure points into the slice, a wrong value stands where it points, and nothing behind that is to blame.
  pub lent_offset_inside : (x : Refusal) → r ≡ Err x → Points s x
  lent_offset_inside = rules.lent_offset_inside Multiple s o t e lent r c

  pub lent_blamed : (x : Refusal) → r ≡ Err x → Among x.number (3 ∷ 4 ∷ [])
      → (s' : List ℕ) → Alike s s' x → (t' e' : List ℕ) (r' : Told) → ReadInto (read_leading s') t' e' r' → r' ≡ Err x
  lent_blamed = rules.lent_blamed Multiple s o t e lent r c

  -- A reference cut short (document 02, No. 13): every shorter leading piece of an accepted part is refused, and only with 1 or 2; so it is where it is read
  -- as a whole slice.
  pub lent_cut_short : (n : ℕ) → r ≡ Ok n → (j : ℕ) → j < n → (t' e' : List ℕ) (r' : Told) → ReadInto (read_leading (take j s)) t' e' r' → CutShort r'
  lent_cut_short = rules.lent_cut_short Multiple s o t e lent r c

  pub lent_whole_cut_short : (n : ℕ) → r ≡ Ok n → (j : ℕ) → j < n → (t' e' : List ℕ) (r' : Told) → ReadInto (read_whole (take j s)) t' e' r' → CutShort r'
  lent_whole_cut_short = rules.lent_whole_cut_short Multiple s o t e lent r c

  -- Octets x put behind the part, up to 65,535 in all, change neither the consumed length nor what the table tells; a table that held the same before holds
  -- the same then.
  pub lent_behind : (n : ℕ) → r ≡ Ok n → (x : List ℕ) → Octets x → n + length x ≤ 65535 → (t' e' : List ℕ) (r' : Told) → Lent t' → ReadInto (read_leading (take n s ++ x)) t' e' r'
      → (r' ≡ r) × (SameUsed (tables_from e') (tables_from e)) × (t' ≡ t → e' ≡ e)
  lent_behind = rules.lent_behind Multiple s o t e lent r c

  -- No number of the table that an accepted reading left is cut, and measuring it over the same octets tells the part's length.
  pub lent_read_is_uncut : (n : ℕ) → r ≡ Ok n → Uncut e
  lent_read_is_uncut = rules.lent_read_is_uncut Multiple s o t e lent r c

  pub lent_length_is_read : (n : ℕ) → r ≡ Ok n → (q : Told) → q ≡ measured_from e s → q ≡ Ok n
  lent_length_is_read = rules.lent_length_is_read Multiple s o t e lent r c

  -- Writing from the table that an accepted reading left, over the same octets, into any output with room, answers the part's length and gives the part
  -- back: at every index but the seven constants of each address the octets are equal, and behind the part the output is as before.
  pub lent_write_gives_back : (n : ℕ) → r ≡ Ok n → (d : List ℕ) (w : Told) (f : List ℕ) → WritesFrom e s d w f → n ≤ length d
      → (m : Reference) × (Leads s m n) × (w ≡ Ok n) × (GivesBack s m n d f)
  lent_write_gives_back = rules.lent_write_gives_back Multiple s o t e lent r c Constants

-- ---- read_whole_into

module _ (s : List ℕ) (o : Octets s) (t e : List ℕ) (lent : Lent t) (r : Told) (c : ReadInto (read_whole s) t e r) where
  -- The same of a whole slice, with n its length.
  pub lent_accepts_whole_exactly : length s ≤ 65535 → (n : ℕ) (u : Used)
      → ((r ≡ Ok n) × (used_of (tables_from e) ≡ u)) ↔ ((m : Reference) × (Leads s m n) × (n ≡ length s) × (u ≡ tables_of m))
  lent_accepts_whole_exactly = rules.lent_accepts_whole_exactly Multiple s o t e lent r c

  -- What it accepts, the leading reading accepts with the same answer and table: what is promised of one holds of the other.
  pub lent_whole_is_leading : (n : ℕ) → r ≡ Ok n → (ReadInto (read_leading s) t e r) × (n ≡ length s)
  lent_whole_is_leading = rules.lent_whole_is_leading Multiple s o t e lent r c

  pub lent_refused_whole_is_empty : (x : Refusal) → r ≡ Err x → (e ≡ replicate table_size 0) × (tables_from e ≡ no_tables)
  lent_refused_whole_is_empty = rules.lent_refused_whole_is_empty Multiple s o t e lent r c

  pub lent_whole_offset_inside : (x : Refusal) → r ≡ Err x → Points s x
  lent_whole_offset_inside = rules.lent_whole_offset_inside Multiple s o t e lent r c

  pub lent_whole_blamed : (x : Refusal) → r ≡ Err x → Among x.number (3 ∷ 4 ∷ [])
      → (s' : List ℕ) → Alike s s' x → (t' e' : List ℕ) (r' : Told) → ReadInto (read_whole s') t' e' r' → r' ≡ Err x
  lent_whole_blamed = rules.lent_whole_blamed Multiple s o t e lent r c

-- ---- write_from and length_from: t is any table of u32, read or made by the caller

module _ (t s d : List ℕ) (w : Told) (f : List ℕ) (c : WritesFrom t s d w f) where
  -- DEMAND 1, second half: a refused writing changes no octet.
  pub lent_refused_writing_leaves_all : (x : Refusal) → w ≡ Err x → f ≡ d
  lent_refused_writing_leaves_all = rules.lent_refused_writing_leaves_all Multiple Constants t s d w f c

  -- No number is cut: a table is refused with 255 exactly if some used entry would not be told as it stands.
  pub lent_cuts_no_number : Lent t → (w ≡ not_exact) ↔ (Uncut t → ⊥)
  lent_cuts_no_number = rules.lent_cuts_no_number Multiple Constants t s d w f c

  -- An accepted one puts the image at the front, as long as it answers, and leaves the octets behind it.
  pub lent_accepted_writing_puts : (n : ℕ) → w ≡ Ok n → PutInFront (image_of s (tables_from t)) d n f
  lent_accepted_writing_puts = rules.lent_accepted_writing_puts Multiple Constants t s d w f c

  -- DEMAND 3, the other way: what the writer accepts, with no opaque profile under a known tag, is read back from the output itself, into any lent
  -- table, with equal contents.
  pub lent_written_reads_back : Octets s → Octets d → length d ≤ 65535 → Words t → Each Unknown (used_of (tables_from t)).profiles → (n : ℕ) → w ≡ Ok n
      → (t' e' : List ℕ) (r' : Told) → Lent t' → ReadInto (read_leading f) t' e' r' → ReadsBack (tables_from t) s n f (record { answer = r'; tables = tables_from e' })
  lent_written_reads_back = rules.lent_written_reads_back Multiple Constants t s d w f c

  -- The n octets that were written, read as a whole slice: the same, whatever the output's length.
  pub lent_image_reads_back : Octets s → Words t → Each Unknown (used_of (tables_from t)).profiles → (n : ℕ) → w ≡ Ok n
      → (t' e' : List ℕ) (r' : Told) → Lent t' → ReadInto (read_whole (take n f)) t' e' r'
      → ReadsBack (tables_from t) s n (take n f) (record { answer = r'; tables = tables_from e' })
  lent_image_reads_back = rules.lent_image_reads_back Multiple Constants t s d w f c

  -- The length q that length_from tells is the image's and the length written, and it is refused with 255, 6, 8, 9 or 10 exactly as write_from is.
  pub lent_length_is_written : (q : Told) → q ≡ measured_from t s → LengthIsWritten (255 ∷ 6 ∷ 8 ∷ 9 ∷ 10 ∷ []) (image_of s (tables_from t)) q w
  lent_length_is_written = rules.lent_length_is_written Multiple Constants t s d w f c

  -- Only used entries are looked at: tables with the same front, and the same numbers in their used entries, are measured and written alike.
  pub lent_only_used_matter : (t' : List ℕ) → SameEntries t t' → (w' : Told) (f' : List ℕ) → WritesFrom t' s d w' f' → (measured_from t s ≡ measured_from t' s) × (w ≡ w') × (f ≡ f')
  lent_only_used_matter = rules.lent_only_used_matter Multiple Constants t s d w f c

-- ---- the rules for type ids (document 02, No. 11): where the type id's length is a multiple of 4, the two give equal answers and leave the same

module _ (s : List ℕ) (o : Octets s) (h : be (part s 0 4) % 4 ≡ 0) (t e e' : List ℕ) (r r' : Told) where
  pub lent_rules_agree_read_leading : Into.ReadInto Gap (Reader.read_leading Gap s) t e r → Into.ReadInto Multiple (Reader.read_leading Multiple s) t e' r' → (r ≡ r') × (e ≡ e')
  lent_rules_agree_read_leading p q = (
    p.answers ∙ ap (λ (x : Reading). x.answer) (rules_agree.reading s o h).leading ∙ sym q.answers,
    p.leaves ∙ leading_left s o h t ∙ sym q.leaves,
  )

  pub lent_rules_agree_read_whole : Into.ReadInto Gap (Reader.read_whole Gap s) t e r → Into.ReadInto Multiple (Reader.read_whole Multiple s) t e' r' → (r ≡ r') × (e ≡ e')
  lent_rules_agree_read_whole p q = (
    p.answers ∙ ap (λ (x : Reading). x.answer) (rules_agree.reading s o h).whole ∙ sym q.answers,
    p.leaves ∙ whole_left s o h t ∙ sym q.leaves,
  )

module _ (way : AddressWay) (t s d : List ℕ) (h : (tables_from t).type_id.len % 4 ≡ 0) where
  pub lent_rules_agree_image_length : By.measured_from Gap t s ≡ By.measured_from Multiple t s
  unfolding By.measured_from
  lent_rules_agree_image_length = ap (λ (x : Told). pick (exact t) x not_exact) (rules_agree.writing way (tables_from t) s d h).measures

  pub lent_rules_agree_write : (r r' : Told) (e e' : List ℕ) → By.WritesFrom Gap way t s d r e → By.WritesFrom Multiple way t s d r' e' → (r ≡ r') × (e ≡ e')
  lent_rules_agree_write r r' e e' p q =
      let x = rules_agree.writing way (tables_from t) s d h in (
        p.answers ∙ ap (λ (y : Told). pick (exact t) y not_exact) x.answers ∙ sym q.answers,
        p.leaves ∙ ap (λ (y : List ℕ). pick (exact t) y d) x.leave ∙ sym q.leaves,
      )

-- ---- each contract determines the answer, and the table or the output too

pub lent_determined_read_leading : (s t e e' : List ℕ) (r r' : Told) → ReadInto (read_leading s) t e r → ReadInto (read_leading s) t e' r' → (r ≡ r') × (e ≡ e')
lent_determined_read_leading = rules.lent_determined_read_leading Multiple

pub lent_determined_read_whole : (s t e e' : List ℕ) (r r' : Told) → ReadInto (read_whole s) t e r → ReadInto (read_whole s) t e' r' → (r ≡ r') × (e ≡ e')
lent_determined_read_whole = rules.lent_determined_read_whole Multiple

pub lent_determined_image_length : (t s : List ℕ) (r r' : Told) → r ≡ measured_from t s → r' ≡ measured_from t s → r ≡ r'
lent_determined_image_length = rules.lent_determined_image_length Multiple

pub lent_determined_write : (t s d : List ℕ) (r r' : Told) (e e' : List ℕ) → WritesFrom t s d r e → WritesFrom t s d r' e' → (r ≡ r') × (e ≡ e')
lent_determined_write = rules.lent_determined_write Multiple Constants
