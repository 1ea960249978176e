-- The promises of the calls on a lent table that take a rule and a way, each proved once, over both (document 02, No. 11). What a theorem says in words
-- stands in `Lent`, where those of the calls that name neither are its instances. Assumes nothing.
use Prim.Native.Nat.{ℕ, ◌+◌, ◌<◌, ◌≤◌}
use mathlib.Core.Path.{◌≡◌, refl, sym, ap, ◌∙◌, subst}
use mathlib.Core.List.{List, [], ◌∷◌, ◌++◌}
use mathlib.Core.Logic.{◌↔◌}
use lib.ListN.{length, take, replicate}
use Rattle.reference.specs.declared.TypeIdRule.{TypeIdRule}
use Rattle.reference.specs.declared.AddressWay.{AddressWay}
use Rattle.octets.specs.Octets.{Octets, Each}
use Rattle.reference.specs.Refusals.{Told}
use Rattle.std.specs.Prelude.{Ok, Err}
use Rattle.reference.specs.declared.Refusal.{Refusal}
use Rattle.reference.specs.Meaning.{Reference, Room}
use Rattle.reference.specs.Layout.{WellFormed, Leads}
use Rattle.reference.specs.Steps.{Answer}
use Rattle.reference.specs.Reader.{read_leading, read_whole}
use Rattle.reference.specs.Used.{Used}
use Rattle.reference.specs.Placed.{tables_of}
use Rattle.reference.specs.Tabled.{no_tables, used_of}
use Rattle.reference.specs.Typed.{Unknown}
use Rattle.reference.specs.Writer.{image_of}
use Rattle.reference.specs.Checks.{Among}
use Rattle.reference.specs.Where.{Points, Alike}
use Rattle.reference.specs.Promises.{CutShort, GivesBack, ReadsBack, PutInFront, LengthIsWritten, SameUsed}
use Rattle.reference.proofs.Accept.{exactly, whole}
use Rattle.reference.proofs.Promised as promised
use Rattle.reference.proofs.Written.{output_octets}
use Rattle.table.specs.Region.{Words}
use Rattle.table.specs.Flat.{tables_from, table_size, Lent}
use Rattle.table.specs.Filed.{reference_filed, SameEntries}
use Rattle.table.proofs.Typed.{told_typed}
use Rattle.survey.specs.Uncut.{Uncut}
use Rattle.reading.specs.Into.{table_left, ReadInto}
use Rattle.reading.specs.Lent.{ShowsInto}
use Rattle.reading.proofs.Valued.{leading_good, whole_good}
use Rattle.reading.proofs.Lent as reading
use Rattle.reading.proofs.Determined as determined
use Rattle.ior.specs.Lent.{not_exact, measured_from, WritesFrom}
use Rattle.ior.proofs.Guarded as guarded
use Rattle.ior.proofs.Rules as rules

module _ (rule : TypeIdRule) where
  pub lent_shows : (t : List ℕ) → Lent t → (m : Reference) → WellFormed rule m → Room m → used_of (tables_from (reference_filed rule t m)) ≡ tables_of rule m
  lent_shows t l m w room = reading.lent_shows rule t l m w room

module _ (rule : TypeIdRule) where
  module _ (s : List ℕ) (o : Octets s) (t e : List ℕ) (lent : Lent t) (r : Told) (c : ReadInto rule (read_leading rule s) t e r) where
    pub lent_accepts_exactly : length s ≤ 65535 → (n : ℕ) (u : Used)
        → ((r ≡ Ok n) × (used_of (tables_from e) ≡ u)) ↔ ((m : Reference) × (Leads rule s m n) × (u ≡ tables_of rule m))
    lent_accepts_exactly small n u =
        let x = reading.into_exactly rule (read_leading rule s) t e r c lent (leading_good rule s o) n u in (
          λ h. let (m, q, p) = x.0 h in (m, (exactly rule s o small m n).0 q, p),
          λ h. x.1 (h.0, (exactly rule s o small h.0 n).1 h.1, h.2),
        )

    pub lent_views_show_their_fields : (n : ℕ) → r ≡ Ok n → (m : Reference) × (Leads rule s m n) × (ShowsInto rule s m t e)
    lent_views_show_their_fields n h = let k = reading.leading_taken rule s o t e lent r n h c in (k.meaning, k.leads, k.shows)

    pub lent_refused_reading_is_empty : (x : Refusal) → r ≡ Err x → (e ≡ replicate table_size 0) × (tables_from e ≡ no_tables)
    lent_refused_reading_is_empty x h = reading.into_refused rule (read_leading rule s) t e r c x h

    pub lent_offset_inside : (x : Refusal) → r ≡ Err x → Points rule s x
    lent_offset_inside x h = promised.offset_inside rule s x (sym c.answers ∙ h)

    pub lent_blamed : (x : Refusal) → r ≡ Err x → Among x.number (3 ∷ 4 ∷ [])
        → (s' : List ℕ) → Alike rule s s' x → (t' e' : List ℕ) (r' : Told) → ReadInto rule (read_leading rule s') t' e' r' → r' ≡ Err x
    lent_blamed x h a s' l t' e' r' c' = c'.answers ∙ promised.blamed rule s s' x (sym c.answers ∙ h) a l

    pub lent_cut_short : (n : ℕ) → r ≡ Ok n → (j : ℕ) → j < n → (t' e' : List ℕ) (r' : Told) → ReadInto rule (read_leading rule (take j s)) t' e' r' → CutShort r'
    lent_cut_short n h j lt t' e' r' c' = subst CutShort (sym c'.answers) (promised.cut_short rule s o n (sym c.answers ∙ h) j lt)

    pub lent_whole_cut_short : (n : ℕ) → r ≡ Ok n → (j : ℕ) → j < n → (t' e' : List ℕ) (r' : Told) → ReadInto rule (read_whole rule (take j s)) t' e' r' → CutShort r'
    lent_whole_cut_short n h j lt t' e' r' c' = subst CutShort (sym c'.answers) (promised.whole_cut_short rule s o n (sym c.answers ∙ h) j lt)

    pub lent_behind : (n : ℕ) → r ≡ Ok n → (x : List ℕ) → Octets x → n + length x ≤ 65535 → (t' e' : List ℕ) (r' : Told) → Lent t' → ReadInto rule (read_leading rule (take n s ++ x)) t' e' r'
        → (r' ≡ r) × (SameUsed (tables_from e') (tables_from e)) × (t' ≡ t → e' ≡ e)
    lent_behind n h x ox small t' e' r' l c' =
        let i : ReadInto rule (read_leading rule s) t' e' r' = subst (λ (y : Answer Reference). ReadInto rule y t' e' r') (promised.behind rule s x o ox n (sym c.answers ∙ h) small) c' in
        let same : r' ≡ r = i.answers ∙ sym c.answers in (
          same,
          reading.same_taken rule s o (reading.leading_taken rule s o t e lent r n h c) (reading.leading_taken rule s o t' e' l r' n (same ∙ h) i),
          λ q. i.leaves ∙ ap (λ (y : List ℕ). table_left rule (read_leading rule s) y) q ∙ sym c.leaves,
        )

    pub lent_read_is_uncut : (n : ℕ) → r ≡ Ok n → Uncut e
    lent_read_is_uncut n h = guarded.taken_uncut rule s t e n lent (reading.leading_taken rule s o t e lent r n h c)

    pub lent_length_is_read : (n : ℕ) → r ≡ Ok n → (q : Told) → q ≡ measured_from rule e s → q ≡ Ok n
    lent_length_is_read n h q x = x ∙ guarded.taken_measured rule s t e n lent (reading.leading_taken rule s o t e lent r n h c)

    pub lent_write_gives_back : (way : AddressWay) (n : ℕ) → r ≡ Ok n → (d : List ℕ) (w : Told) (f : List ℕ) → WritesFrom rule way e s d w f → n ≤ length d
        → (m : Reference) × (Leads rule s m n) × (w ≡ Ok n) × (GivesBack rule way s m n d f)
    lent_write_gives_back way n h d w f x room =
        let k = reading.leading_taken rule s o t e lent r n h c in
        let (a, g) = k.back way d room in
        let y = guarded.exact_writes rule way e s d w f x (guarded.taken_exact rule s t e n lent k) in
        (k.meaning, k.leads, y.answers ∙ a, subst (GivesBack rule way s k.meaning n d) (sym y.leaves) g)

module _ (rule : TypeIdRule) where
  module _ (s : List ℕ) (o : Octets s) (t e : List ℕ) (lent : Lent t) (r : Told) (c : ReadInto rule (read_whole rule s) t e r) where
    pub lent_accepts_whole_exactly : length s ≤ 65535 → (n : ℕ) (u : Used)
        → ((r ≡ Ok n) × (used_of (tables_from e) ≡ u)) ↔ ((m : Reference) × (Leads rule s m n) × (n ≡ length s) × (u ≡ tables_of rule m))
    lent_accepts_whole_exactly small n u =
        let x = reading.into_exactly rule (read_whole rule s) t e r c lent (whole_good rule s o) n u in (
          λ h. let (m, q, p) = x.0 h in let w = (whole rule s o small m n).0 q in (m, w.0, w.1, p),
          λ h. x.1 (h.0, (whole rule s o small h.0 n).1 (h.1, h.2), h.3),
        )

    pub lent_whole_is_leading : (n : ℕ) → r ≡ Ok n → (ReadInto rule (read_leading rule s) t e r) × (n ≡ length s)
    lent_whole_is_leading n h = reading.whole_into rule s o t e r n h c

    pub lent_refused_whole_is_empty : (x : Refusal) → r ≡ Err x → (e ≡ replicate table_size 0) × (tables_from e ≡ no_tables)
    lent_refused_whole_is_empty x h = reading.into_refused rule (read_whole rule s) t e r c x h

    pub lent_whole_offset_inside : (x : Refusal) → r ≡ Err x → Points rule s x
    lent_whole_offset_inside x h = promised.whole_offset_inside rule s x (sym c.answers ∙ h)

    pub lent_whole_blamed : (x : Refusal) → r ≡ Err x → Among x.number (3 ∷ 4 ∷ [])
        → (s' : List ℕ) → Alike rule s s' x → (t' e' : List ℕ) (r' : Told) → ReadInto rule (read_whole rule s') t' e' r' → r' ≡ Err x
    lent_whole_blamed x h a s' l t' e' r' c' = c'.answers ∙ promised.whole_blamed rule s s' x (sym c.answers ∙ h) a l

module _ (rule : TypeIdRule) (way : AddressWay) where
  module _ (t s d : List ℕ) (w : Told) (f : List ℕ) (c : WritesFrom rule way t s d w f) where
    pub lent_refused_writing_leaves_all : (x : Refusal) → w ≡ Err x → f ≡ d
    lent_refused_writing_leaves_all x h = guarded.refused_leaves rule way t s d w f c x h

    pub lent_cuts_no_number : Lent t → (w ≡ not_exact) ↔ (Uncut t → ⊥)
    lent_cuts_no_number l = guarded.writing_cuts_nothing rule way t s d w f c l

    pub lent_accepted_writing_puts : (n : ℕ) → w ≡ Ok n → PutInFront (image_of rule way s (tables_from t)) d n f
    lent_accepted_writing_puts n h = rules.accepted_writing_puts rule way (tables_from t) s d w f (guarded.accepted_writes rule way t s d w f c n h) n h

    pub lent_written_reads_back : Octets s → Octets d → length d ≤ 65535 → Words t → Each Unknown (used_of (tables_from t)).profiles → (n : ℕ) → w ≡ Ok n
        → (t' e' : List ℕ) (r' : Told) → Lent t' → ReadInto rule (read_leading rule f) t' e' r' → ReadsBack way (tables_from t) s n f (record { answer = r'; tables = tables_from e' })
    lent_written_reads_back o od small y u n h t' e' r' l c' =
        let typed = told_typed t y in
        let x = guarded.accepted_writes rule way t s d w f c n h in
        let of : Octets f = subst Octets (sym x.leaves) (output_octets rule way (tables_from t) s d o od typed n (sym x.answers ∙ h)) in
        reading.lent_read_back rule way (read_leading rule f) (leading_good rule f of) (tables_from t) s n f (rules.written_reads_back rule way (tables_from t) s d w f x o od small typed u n h _ refl) t' e' r' l c'

    pub lent_image_reads_back : Octets s → Words t → Each Unknown (used_of (tables_from t)).profiles → (n : ℕ) → w ≡ Ok n
        → (t' e' : List ℕ) (r' : Told) → Lent t' → ReadInto rule (read_whole rule (take n f)) t' e' r'
        → ReadsBack way (tables_from t) s n (take n f) (record { answer = r'; tables = tables_from e' })
    lent_image_reads_back o y u n h t' e' r' l c' =
        let typed = told_typed t y in
        let x = guarded.accepted_writes rule way t s d w f c n h in
        let ox : Octets (take n f) = subst Octets (sym (lent_accepted_writing_puts n h).front) (rules.image_octets rule way (tables_from t) s d w f x o typed n h) in
        reading.lent_read_back rule way (read_whole rule (take n f)) (whole_good rule (take n f) ox) (tables_from t) s n (take n f)
        (rules.image_reads_back rule way (tables_from t) s d w f x o typed u n h _ refl) t' e' r' l c'

    pub lent_length_is_written : (q : Told) → q ≡ measured_from rule t s → LengthIsWritten (255 ∷ 6 ∷ 8 ∷ 9 ∷ 10 ∷ []) (image_of rule way s (tables_from t)) q w
    lent_length_is_written q h = guarded.length_is_written rule way t s d w f c q h

    pub lent_only_used_matter : (t' : List ℕ) → SameEntries t t' → (w' : Told) (f' : List ℕ) → WritesFrom rule way t' s d w' f' → (measured_from rule t s ≡ measured_from rule t' s) × (w ≡ w') × (f ≡ f')
    lent_only_used_matter t' h w' f' c' = guarded.only_used_matter rule way t t' h s d w w' f f' c c'

module _ (rule : TypeIdRule) where
  pub lent_determined_read_leading : (s t e e' : List ℕ) (r r' : Told) → ReadInto rule (read_leading rule s) t e r → ReadInto rule (read_leading rule s) t e' r' → (r ≡ r') × (e ≡ e')
  lent_determined_read_leading s t e e' r r' p q = determined.leading_into_determined rule s t p q

  pub lent_determined_read_whole : (s t e e' : List ℕ) (r r' : Told) → ReadInto rule (read_whole rule s) t e r → ReadInto rule (read_whole rule s) t e' r' → (r ≡ r') × (e ≡ e')
  lent_determined_read_whole s t e e' r r' p q = determined.whole_into_determined rule s t p q

  pub lent_determined_image_length : (t s : List ℕ) (r r' : Told) → r ≡ measured_from rule t s → r' ≡ measured_from rule t s → r ≡ r'
  lent_determined_image_length t s r r' p q = p ∙ sym q

module _ (rule : TypeIdRule) (way : AddressWay) where
  pub lent_determined_write : (t s d : List ℕ) (r r' : Told) (e e' : List ℕ) → WritesFrom rule way t s d r e → WritesFrom rule way t s d r' e' → (r ≡ r') × (e ≡ e')
  lent_determined_write t s d r r' e e' p q = (p.answers ∙ sym q.answers, p.leaves ∙ sym q.leaves)
