-- The promises of the calls that take a rule and a way, each proved once, over both (document 02, No. 11). What a theorem says in words stands in `Demands`,
-- where those of the calls that name neither are its instances. Assumes nothing.
use Prim.Native.Nat.{ℕ, ◌+◌, ◌<◌, ◌≤◌}
use mathlib.Core.Path.{◌≡◌, sym, ap, ◌∙◌, subst}
use mathlib.Core.List.{List, [], ◌∷◌, ◌++◌}
use mathlib.Core.Logic.{◌↔◌}
use lib.ListN.{length, take}
use Rattle.reference.specs.declared.TypeIdRule.{TypeIdRule}
use Rattle.reference.specs.declared.AddressWay.{AddressWay}
use Rattle.octets.specs.Octets.{Octets, Each}
use Rattle.reference.specs.Refusals.{Told}
use Rattle.std.specs.Prelude.{Ok, Err}
use Rattle.reference.specs.declared.Reading.{Reading}
use Rattle.reference.specs.declared.Refusal.{Refusal}
use Rattle.reference.specs.declared.Tables.{Tables}
use Rattle.reference.specs.Meaning.{Reference}
use Rattle.reference.specs.Layout.{Leads}
use Rattle.reference.specs.Steps.{Answer}
use Rattle.reference.specs.Reader.{read_leading, read_whole, answered}
use Rattle.reference.specs.Placed.{tables_of}
use Rattle.reference.specs.Tabled.{tabled, no_tables, used_of}
use Rattle.reference.specs.Typed.{Typed, Unknown}
use Rattle.reference.specs.Writer.{image_of, measured, written, leaves}
use Rattle.reference.specs.Checks.{Among}
use Rattle.reference.specs.Where.{Points, Alike}
use Rattle.reference.specs.Promises.{taking, ShowsFields, CutShort, GivesBack, ReadsBack, PutInFront, LengthIsWritten, SameUsed}
use Rattle.reference.proofs.Promised as promised
use Rattle.reference.proofs.Written as writtenly
use Rattle.reference.proofs.Measured as measuredly
use Rattle.writing.specs.Writes.{Writes}
use Rattle.reading.proofs.Determined as reading
use Rattle.writing.proofs.Determined as writing

module _ (rule : TypeIdRule) where
  module _ (s : List ℕ) (o : Octets s) where
    pub accepts_exactly : (r : Reading) → r ≡ answered rule (read_leading rule s) → length s ≤ 65535 → (n : ℕ) (t : Tables)
        → (r ≡ taking n t) ↔ ((m : Reference) × (Leads rule s m n) × (t ≡ tabled (tables_of rule m)))
    accepts_exactly r c small n t =
        let h = promised.accepts_exactly rule s o small n t in
        (λ e. h.0 (sym c ∙ e), λ w. c ∙ h.1 w)

    pub accepts_whole_exactly : (r : Reading) → r ≡ answered rule (read_whole rule s) → length s ≤ 65535 → (n : ℕ) (t : Tables)
        → (r ≡ taking n t) ↔ ((m : Reference) × (Leads rule s m n) × (n ≡ length s) × (t ≡ tabled (tables_of rule m)))
    accepts_whole_exactly r c small n t =
        let h = promised.accepts_whole_exactly rule s o small n t in
        (λ e. h.0 (sym c ∙ e), λ w. c ∙ h.1 w)

    pub whole_is_leading : (r : Reading) → r ≡ answered rule (read_whole rule s) → (n : ℕ) → r.answer ≡ Ok n → (r ≡ answered rule (read_leading rule s)) × (n ≡ length s)
    whole_is_leading r c n e = let (h, q) = promised.whole_is_leading rule s o n (sym (ap (λ (x : Reading). x.answer) c) ∙ e) in (c ∙ h, q)

    pub one_part_one_meaning : (m m' : Reference) (n n' : ℕ) → Leads rule s m n → Leads rule s m' n' → (m ≡ m') × (n ≡ n')
    one_part_one_meaning m m' n n' l l' = promised.one_part_one_meaning rule s o m m' n n' l l'

    pub views_show_their_fields : (r : Reading) → r ≡ answered rule (read_leading rule s) → (n : ℕ) → r.answer ≡ Ok n
        → (m : Reference) × (Leads rule s m n) × (ShowsFields rule s m r.tables)
    views_show_their_fields r c n e =
        let (m, l, f) = promised.views_show_their_fields rule s o n (sym (ap (λ (x : Reading). x.answer) c) ∙ e) in
        (m, l, subst (λ (x : Reading). ShowsFields rule s m x.tables) (sym c) f)

  pub refused_reading_is_empty : (s : List ℕ) (r : Reading) → r ≡ answered rule (read_leading rule s) → (x : Refusal) → r.answer ≡ Err x → r.tables ≡ no_tables
  refused_reading_is_empty s r c x e =
      ap (λ (y : Reading). y.tables) c ∙ promised.refused_reading_is_empty rule s x (sym (ap (λ (y : Reading). y.answer) c) ∙ e)

  pub refused_whole_is_empty : (s : List ℕ) (r : Reading) → r ≡ answered rule (read_whole rule s) → (x : Refusal) → r.answer ≡ Err x → r.tables ≡ no_tables
  refused_whole_is_empty s r c x e =
      ap (λ (y : Reading). y.tables) c ∙ promised.refused_whole_is_empty rule s x (sym (ap (λ (y : Reading). y.answer) c) ∙ e)

module _ (rule : TypeIdRule) where
  module _ (s : List ℕ) (o : Octets s) (r : Reading) (c : r ≡ answered rule (read_leading rule s)) (n : ℕ) (h : r.answer ≡ Ok n) where
    counted : (answered rule (read_leading rule s)).answer ≡ Ok n
    counted = sym (ap (λ (x : Reading). x.answer) c) ∙ h

    pub cut_short : (j : ℕ) → j < n → (q : Reading) → q ≡ answered rule (read_leading rule (take j s)) → CutShort q.answer
    cut_short j lt q e = subst (λ (x : Reading). CutShort x.answer) (sym e) (promised.cut_short rule s o n counted j lt)

    pub whole_cut_short : (j : ℕ) → j < n → (q : Reading) → q ≡ answered rule (read_whole rule (take j s)) → CutShort q.answer
    whole_cut_short j lt q e = subst (λ (x : Reading). CutShort x.answer) (sym e) (promised.whole_cut_short rule s o n counted j lt)

    pub behind : (x : List ℕ) → Octets x → n + length x ≤ 65535 → (q : Reading) → q ≡ answered rule (read_leading rule (take n s ++ x)) → q ≡ r
    behind x ox small q e = e ∙ ap (λ (a : Answer Reference). answered rule a) (promised.behind rule s x o ox n counted small) ∙ sym c

module _ (rule : TypeIdRule) (way : AddressWay) where
  pub write_gives_back : (s : List ℕ) → Octets s → (r : Reading) → r ≡ answered rule (read_leading rule s) → (n : ℕ) → r.answer ≡ Ok n
      → (d : List ℕ) (w : Told) (e : List ℕ) → Writes rule way r.tables s d w e → n ≤ length d → (m : Reference) × (Leads rule s m n) × (w ≡ Ok n) × (GivesBack rule way s m n d e)
  write_gives_back s o r c n h d w e x room =
      let q = ap (λ (y : Reading). y.tables) c in
      let (m, l, a, g) = promised.write_gives_back rule way s o n (sym (ap (λ (y : Reading). y.answer) c) ∙ h) d room in
      (m, l, x.answers ∙ ap (λ (y : Tables). written rule y s d) q ∙ a, subst (λ (y : List ℕ). GivesBack rule way s m n d y) (sym (x.leaves ∙ ap (λ (y : Tables). leaves rule way y s d) q)) g)

  module _ (t : Tables) (s d : List ℕ) (r : Told) (e : List ℕ) (w : Writes rule way t s d r e) where
    pub refused_writing_leaves_all : (x : Refusal) → r ≡ Err x → e ≡ d
    refused_writing_leaves_all x h = w.leaves ∙ measuredly.refused_writing_leaves_all rule way t s d x (sym w.answers ∙ h)

    pub accepted_writing_puts : (n : ℕ) → r ≡ Ok n → PutInFront (image_of rule way s t) d n e
    accepted_writing_puts n h = subst (PutInFront (image_of rule way s t) d n) (sym w.leaves) (measuredly.accepted_writing_puts rule way t s d n (sym w.answers ∙ h))

    pub written_reads_back : Octets s → Octets d → length d ≤ 65535 → Typed t → Each Unknown (used_of t).profiles → (n : ℕ) → r ≡ Ok n
        → (q : Reading) → q ≡ answered rule (read_leading rule e) → ReadsBack way t s n e q
    written_reads_back o od small y u n h q c =
        subst (ReadsBack way t s n e) (sym c)
        (subst (λ (x : List ℕ). ReadsBack way t s n x (answered rule (read_leading rule x))) (sym w.leaves) (writtenly.output_reads_back rule way t s d o od small y u n (sym w.answers ∙ h)))

    pub image_reads_back : Octets s → Typed t → Each Unknown (used_of t).profiles → (n : ℕ) → r ≡ Ok n → (q : Reading) → q ≡ answered rule (read_whole rule (take n e)) → ReadsBack way t s n (take n e) q
    image_reads_back o y u n h q c =
        subst (ReadsBack way t s n (take n e)) (sym c)
        (subst (λ (x : List ℕ). ReadsBack way t s n x (answered rule (read_whole rule x))) (sym (accepted_writing_puts n h).front)
        (writtenly.written_reads_whole rule way t s d o y u n (sym w.answers ∙ h)))

    pub image_octets : Octets s → Typed t → (n : ℕ) → r ≡ Ok n → Octets (image_of rule way s t)
    image_octets o y n h = writtenly.image_octets rule way t s d o y n (sym w.answers ∙ h)

    pub length_is_written : (q : Told) → q ≡ measured rule t s → LengthIsWritten (6 ∷ 8 ∷ 9 ∷ 10 ∷ []) (image_of rule way s t) q r
    length_is_written q h =
        subst (λ (x : Told). LengthIsWritten (6 ∷ 8 ∷ 9 ∷ 10 ∷ []) (image_of rule way s t) x r) (sym h)
        (subst (LengthIsWritten (6 ∷ 8 ∷ 9 ∷ 10 ∷ []) (image_of rule way s t) (measured rule t s)) (sym w.answers) (measuredly.length_is_written rule way t s d))

  pub only_used_matter : (t t' : Tables) → SameUsed t t' → (s d : List ℕ) (r r' : Told) (e e' : List ℕ) → Writes rule way t s d r e → Writes rule way t' s d r' e'
      → (measured rule t s ≡ measured rule t' s) × (r ≡ r') × (e ≡ e')
  only_used_matter t t' h s d r r' e e' w w' =
      let x = measuredly.only_used_matter rule way t t' h s d in
      (x.measures, w.answers ∙ x.answers ∙ sym w'.answers, w.leaves ∙ x.leave ∙ sym w'.leaves)

module _ (rule : TypeIdRule) where
  pub offset_inside : (s : List ℕ) (r : Reading) → r ≡ answered rule (read_leading rule s) → (x : Refusal) → r.answer ≡ Err x → Points rule s x
  offset_inside s r c x h = promised.offset_inside rule s x (sym (ap (λ (y : Reading). y.answer) c) ∙ h)

  pub whole_offset_inside : (s : List ℕ) (r : Reading) → r ≡ answered rule (read_whole rule s) → (x : Refusal) → r.answer ≡ Err x → Points rule s x
  whole_offset_inside s r c x h = promised.whole_offset_inside rule s x (sym (ap (λ (y : Reading). y.answer) c) ∙ h)

  pub blamed : (s : List ℕ) (r : Reading) → r ≡ answered rule (read_leading rule s) → (x : Refusal) → r.answer ≡ Err x → Among x.number (3 ∷ 4 ∷ [])
      → (s' : List ℕ) → Alike rule s s' x → (r' : Reading) → r' ≡ answered rule (read_leading rule s') → r'.answer ≡ Err x
  blamed s r c x h a s' l r' c' = ap (λ (y : Reading). y.answer) c' ∙ promised.blamed rule s s' x (sym (ap (λ (y : Reading). y.answer) c) ∙ h) a l

  pub whole_blamed : (s : List ℕ) (r : Reading) → r ≡ answered rule (read_whole rule s) → (x : Refusal) → r.answer ≡ Err x → Among x.number (3 ∷ 4 ∷ [])
      → (s' : List ℕ) → Alike rule s s' x → (r' : Reading) → r' ≡ answered rule (read_whole rule s') → r'.answer ≡ Err x
  whole_blamed s r c x h a s' l r' c' = ap (λ (y : Reading). y.answer) c' ∙ promised.whole_blamed rule s s' x (sym (ap (λ (y : Reading). y.answer) c) ∙ h) a l

  pub determined_read_leading : (s : List ℕ) (r r' : Reading) → r ≡ answered rule (read_leading rule s) → r' ≡ answered rule (read_leading rule s) → r ≡ r'
  determined_read_leading s r r' p q = reading.leading_determined rule s p q

  pub determined_read_whole : (s : List ℕ) (r r' : Reading) → r ≡ answered rule (read_whole rule s) → r' ≡ answered rule (read_whole rule s) → r ≡ r'
  determined_read_whole s r r' p q = reading.whole_determined rule s p q

  pub determined_image_length : (t : Tables) (s : List ℕ) (r r' : Told) → r ≡ measured rule t s → r' ≡ measured rule t s → r ≡ r'
  determined_image_length t s r r' p q = writing.length_determined rule t s p q

module _ (rule : TypeIdRule) (way : AddressWay) where
  pub determined_write : (t : Tables) (s d : List ℕ) (r r' : Told) (e e' : List ℕ) → Writes rule way t s d r e → Writes rule way t s d r' e' → (r ≡ r') × (e ≡ e')
  determined_write t s d r r' e e' p q = writing.write_determined rule way p q
