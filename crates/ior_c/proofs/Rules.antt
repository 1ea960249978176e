-- The promises of the functions that firmware links, over the rule for type ids and the way an address is written, each proved once (document 02, No. 11).
-- What a theorem says in words stands in `Demands`, where those of the functions that name neither are its instances. Assumes nothing.
use Prim.Native.Nat.{ℕ, ◌+◌, ◌<◌, ◌≤◌}
use mathlib.Core.Path.{◌≡◌, refl, sym, ap, ◌∙◌, subst}
use mathlib.Core.Bool.{true}
use mathlib.Core.Logic.{◌≢◌, ◌↔◌}
use mathlib.Core.List.{List, [], ◌∷◌, ◌++◌}
use native.Mathlib.Omega.{arith}
use lib.ListN.{length, take, get_or, replicate}
use Rattle.reference.specs.declared.TypeIdRule.{TypeIdRule}
use Rattle.reference.specs.declared.AddressWay.{AddressWay}
use Rattle.reference.specs.declared.AddressWay.TheVariants.{Constants}
use Rattle.octets.specs.Octets.{Octets, Each}
use Rattle.std.specs.Prelude.{Ok, Err}
use Rattle.reference.specs.declared.Refusal.{Refusal}
use Rattle.reference.specs.Meaning.{Reference}
use Rattle.reference.specs.Layout.{Leads}
use Rattle.reference.specs.Checks.{Among}
use Rattle.reference.specs.Where.{Points, Alike}
use Rattle.reference.specs.Steps.{Answer}
use Rattle.reference.specs.Reader.{read_leading, read_whole, answered}
use Rattle.reference.specs.Used.{Used}
use Rattle.reference.specs.Placed.{tables_of}
use Rattle.reference.specs.Tabled.{used_of}
use Rattle.reference.specs.Typed.{Unknown}
use Rattle.reference.specs.Writer.{image_of, written}
use Rattle.reference.specs.Promises.{taking, GivesBack, ReadsBack, PutInFront, SameUsed}
use Rattle.reference.proofs.Accept.{exactly, whole}
use Rattle.reference.proofs.Cases.{by_test, by_answer}
use Rattle.reference.proofs.Numbers.{leading_numbers, whole_numbers}
use Rattle.reference.proofs.Promised as promised
use Rattle.reference.proofs.Blame as blame
use Rattle.reference.proofs.Written.{output_reads_back, written_reads_whole, image_octets, output_octets}
use Rattle.reference.proofs.Measured.{refused_writing_leaves_all, accepted_writing_puts}
use Rattle.table.specs.Region.{Words}
use Rattle.table.specs.Flat.{tables_from, table_size, Lent}
use Rattle.table.specs.Filed.{SameEntries}
use Rattle.table.proofs.Typed.{told_typed}
use Rattle.survey.specs.Uncut.{Uncut}
use Rattle.reading.specs.Into.{table_left}
use Rattle.reading.specs.Lent.{ShowsInto}
use Rattle.reading.proofs.Valued.{leading_good, whole_good}
use Rattle.reading.proofs.Lent.{Taken, leading_taken, same_taken, lent_read_back}
use Rattle.ior_c.specs.Said.{answer_size, number_of, numbers_of, askable}
use Rattle.ior_c.specs.Calls.{IorRead, IorReadWhole, IorLength, IorWrite}
use Rattle.ior_c.specs.Promises.{SameLength, Day, Kept}
use Rattle.ior_c.proofs.Calls.{asked_given, unasked_given, unasked_told, unaskable_exactly, tells_alike, gives_alike}
use Rattle.ior_c.proofs.Readings as reading
use Rattle.ior_c.proofs.Writings as writing
use Rattle.ior_c.proofs.Day as day

module _ (rule : TypeIdRule) where
  module _ (s : List ℕ) (o : Octets s) (t a : List ℕ) (r : ℕ) (b e : List ℕ) (c : IorRead rule s t a r b e) where
    taken : (z : r ≡ 0) → (k : reading.ReadZero rule (read_leading rule s) t a b e) × (Taken rule s t e (get_or b 4 0))
    taken z =
        let k = reading.read_zero rule (read_leading rule s) (reading.leading rule s) t a r b e c z in
        let q : k.count ≡ get_or b 4 0 = sym (ap (λ (v : List ℕ). get_or v 4 0) k.told) in
        (k, leading_taken rule s o t e k.lent (Ok k.count) (get_or b 4 0) (ap Ok q) k.into)

    zeros : reading.ReadZero rule (read_leading rule s) t a b e → numbers_of (Ok (get_or b 4 0)) ≡ b
    zeros k = ap (λ (i : List ℕ). numbers_of (Ok (get_or i 4 0))) k.told ∙ sym k.told

    pub c_accepts_exactly : Lent t → length a ≡ answer_size → length s ≤ 65535 → (n : ℕ) (u : Used)
        → ((r ≡ 0) × (get_or b 4 0 ≡ n) × (used_of (tables_from e) ≡ u)) ↔ ((m : Reference) × (Leads rule s m n) × (u ≡ tables_of rule m))
    c_accepts_exactly l f small n u =
        let x = reading.read_exactly rule (read_leading rule s) (reading.leading rule s) t a r b e c l f (leading_good rule s o) n u in (
          λ h. let (m, q, p) = x.0 h in (m, (exactly rule s o small m n).0 q, p),
          λ h. x.1 (h.0, (exactly rule s o small h.0 n).1 h.1, h.2),
        )

    pub c_views_show_their_fields : r ≡ 0 → (m : Reference) × (Leads rule s m (get_or b 4 0)) × (ShowsInto rule s m t e)
    c_views_show_their_fields z = let k = (taken z).1 in (k.meaning, k.leads, k.shows)

    pub c_unasked_reading_leaves_all : r ≡ 255 → (b ≡ a) × (e ≡ t)
    c_unasked_reading_leaves_all z = reading.read_unasked rule (read_leading rule s) (reading.leading rule s) t a r b e c z

    pub c_refused_reading_is_empty : r ≢ 0 → r ≢ 255 → (x : Refusal) × (r ≡ x.number) × (Among r (1 ∷ 2 ∷ 3 ∷ 4 ∷ 6 ∷ 7 ∷ [])) × (b ≡ numbers_of (Err x)) × (e ≡ replicate table_size 0)
    c_refused_reading_is_empty z w =
        let (x, q, n, told, left) = reading.read_refused rule (read_leading rule s) (reading.leading rule s) t a r b e c z w in
        (x, n, subst (λ (i : ℕ). Among i (1 ∷ 2 ∷ 3 ∷ 4 ∷ 6 ∷ 7 ∷ [])) (sym n) (leading_numbers rule s x q), told, left)

    pub c_offset_inside : r ≢ 0 → r ≢ 255 → (x : Refusal) × (b ≡ numbers_of (Err x)) × (Points rule s x)
    c_offset_inside z w = let (x, q, n, told, left) = reading.read_refused rule (read_leading rule s) (reading.leading rule s) t a r b e c z w in (x, told, blame.leading_points rule s x q)

    pub c_blamed : Among r (3 ∷ 4 ∷ []) → (x : Refusal) × (b ≡ numbers_of (Err x))
        × ((s' : List ℕ) → Alike rule s s' x → (t' a' : List ℕ) (r' : ℕ) (b' e' : List ℕ) → Lent t' → length a' ≡ answer_size → IorRead rule s' t' a' r' b' e' → (r' ≡ r) × (b' ≡ b))
    c_blamed h =
        let (x, q, k, n, told) = reading.read_wrong rule (read_leading rule s) (reading.leading rule s) t a r b e c h in (
          x,
          told,
          λ s' l t' a' r' b' e' lent six c'.
              let (m, v) = reading.refused_told rule (read_leading rule s') (reading.leading rule s') t' a' r' b' e' c' (blame.leading_blamed rule s s' x k l q) lent six in
              (m ∙ sym n, v ∙ sym told),
        )

    counted : r ≡ 0 → (answered rule (read_leading rule s)).answer ≡ Ok (get_or b 4 0)
    counted z = let k = (taken z).0 in sym k.into.answers ∙ ap Ok (sym (ap (λ (v : List ℕ). get_or v 4 0) k.told))

    pub c_cut_short : r ≡ 0 → (j : ℕ) → j < get_or b 4 0 → (t' a' : List ℕ) (r' : ℕ) (b' e' : List ℕ) → Lent t' → length a' ≡ answer_size → IorRead rule (take j s) t' a' r' b' e' → Among r' (1 ∷ 2 ∷ [])
    c_cut_short z j lt t' a' r' b' e' l six w =
        reading.cut_told rule (read_leading rule (take j s)) (reading.leading rule (take j s)) t' a' r' b' e' w (promised.cut_short rule s o (get_or b 4 0) (counted z) j lt) l six

    pub c_whole_cut_short : r ≡ 0 → (j : ℕ) → j < get_or b 4 0 → (t' a' : List ℕ) (r' : ℕ) (b' e' : List ℕ) → Lent t' → length a' ≡ answer_size → IorReadWhole rule (take j s) t' a' r' b' e' → Among r' (1 ∷ 2 ∷ [])
    c_whole_cut_short z j lt t' a' r' b' e' l six w =
        reading.cut_told rule (read_whole rule (take j s)) (reading.wholly rule (take j s)) t' a' r' b' e' w (promised.whole_cut_short rule s o (get_or b 4 0) (counted z) j lt) l six

    pub c_behind : r ≡ 0 → (x : List ℕ) → Octets x → get_or b 4 0 + length x ≤ 65535 → (t' a' : List ℕ) (r' : ℕ) (b' e' : List ℕ) → Lent t' → length a' ≡ answer_size
        → IorRead rule (take (get_or b 4 0) s ++ x) t' a' r' b' e' → (r' ≡ 0) × (b' ≡ b) × (SameUsed (tables_from e') (tables_from e)) × (t' ≡ t → e' ≡ e)
    c_behind z x ox small t' a' r' b' e' l six w =
        let n = get_or b 4 0 in
        let (k, v) = taken z in
        let told : (answered rule (read_leading rule s)).answer ≡ Ok n = counted z in
        let same = promised.behind rule s x o ox n told small in
        let (p, q, i) = reading.read_sized rule (read_leading rule s) (reading.leading rule s) t' a' r' b' e' (subst (λ (y : Answer Reference). reading.Reads rule y t' a' r' b' e') same w) l six in (
          p ∙ ap number_of told,
          q ∙ ap numbers_of told ∙ zeros k,
          same_taken rule s o v (leading_taken rule s o t' e' l (answered rule (read_leading rule s)).answer n told i),
          λ h. i.leaves ∙ ap (λ (y : List ℕ). table_left rule (read_leading rule s) y) h ∙ sym k.into.leaves,
        )

    pub c_read_is_askable : r ≡ 0 → askable e answer_size ≡ true
    c_read_is_askable z = let (k, w) = taken z in writing.left_askable rule s t e (get_or b 4 0) k.lent w answer_size refl

    pub c_write_after_read_is_asked : (way : AddressWay) → r ≡ 0 → (s' d a' : List ℕ) (r' : ℕ) (b' f : List ℕ) → length a' ≡ answer_size → IorWrite rule way e s' d a' r' b' f → r' ≢ 255
    c_write_after_read_is_asked way z s' d a' r' b' f six w never =
        let (k, x) = taken z in
        let no = (writing.writing_unasked rule way e s' a' r' b' d f w).0 never in
        let yes = writing.left_askable rule s t e (get_or b 4 0) k.lent x (length a') six in
        let i : ◌≡◌ {A = ℕ} 0 1 = cc in
        omega arith

    pub c_length_is_read : r ≡ 0 → (a' : List ℕ) (r' : ℕ) (b' : List ℕ) → length a' ≡ answer_size → IorLength rule e s a' r' b' → (r' ≡ 0) × (b' ≡ b)
    c_length_is_read z a' r' b' six w =
        let (k, x) = taken z in
        let (p, q) = writing.left_measured rule s t e (get_or b 4 0) k.lent x a' r' b' six w in
        (p, q ∙ zeros k)

    pub c_write_gives_back : (way : AddressWay) → r ≡ 0 → (d a' : List ℕ) (r' : ℕ) (b' f : List ℕ) → length a' ≡ answer_size → get_or b 4 0 ≤ length d → IorWrite rule way e s d a' r' b' f
        → (m : Reference) × (Leads rule s m (get_or b 4 0)) × (r' ≡ 0) × (b' ≡ b) × (GivesBack rule way s m (get_or b 4 0) d f)
    c_write_gives_back way z d a' r' b' f six room w =
        let (k, x) = taken z in
        let (p, q, l, g) = writing.left_written rule way s t e (get_or b 4 0) k.lent x d a' r' b' f six room w in
        (x.meaning, x.leads, p, q ∙ zeros k, g)

  module _ (s : List ℕ) (o : Octets s) (t a : List ℕ) (r : ℕ) (b e : List ℕ) (c : IorReadWhole rule s t a r b e) where
    pub c_accepts_whole_exactly : Lent t → length a ≡ answer_size → length s ≤ 65535 → (n : ℕ) (u : Used)
        → ((r ≡ 0) × (get_or b 4 0 ≡ n) × (used_of (tables_from e) ≡ u)) ↔ ((m : Reference) × (Leads rule s m n) × (n ≡ length s) × (u ≡ tables_of rule m))
    c_accepts_whole_exactly l f small n u =
        let x = reading.read_exactly rule (read_whole rule s) (reading.wholly rule s) t a r b e c l f (whole_good rule s o) n u in (
          λ h. let (m, q, p) = x.0 h in let w = (whole rule s o small m n).0 q in (m, w.0, w.1, p),
          λ h. x.1 (h.0, (whole rule s o small h.0 n).1 (h.1, h.2), h.3),
        )

    pub c_whole_is_leading : r ≡ 0 → (IorRead rule s t a r b e) × (get_or b 4 0 ≡ length s)
    c_whole_is_leading z = reading.whole_is_leading rule s o t a r b e c z

    pub c_unasked_whole_leaves_all : r ≡ 255 → (b ≡ a) × (e ≡ t)
    c_unasked_whole_leaves_all z = reading.read_unasked rule (read_whole rule s) (reading.wholly rule s) t a r b e c z

    pub c_refused_whole_is_empty : r ≢ 0 → r ≢ 255 → (x : Refusal) × (r ≡ x.number) × (Among r (1 ∷ 2 ∷ 3 ∷ 4 ∷ 6 ∷ 7 ∷ [])) × (b ≡ numbers_of (Err x)) × (e ≡ replicate table_size 0)
    c_refused_whole_is_empty z w =
        let (x, q, n, told, left) = reading.read_refused rule (read_whole rule s) (reading.wholly rule s) t a r b e c z w in
        (x, n, subst (λ (i : ℕ). Among i (1 ∷ 2 ∷ 3 ∷ 4 ∷ 6 ∷ 7 ∷ [])) (sym n) (whole_numbers rule s x q), told, left)

    pub c_whole_offset_inside : r ≢ 0 → r ≢ 255 → (x : Refusal) × (b ≡ numbers_of (Err x)) × (Points rule s x)
    c_whole_offset_inside z w = let (x, q, n, told, left) = reading.read_refused rule (read_whole rule s) (reading.wholly rule s) t a r b e c z w in (x, told, blame.whole_points rule s x q)

    pub c_whole_blamed : Among r (3 ∷ 4 ∷ []) → (x : Refusal) × (b ≡ numbers_of (Err x))
        × ((s' : List ℕ) → Alike rule s s' x → (t' a' : List ℕ) (r' : ℕ) (b' e' : List ℕ) → Lent t' → length a' ≡ answer_size → IorReadWhole rule s' t' a' r' b' e' → (r' ≡ r) × (b' ≡ b))
    c_whole_blamed h =
        let (x, q, k, n, told) = reading.read_wrong rule (read_whole rule s) (reading.wholly rule s) t a r b e c h in (
          x,
          told,
          λ s' l t' a' r' b' e' lent six c'.
              let (m, v) = reading.refused_told rule (read_whole rule s') (reading.wholly rule s') t' a' r' b' e' c' (blame.whole_blamed rule s s' x k l q) lent six in
              (m ∙ sym n, v ∙ sym told),
        )

  module _ (t s a : List ℕ) (r : ℕ) (b : List ℕ) (c : IorLength rule t s a r b) where
    pub c_unasked_measuring_leaves_all : r ≡ 255 → b ≡ a
    c_unasked_measuring_leaves_all z = (unasked_told c ((writing.measuring_unasked rule t s a r b c).0 z)).1

    pub c_measuring_cuts_no_number : Lent t → length a ≡ answer_size → (r ≡ 255) ↔ (Uncut t → ⊥)
    c_measuring_cuts_no_number l six =
        let u = writing.measuring_unasked rule t s a r b c in
        let x = unaskable_exactly t (length a) l six in
        (λ z. x.0 (u.0 z), λ never. u.1 (x.1 never))

    pub c_only_used_measured : (t' : List ℕ) → length t ≡ length t' → SameEntries t t' → (r' : ℕ) (b' : List ℕ) → IorLength rule t' s a r' b' → (r ≡ r') × (b ≡ b')
    c_only_used_measured t' l h r' b' c' =
        let x = writing.alike rule Constants t t' l h s s (length a) in
        tells_alike x.0 (ap number_of x.1.measures) (ap numbers_of x.1.measures) c c'

module _ (rule : TypeIdRule) (way : AddressWay) where
  module _ (t s d a : List ℕ) (r : ℕ) (b f : List ℕ) (c : IorWrite rule way t s d a r b f) where
    pub c_refused_writing_leaves_all : r ≢ 0 → f ≡ d
    c_refused_writing_leaves_all z =
        by_test (askable t (length a)) (λ h.
        let (p, q, l) = asked_given c h in
        by_answer (written rule (tables_from t) s d) (λ n e. absurd (z (p ∙ ap number_of e))) (λ y e. l ∙ refused_writing_leaves_all rule way (tables_from t) s d y e))
        (λ h. (unasked_given c h).2)

    pub c_unasked_writing_leaves_all : r ≡ 255 → (b ≡ a) × (f ≡ d)
    c_unasked_writing_leaves_all z = let (n, p, q) = unasked_given c ((writing.writing_unasked rule way t s a r b d f c).0 z) in (p, q)

    pub c_cuts_no_number : Lent t → length a ≡ answer_size → (r ≡ 255) ↔ (Uncut t → ⊥)
    c_cuts_no_number l six =
        let u = writing.writing_unasked rule way t s a r b d f c in
        let x = unaskable_exactly t (length a) l six in
        (λ z. x.0 (u.0 z), λ never. u.1 (x.1 never))

    pub c_accepted_writing_puts : r ≡ 0 → PutInFront (image_of rule way s (tables_from t)) d (get_or b 4 0) f
    c_accepted_writing_puts z =
        let (h, w, e, l) = writing.write_zero rule way t s d a r b f c z in
        subst (PutInFront (image_of rule way s (tables_from t)) d (get_or b 4 0)) (sym l) (accepted_writing_puts rule way (tables_from t) s d (get_or b 4 0) e)

    pub c_written_reads_back : Octets s → Octets d → length d ≤ 65535 → Words t → Each Unknown (used_of (tables_from t)).profiles → r ≡ 0
        → (t' a' : List ℕ) (r' : ℕ) (b' e' : List ℕ) → Lent t' → length a' ≡ answer_size → IorRead rule f t' a' r' b' e'
        → (r' ≡ 0) × (b' ≡ b) × (ReadsBack way (tables_from t) s (get_or b 4 0) f (taking (get_or b 4 0) (tables_from e')))
    c_written_reads_back o od small y u z t' a' r' b' e' l six w =
        let (h, v, e, q) = writing.write_zero rule way t s d a r b f c z in
        let n = get_or b 4 0 in
        let typed = told_typed t y in
        let of : Octets f = subst Octets (sym q) (output_octets rule way (tables_from t) s d o od typed n e) in
        let back : ReadsBack way (tables_from t) s n f (answered rule (read_leading rule f)) =
        subst (λ (x : List ℕ). ReadsBack way (tables_from t) s n x (answered rule (read_leading rule x))) (sym q) (output_reads_back rule way (tables_from t) s d o od small typed u n e) in
        let (p, g, i) = reading.read_sized rule (read_leading rule f) (reading.leading rule f) t' a' r' b' e' w l six in
        let k = lent_read_back rule way (read_leading rule f) (leading_good rule f of) (tables_from t) s n f back t' e' (answered rule (read_leading rule f)).answer l i in
        (p ∙ ap number_of k.answers, g ∙ ap numbers_of k.answers ∙ sym v, record { answers = refl; says = k.says; means = k.means })

    pub c_image_reads_back : Octets s → Words t → Each Unknown (used_of (tables_from t)).profiles → r ≡ 0
        → (t' a' : List ℕ) (r' : ℕ) (b' e' : List ℕ) → Lent t' → length a' ≡ answer_size → IorReadWhole rule (take (get_or b 4 0) f) t' a' r' b' e'
        → (r' ≡ 0) × (b' ≡ b) × (ReadsBack way (tables_from t) s (get_or b 4 0) (take (get_or b 4 0) f) (taking (get_or b 4 0) (tables_from e')))
    c_image_reads_back o y u z t' a' r' b' e' l six w =
        let (h, v, e, q) = writing.write_zero rule way t s d a r b f c z in
        let n = get_or b 4 0 in
        let x = take n f in
        let typed = told_typed t y in
        let j = sym (c_accepted_writing_puts z).front in
        let ox : Octets x = subst Octets j (image_octets rule way (tables_from t) s d o typed n e) in
        let back : ReadsBack way (tables_from t) s n x (answered rule (read_whole rule x)) =
        subst (λ (i : List ℕ). ReadsBack way (tables_from t) s n i (answered rule (read_whole rule i))) j (written_reads_whole rule way (tables_from t) s d o typed u n e) in
        let (p, g, i) = reading.read_sized rule (read_whole rule x) (reading.wholly rule x) t' a' r' b' e' w l six in
        let k = lent_read_back rule way (read_whole rule x) (whole_good rule x ox) (tables_from t) s n x back t' e' (answered rule (read_whole rule x)).answer l i in
        (p ∙ ap number_of k.answers, g ∙ ap numbers_of k.answers ∙ sym v, record { answers = refl; says = k.says; means = k.means })

    pub c_length_is_written : (a' : List ℕ) (q : ℕ) (b' : List ℕ) → length a' ≡ length a → IorLength rule t s a' q b' → SameLength (image_of rule way s (tables_from t)) q b' r b
    c_length_is_written a' q b' alike w = writing.same_length rule way t s d a r b f c a' q b' alike w

    pub c_only_used_matter : (t' : List ℕ) → length t ≡ length t' → SameEntries t t' → (r' : ℕ) (b' f' : List ℕ) → IorWrite rule way t' s d a r' b' f' → (r ≡ r') × (b ≡ b') × (f ≡ f')
    c_only_used_matter t' l h r' b' f' c' =
        let x = writing.alike rule way t t' l h s d (length a) in
        gives_alike x.0 x.1.answers x.1.leave c c'

  pub through_the_day : (s : List ℕ) → Octets s → (d : Day rule way s) → (m : Reference) × (Leads rule s m (length s)) × (Kept rule way s d m)
  through_the_day s o d = day.kept rule way s o d

module _ (rule : TypeIdRule) where
  pub c_determined_read_leading : (s t a : List ℕ) (r r' : ℕ) (b b' e e' : List ℕ) → IorRead rule s t a r b e → IorRead rule s t a r' b' e' → (r ≡ r') × (b ≡ b') × (e ≡ e')
  c_determined_read_leading s t a r r' b b' e e' p q = gives_alike refl refl refl p q

  pub c_determined_read_whole : (s t a : List ℕ) (r r' : ℕ) (b b' e e' : List ℕ) → IorReadWhole rule s t a r b e → IorReadWhole rule s t a r' b' e' → (r ≡ r') × (b ≡ b') × (e ≡ e')
  c_determined_read_whole s t a r r' b b' e e' p q = gives_alike refl refl refl p q

  pub c_determined_image_length : (t s a : List ℕ) (r r' : ℕ) (b b' : List ℕ) → IorLength rule t s a r b → IorLength rule t s a r' b' → (r ≡ r') × (b ≡ b')
  c_determined_image_length t s a r r' b b' p q = tells_alike refl refl refl p q

module _ (rule : TypeIdRule) (way : AddressWay) where
  pub c_determined_write : (t s d a : List ℕ) (r r' : ℕ) (b b' f f' : List ℕ) → IorWrite rule way t s d a r b f → IorWrite rule way t s d a r' b' f' → (r ≡ r') × (b ≡ b') × (f ≡ f')
  c_determined_write t s d a r r' b b' f f' p q = gives_alike refl refl refl p q
