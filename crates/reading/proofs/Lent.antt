-- The lent table that an accepted reading leaves: its used entries are the reference's, its other entries are as before; and a refused reading leaves
-- zeros. Assumes nothing.
use Prim.Native.Nat.{ℕ, ◌≤◌}
use mathlib.Core.Path.{◌≡◌, sym, ap, ◌∙◌, subst}
use mathlib.Core.Logic.{◌↔◌}
use mathlib.Core.List.{List}
use lib.ListN.{length, replicate}
use Rattle.reference.specs.declared.TypeIdRule.{TypeIdRule}
use Rattle.reference.specs.declared.AddressWay.{AddressWay}
use Rattle.octets.specs.Octets.{Octets, splice}
use Rattle.reference.specs.Refusals.{Told}
use Rattle.std.specs.Prelude.{Ok, Err}
use Rattle.reference.specs.declared.Refusal.{Refusal}
use Rattle.reference.specs.declared.Tables.{Tables}
use Rattle.reference.specs.Meaning.{Reference, Room}
use Rattle.reference.specs.Layout.{WellFormed, Leads}
use Rattle.reference.specs.Steps.{Answer, ok}
use Rattle.reference.specs.Reader.{read_leading, read_whole, answered}
use Rattle.reference.specs.Used.{Used}
use Rattle.reference.specs.Contents.{contents}
use Rattle.reference.specs.Placed.{tables_of}
use Rattle.reference.specs.Tabled.{tabled, no_tables, used_of}
use Rattle.reference.specs.Writer.{written, leaves}
use Rattle.reference.specs.Promises.{SameUsed, GivesBack, ReadsBack}
use Rattle.reference.proofs.Accept.{only_accepted, only_whole, whole_leads, unique}
use Rattle.reference.proofs.Fitting.{used_tabled, sums}
use Rattle.reference.proofs.Promised.{counts, refuses}
use Rattle.reference.proofs.Same.{same_both, same_saying, used_agrees, used_shows, used_given_back}
use Rattle.table.specs.Flat.{tables_from, Lent, table_size}
use Rattle.table.specs.Filed.{reference_filed}
use Rattle.table.proofs.Lent.{read_files, read_length}
use Rattle.table_struct.proofs.Accepted as accepted
use Rattle.table_struct.proofs.Back.{tables_cleared}
use Rattle.reading.specs.Into.{table_left, ReadInto}
use Rattle.reading.specs.Lent.{ShowsInto}

module _ (rule : TypeIdRule) where
  -- ---- the table

  module _ (t : List ℕ) (l : Lent t) (m : Reference) (w : WellFormed rule m) (room : Room m) where
    pub lent_shows : used_of (tables_from (reference_filed rule t m)) ≡ tables_of rule m
    lent_shows = accepted.lent_shows rule t l m w room

    -- used counts and used entries are those of the tables by value
    pub lent_same : SameUsed (tables_from (reference_filed rule t m)) (tabled (tables_of rule m))
    unfolding tables_from splice
    lent_same =
        let s = sums rule m in
        record {
          profiles = sym s.profiles;
          taps = sym s.taps;
          names = sym s.names;
          extras = sym s.extras;
          entries = lent_shows ∙ sym (used_tabled (tables_of rule m));
        }

    pub shows_into : (d : List ℕ) (n : ℕ) → Leads rule d m n → ShowsInto rule d m t (reference_filed rule t m)
    shows_into d n h =
        let e = reference_filed rule t m in
        let s = lent_same in
        record {
          long = read_length rule t l m room;
          stands = lent_shows;
          shows = λ way. used_shows rule way m (tables_from e) s d n h;
          agrees = used_agrees rule m (tables_from e) s;
          files = read_files rule t l m room;
        }

  -- ---- what an answer tells of the table

  module _ (x : Answer Reference) (t e : List ℕ) (r : Told) (h : ReadInto rule x t e r) where
    pub into_accepted : (n : ℕ) → r ≡ Ok n → (m : Reference) × (x ≡ ok m n) × (e ≡ reference_filed rule t m)
    into_accepted n c = let (m, q) = counts rule x n (sym h.answers ∙ c) in (m, q, h.leaves ∙ ap (λ (y : Answer Reference). table_left rule y t) q)

    pub into_accepts : (m : Reference) (n : ℕ) → x ≡ ok m n → (r ≡ Ok n) × (e ≡ reference_filed rule t m)
    into_accepts m n q = (h.answers ∙ ap (λ (y : Answer Reference). (answered rule y).answer) q, h.leaves ∙ ap (λ (y : Answer Reference). table_left rule y t) q)

    pub into_refused : (y : Refusal) → r ≡ Err y → (e ≡ replicate table_size 0) × (tables_from e ≡ no_tables)
    into_refused y c =
        let z = h.leaves ∙ ap (λ (v : Answer Reference). table_left rule v t) (refuses rule x y (sym h.answers ∙ c)) in
        (z, ap tables_from z ∙ tables_cleared)

    -- accepted with n octets and the used entries u exactly when the reader answers so
    pub into_exactly : Lent t → ((m : Reference) (n : ℕ) → x ≡ ok m n → (WellFormed rule m) × (Room m)) → (n : ℕ) (u : Used)
        → ((r ≡ Ok n) × (used_of (tables_from e) ≡ u)) ↔ ((m : Reference) × (x ≡ ok m n) × (u ≡ tables_of rule m))
    into_exactly l good n u = (
      λ c. let (m, q, p) = into_accepted n c.0 in (m, q, sym c.1 ∙ told m q p),
      λ c. let (a, p) = into_accepts c.0 n c.1 in (a, told c.0 c.1 p ∙ sym c.2),
    )
      where
        told : (m : Reference) {n : ℕ} → x ≡ ok m n → e ≡ reference_filed rule t m → used_of (tables_from e) ≡ tables_of rule m
        told m {n} q p = let g = good m n q in ap (λ (y : List ℕ). used_of (tables_from y)) p ∙ lent_shows t l m g.0 g.1

  -- what the whole reading accepts, the leading reading accepts with the same answer and table
  pub whole_into : (s : List ℕ) → Octets s → (t e : List ℕ) (r : Told) (n : ℕ) → r ≡ Ok n → ReadInto rule (read_whole rule s) t e r → (ReadInto rule (read_leading rule s) t e r) × (n ≡ length s)
  whole_into s o t e r n c h =
      let (m, q, p) = into_accepted (read_whole rule s) t e r h n c in
      let same : read_whole rule s ≡ read_leading rule s = q ∙ sym (whole_leads rule s o m n q) in
      (subst (λ (x : Answer Reference). ReadInto rule x t e r) same h, (only_whole rule s o m n q).2)

module _ (rule : TypeIdRule) where
  -- ---- an accepted reading of s into a table that held t: its meaning, the part, the table e that it left, and what writing that table gives

  pub record Taken (s t e : List ℕ) (n : ℕ) : Type 0 where
    pub meaning : Reference
    pub left : e ≡ reference_filed rule t meaning
    pub small : length s ≤ 65535
    pub leads : Leads rule s meaning n
    pub same : SameUsed (tables_from e) (tabled (tables_of rule meaning))
    pub shows : ShowsInto rule s meaning t e
    pub back : (way : AddressWay) (d : List ℕ) → n ≤ length d → (written rule (tables_from e) s d ≡ Ok n) × (GivesBack rule way s meaning n d (leaves rule way (tables_from e) s d))

  taken : (s : List ℕ) → Octets s → (t e : List ℕ) → Lent t → (m : Reference) (n : ℕ) → e ≡ reference_filed rule t m → length s ≤ 65535 → Leads rule s m n → Taken s t e n
  taken s o t e l m n p small h =
      let f = reference_filed rule t m in
      let same = lent_same rule t l m h.formed h.room in
      record {
        meaning = m;
        left = p;
        small = small;
        leads = h;
        same = subst (λ (y : List ℕ). SameUsed (tables_from y) (tabled (tables_of rule m))) (sym p) same;
        shows = subst (ShowsInto rule s m t) (sym p) (shows_into rule t l m h.formed h.room s n h);
        back = λ way d room.
            subst (λ (y : List ℕ). (written rule (tables_from y) s d ≡ Ok n) × (GivesBack rule way s m n d (leaves rule way (tables_from y) s d))) (sym p)
            (used_given_back rule way m (tables_from f) same s n h o small d room);
      }

  module _ (s : List ℕ) (o : Octets s) (t e : List ℕ) (lent : Lent t) (r : Told) (n : ℕ) (c : r ≡ Ok n) where
    pub leading_taken : ReadInto rule (read_leading rule s) t e r → Taken s t e n
    leading_taken h =
        let (m, q, p) = into_accepted rule (read_leading rule s) t e r h n c in
        let (small, l) = only_accepted rule s o m n q in
        taken s o t e lent m n p small l

  -- two of the same octets tell the same, whatever the tables held
  pub same_taken : (s : List ℕ) → Octets s → {t e t' e' : List ℕ} {n : ℕ} → Taken s t e n → Taken s t' e' n → SameUsed (tables_from e') (tables_from e)
  same_taken s o {t} {e} {t'} {e'} {n} k k' =
      let q = (unique rule s o k'.meaning k.meaning n n k'.leads k.leads).0 in
      same_both (subst (λ (m : Reference). SameUsed (tables_from e') (tabled (tables_of rule m))) q k'.same) k.same

module _ (rule : TypeIdRule) (way : AddressWay) where
  -- ---- what is read back by value is read back into every lent table

  module _ (y : Answer Reference) (good : (m : Reference) (n : ℕ) → y ≡ ok m n → (WellFormed rule m) × (Room m)) where
    pub lent_read_back : (x : Tables) (s : List ℕ) (n : ℕ) (d : List ℕ) → ReadsBack way x s n d (answered rule y) → (t e : List ℕ) (r : Told) → Lent t → ReadInto rule y t e r
        → ReadsBack way x s n d (record { answer = r; tables = tables_from e })
    lent_read_back x s n d b t e r l h =
        let c = h.answers ∙ b.answers in
        let (m, q, p) = into_accepted rule y t e r h n c in
        let g = good m n q in
        let same : SameUsed (tables_from e) (answered rule y).tables =
        subst (λ (z : Answer Reference). SameUsed (tables_from e) (answered rule z).tables) (sym q)
        (subst (λ (z : List ℕ). SameUsed (tables_from z) (tabled (tables_of rule m))) (sym p) (lent_same rule t l m g.0 g.1)) in
        record {
          answers = c;
          says = same_saying d (tables_from e) (answered rule y).tables same ∙ b.says;
          means = ap (contents way d) same.entries ∙ b.means;
        }
