-- The promises of reading, and of reading and writing together, over what the public calls answer: `r ≡ answered (read_leading d)`, `written t s d` and
-- `leaves t s d`. The promises of writing alone stand in `Measured`. Assumes nothing.
use Prim.Native.Nat.{ℕ, ◌+◌, ◌<◌, ◌≤◌}
use mathlib.Core.Path.{◌≡◌, refl, sym, ap, ◌∙◌, subst}
use mathlib.Core.Logic.{◌↔◌, inl, inr, ⊎_elim}
use mathlib.Core.List.{List, [], ◌∷◌, ◌++◌}
use native.Mathlib.Omega.{arith}
use lib.ListN.{length, take}
use Rattle.octets.specs.Octets.{Octets}
use Rattle.reference.specs.declared.TypeIdRule.{TypeIdRule}
use Rattle.reference.specs.declared.AddressWay.{AddressWay}
use Rattle.reference.specs.declared.Tables.{Tables}
use Rattle.reference.specs.declared.Refusal.{Refusal}
use Rattle.reference.specs.declared.Reading.{Reading}
use Rattle.std.specs.Prelude.{Ok, Err}
use Rattle.reference.specs.Meaning.{Reference}
use Rattle.reference.specs.Layout.{Leads}
use Rattle.reference.specs.Steps.{Answer, ok, refused}
use Rattle.reference.specs.Reader.{read_leading, read_whole, answered}
use Rattle.reference.specs.Placed.{tables_of}
use Rattle.reference.specs.Tabled.{tabled, no_tables}
use Rattle.reference.specs.Writer.{written, leaves}
use Rattle.reference.specs.Checks.{Among}
use Rattle.reference.specs.Where.{Points, Alike}
use Rattle.reference.specs.Promises.{taking, ShowsFields, CutShort, GivesBack}
use Rattle.reference.proofs.Accept.{accepted, only_accepted, whole, only_whole, whole_leads, unique}
use Rattle.reference.proofs.Accept as accept
use Rattle.reference.proofs.Laws.{Short}
use Rattle.reference.proofs.Constants.{side}
use Rattle.reference.proofs.Shows.{fields_shown}
use Rattle.reference.proofs.Written.{part_given_back}
use Rattle.reference.proofs.Blame as blame

one_or_two : (n : ℕ) → (1 ≤ n) × (n ≤ 2) → Among n (1 ∷ 2 ∷ [])
one_or_two n h = ⊎_elim (λ e. inl (omega arith)) (λ e. inr (inl (omega arith))) (side n 1)

module _ (rule : TypeIdRule) where
  -- ---- from a declared answer to the definition's

  pub counts : (a : Answer Reference) (n : ℕ) → (answered rule a).answer ≡ Ok n → (m : Reference) × (a ≡ ok m n)
  counts (ok m k) n e = let q : k ≡ n = cc in (m, ap (λ (x : ℕ). ok m x) q)
  counts (refused x) n e = let z : ◌≡◌ {A = ℕ} 0 1 = cc in absurd (omega arith)

  pub refuses : (a : Answer Reference) (x : Refusal) → (answered rule a).answer ≡ Err x → a ≡ refused x
  refuses (ok m k) x e = let z : ◌≡◌ {A = ℕ} 0 1 = cc in absurd (omega arith)
  refuses (refused y) x e = let q : y ≡ x = cc in ap (λ (z : Refusal). refused z) q

  taken : (a : Answer Reference) (n : ℕ) (t : Tables) → answered rule a ≡ taking n t → (m : Reference) × (a ≡ ok m n) × (t ≡ tabled (tables_of rule m))
  taken a n t e =
      let (m, q) = counts a n (ap (λ (r : Reading). r.answer) e) in
      (m, q, sym (ap (λ (r : Reading). r.tables) e) ∙ ap (λ (x : Answer Reference). (answered rule x).tables) q)

  takes : (a : Answer Reference) (m : Reference) (n : ℕ) (t : Tables) → a ≡ ok m n → t ≡ tabled (tables_of rule m) → answered rule a ≡ taking n t
  takes a m n t e q = ap (λ (x : Answer Reference). answered rule x) e ∙ ap (λ (x : Tables). taking n x) (sym q)

  -- A slice of up to 65,535 octets is accepted by the leading reading with n octets and the tables t exactly when its first n octets are the layout of a
  -- well-formed meaning that fits the tables, and t are that meaning's.
  pub accepts_exactly : (d : List ℕ) → Octets d → length d ≤ 65535 → (n : ℕ) (t : Tables)
      → (answered rule (read_leading rule d) ≡ taking n t) ↔ ((m : Reference) × (Leads rule d m n) × (t ≡ tabled (tables_of rule m)))
  accepts_exactly d o small n t = (
    λ e. let (m, q, p) = taken (read_leading rule d) n t e in (m, (only_accepted rule d o m n q).1, p),
    λ h. takes (read_leading rule d) h.0 n t (accepted rule d o small h.0 n h.1) h.2,
  )

  -- The same of the whole slice, with n its length.
  pub accepts_whole_exactly : (d : List ℕ) → Octets d → length d ≤ 65535 → (n : ℕ) (t : Tables)
      → (answered rule (read_whole rule d) ≡ taking n t) ↔ ((m : Reference) × (Leads rule d m n) × (n ≡ length d) × (t ≡ tabled (tables_of rule m)))
  accepts_whole_exactly d o small n t = (
    λ e. let (m, q, p) = taken (read_whole rule d) n t e in let w = (whole rule d o small m n).0 q in (m, w.0, w.1, p),
    λ h. takes (read_whole rule d) h.0 n t ((whole rule d o small h.0 n).1 (h.1, h.2)) h.3,
  )

  -- What the whole reading accepts, the leading reading accepts with the same count and tables.
  pub whole_is_leading : (d : List ℕ) → Octets d → (n : ℕ) → (answered rule (read_whole rule d)).answer ≡ Ok n → (answered rule (read_whole rule d) ≡ answered rule (read_leading rule d)) × (n ≡ length d)
  whole_is_leading d o n e =
      let (m, q) = counts (read_whole rule d) n e in
      (ap (λ (a : Answer Reference). answered rule a) (q ∙ sym (whole_leads rule d o m n q)), (only_whole rule d o m n q).2)

  -- Part and meaning are unique.
  pub one_part_one_meaning : (d : List ℕ) → Octets d → (m m' : Reference) (n n' : ℕ) → Leads rule d m n → Leads rule d m' n' → (m ≡ m') × (n ≡ n')
  one_part_one_meaning d o m m' n n' l l' = unique rule d o m m' n n' l l'

  -- The tables of an accepted reading: each view shows the very octets of its field; unused entries are zero; the sums equal the used counts.
  pub views_show_their_fields : (d : List ℕ) → Octets d → (n : ℕ) → (answered rule (read_leading rule d)).answer ≡ Ok n
      → (m : Reference) × (Leads rule d m n) × (ShowsFields rule d m (answered rule (read_leading rule d)).tables)
  views_show_their_fields d o n e =
      let (m, q) = counts (read_leading rule d) n e in
      let l = (only_accepted rule d o m n q).1 in
      (m, l, subst (λ (a : Answer Reference). ShowsFields rule d m (answered rule a).tables) (sym q) (fields_shown rule d m n l))

  -- A refused reading gives the empty tables.
  pub refused_reading_is_empty : (d : List ℕ) (x : Refusal) → (answered rule (read_leading rule d)).answer ≡ Err x → (answered rule (read_leading rule d)).tables ≡ no_tables
  refused_reading_is_empty d x e = ap (λ (a : Answer Reference). (answered rule a).tables) (refuses (read_leading rule d) x e)

  pub refused_whole_is_empty : (d : List ℕ) (x : Refusal) → (answered rule (read_whole rule d)).answer ≡ Err x → (answered rule (read_whole rule d)).tables ≡ no_tables
  refused_whole_is_empty d x e = ap (λ (a : Answer Reference). (answered rule a).tables) (refuses (read_whole rule d) x e)

  -- ---- a reference cut short (document 02, No. 13)

  cut_off : (a : Answer Reference) → Short a → CutShort (answered rule a).answer
  cut_off (ok m n) h = absurd h
  cut_off (refused x) h = record { refusal = x; refused = refl; number = one_or_two x.number h }

  -- Every shorter leading piece of an accepted part is refused, and only with 1 or 2;
  pub cut_short : (d : List ℕ) → Octets d → (n : ℕ) → (answered rule (read_leading rule d)).answer ≡ Ok n → (j : ℕ) → j < n → CutShort (answered rule (read_leading rule (take j d))).answer
  cut_short d o n e j lt =
      let (m, q) = counts (read_leading rule d) n e in
      let (small, l) = only_accepted rule d o m n q in
      cut_off (read_leading rule (take j d)) (accept.cut_short rule d o small m n l j lt)

  -- so it is where it is read as a whole slice.
  pub whole_cut_short : (d : List ℕ) → Octets d → (n : ℕ) → (answered rule (read_leading rule d)).answer ≡ Ok n → (j : ℕ) → j < n → CutShort (answered rule (read_whole rule (take j d))).answer
  whole_cut_short d o n e j lt =
      let (m, q) = counts (read_leading rule d) n e in
      let (small, l) = only_accepted rule d o m n q in
      cut_off (read_whole rule (take j d)) (accept.whole_cut_short rule d o small m n l j lt)

  -- The part with octets put behind it, up to 65,535 in all, is read as it was.
  pub behind : (d x : List ℕ) → Octets d → Octets x → (n : ℕ) → (answered rule (read_leading rule d)).answer ≡ Ok n → n + length x ≤ 65535 → read_leading rule (take n d ++ x) ≡ read_leading rule d
  behind d x o ox n e small = let (m, q) = counts (read_leading rule d) n e in accept.behind rule d x o ox m n q small ∙ sym q

module _ (rule : TypeIdRule) (way : AddressWay) where
  -- Writing the tables of an accepted reading over the same octets into any output with room answers the part's length and leaves the part, save an
  -- address's constants: octet by octet.
  pub write_gives_back : (d : List ℕ) → Octets d → (n : ℕ) → (answered rule (read_leading rule d)).answer ≡ Ok n → (out : List ℕ) → n ≤ length out
      → (m : Reference) × (Leads rule d m n) × (written rule (answered rule (read_leading rule d)).tables d out ≡ Ok n) × (GivesBack rule way d m n out (leaves rule way (answered rule (read_leading rule d)).tables d out))
  write_gives_back d o n e out room =
      let (m, q) = counts rule (read_leading rule d) n e in
      let (a, g) =
      subst (λ (x : Answer Reference). (written rule (answered rule x).tables d out ≡ Ok n) × (GivesBack rule way d m n out (leaves rule way (answered rule x).tables d out))) (sym q)
      (part_given_back rule way d o m n q out room) in
      (m, (only_accepted rule d o m n q).1, a, g)

module _ (rule : TypeIdRule) where
  -- The third figure of a refused reading lies within the slice; where a value is wrong (3, 4), the field stands there and is wrong; 6 and 7 have 0.
  pub offset_inside : (d : List ℕ) (x : Refusal) → (answered rule (read_leading rule d)).answer ≡ Err x → Points rule d x
  offset_inside d x e = blame.leading_points rule d x (refuses rule (read_leading rule d) x e)

  pub whole_offset_inside : (d : List ℕ) (x : Refusal) → (answered rule (read_whole rule d)).answer ≡ Err x → Points rule d x
  whole_offset_inside d x e = blame.whole_points rule d x (refuses rule (read_whole rule d) x e)

  -- Where a value is wrong, every slice of at least this length, up to 65,535, that agrees with this one up to the end of the field is answered the same:
  -- nothing behind the field is to blame.
  pub blamed : (d e : List ℕ) (x : Refusal) → (answered rule (read_leading rule d)).answer ≡ Err x → Among x.number (3 ∷ 4 ∷ []) → Alike rule d e x → (answered rule (read_leading rule e)).answer ≡ Err x
  blamed d e x q a l = ap (λ (y : Answer Reference). (answered rule y).answer) (blame.leading_blamed rule d e x a l (refuses rule (read_leading rule d) x q))

  pub whole_blamed : (d e : List ℕ) (x : Refusal) → (answered rule (read_whole rule d)).answer ≡ Err x → Among x.number (3 ∷ 4 ∷ []) → Alike rule d e x → (answered rule (read_whole rule e)).answer ≡ Err x
  whole_blamed d e x q a l = ap (λ (y : Answer Reference). (answered rule y).answer) (blame.whole_blamed rule d e x a l (refuses rule (read_whole rule d) x q))
