-- What the contracts of `read_short_name` and `write_short_name` promise together, whatever code meets them. Assumes nothing.
use Prim.Native.Nat.{ℕ, ◌≤◌}
use mathlib.Core.Path.{◌≡◌, refl, sym, ap, ◌∙◌, subst}
use mathlib.Core.Logic.{◌↔◌}
use mathlib.Core.List.{List}
use lib.ListN.{length, take, drop}
use Rattle.octets.specs.Octets.{Octets}
use Rattle.reference.specs.declared.NameComponent.{NameComponent}
use Rattle.reference.specs.declared.Refusal.{Refusal}
use Rattle.reference.specs.Refusals.{Told}
use Rattle.std.specs.Prelude.{Result, Ok, Err}
use Rattle.reference.specs.Meaning.{Name}
use Rattle.reference.specs.Steps.{Answer, answer_of, ok, refused, seen}
use Rattle.reference.specs.Contents.{name_of}
use Rattle.reference.specs.Names.{LeadsShort, read_short_name, short_at}
use Rattle.reference.specs.declared.TypeIdRule.TheVariants.{Multiple}
use Rattle.reference.specs.Today.{Points}
use Rattle.reference.proofs.Steps.{seen_ok, seen_no}
use Rattle.reference.proofs.Blame.{short_points}
use Rattle.reference.proofs.Names.{short_accepted, short_only_accepted, short_shown, short_refused, short_gives_back, short_output_leads, short_output_reads_back}
use Rattle.names.specs.Writes.{Writes}

-- the contract of `read_short_name`: r may be answered to d
abbrev pub Reads-name : List ℕ → Result (NameComponent × ℕ) Refusal → Type 0
Reads-name d r = answer_of r ≡ seen short_at (read_short_name d)

-- the answer of which something is told
abbrev answer : Answer NameComponent → Result (NameComponent × ℕ) Refusal
answer (ok x n) = Ok (x, n)
answer (refused y) = Err y

answer_told : (r : Result (NameComponent × ℕ) Refusal) → answer (answer_of r) ≡ r
answer_told (Ok (x, n)) = refl
answer_told (Err y) = refl

-- Two readings allowed by the contract are equal; and so are two writings, with their outputs.
pub reading_determined : (d : List ℕ) (r r' : Result (NameComponent × ℕ) Refusal) → Reads-name d r → Reads-name d r' → r ≡ r'
reading_determined d r r' h h' = sym (answer_told r) ∙ ap answer (h ∙ sym h') ∙ answer_told r'

pub writing_determined : (x : NameComponent) (s d e e' : List ℕ) (r r' : Told) → Writes x s d r e → Writes x s d r' e' → (r ≡ r') × (e ≡ e')
writing_determined x s d e e' r r' w w' = (w.answers ∙ sym w'.answers, w.leaves ∙ sym w'.leaves)

-- what was got, the definition got
got : (d : List ℕ) (r : Result (NameComponent × ℕ) Refusal) (x : NameComponent) (n : ℕ) → Reads-name d r → r ≡ Ok (x, n) → (m : Name) × (read_short_name d ≡ ok m n) × (x ≡ short_at m)
got d r x n h e = seen_ok short_at (read_short_name d) (sym h ∙ ap answer_of e)

-- A slice of up to 65,535 octets is accepted with n octets and the views x exactly when its first n octets are the layout of a name, and x are its views.
pub accepts_exactly : (d : List ℕ) → Octets d → length d ≤ 65535 → (r : Result (NameComponent × ℕ) Refusal) → Reads-name d r → (x : NameComponent) (n : ℕ)
    → (r ≡ Ok (x, n)) ↔ ((m : Name) × (LeadsShort d m n) × (x ≡ short_at m))
accepts_exactly d o small r h x n = (
  λ e. let (m, q, p) = got d r x n h e in (m, (short_only_accepted d o m n q).1, p),
  λ g.
      sym (answer_told r) ∙ ap answer (h ∙ ap (seen short_at) (short_accepted d o small g.0 n g.1)) ∙ ap (λ (y : NameComponent). Ok (y, n)) (sym g.2),
)

-- The views of an accepted reading show the octets of id and kind: their layout is the part.
pub views_show : (d : List ℕ) → Octets d → (r : Result (NameComponent × ℕ) Refusal) → Reads-name d r → (x : NameComponent) (n : ℕ) → r ≡ Ok (x, n) → LeadsShort d (name_of d x) n
views_show d o r h x n e =
    let (m, q, p) = got d r x n h e in
    let l = (short_only_accepted d o m n q).1 in
    subst (λ (y : Name). LeadsShort d y n) (sym (ap (name_of d) p ∙ short_shown d m n l)) l

-- The third figure of a refused reading lies within the slice, and 6 has 0.
pub offset_inside : (d : List ℕ) (r : Result (NameComponent × ℕ) Refusal) → Reads-name d r → (x : Refusal) → r ≡ Err x → Points d x
offset_inside d r h x e = short_points Multiple d x (seen_no short_at (read_short_name d) (sym h ∙ ap answer_of e))

-- A refused writing changes no octet.
pub refused_writing_leaves_all : (x : NameComponent) (s d e : List ℕ) (y : Refusal) → Writes x s d (Err y) e → e ≡ d
refused_writing_leaves_all x s d e y w = w.leaves ∙ short_refused x s d y (sym w.answers)

-- Writing what was read over the same octets, into any output with room, answers the part's length, gives the part back octet for octet, and leaves
-- what stands behind it.
pub write_gives_back : (d : List ℕ) → Octets d → (r : Result (NameComponent × ℕ) Refusal) → Reads-name d r → (x : NameComponent) (n : ℕ) → r ≡ Ok (x, n)
    → (out e : List ℕ) → n ≤ length out → (a : Told) → Writes x d out a e → (a ≡ Ok n) × ((take n e ≡ take n d) × (drop n e ≡ drop n out))
write_gives_back d o r h x n q out e room a w =
    let (m, p, v) = got d r x n h q in
    let b = short_gives_back d o m n p out room in
    let w' = subst (λ (y : NameComponent). Writes y d out a e) v w in
    (w'.answers ∙ b.answers, (ap (take n) w'.leaves ∙ b.gives, ap (drop n) w'.leaves ∙ b.behind))

-- What was written reads back: the same length, and views that show the same octets.
pub written_reads_back : (x : NameComponent) (s d e : List ℕ) → Octets s → Octets d → length d ≤ 65535 → (n : ℕ) → Writes x s d (Ok n) e
    → (r : Result (NameComponent × ℕ) Refusal) → Reads-name e r → (y : NameComponent) × (r ≡ Ok (y, n)) × (name_of e y ≡ name_of s x)
written_reads_back x s d e os od small n w r h =
    let m = name_of s x in
    let a = sym w.answers in
    let q : read_short_name e ≡ ok m n = ap read_short_name w.leaves ∙ short_output_reads_back x s d os od small n a in
    let l : LeadsShort e m n = subst (λ (z : List ℕ). LeadsShort z m n) (sym w.leaves) (short_output_leads x s d os n a) in
    (short_at m, sym (answer_told r) ∙ ap answer (h ∙ ap (seen short_at) q), short_shown e m n l)
