-- What the result of a reading call says: 0 that the reading was accepted, 255 that nothing was asked, any other number that it was refused. Assumes nothing.
use Prim.Native.Nat.{ℕ, ◌<◌, ◌≤◌}
use mathlib.Core.Path.{◌≡◌, refl, sym, ap, ◌∙◌, subst}
use mathlib.Core.Bool.{true, false}
use mathlib.Core.Logic.{◌≢◌, ◌↔◌}
use mathlib.Core.List.{List, [], ◌∷◌}
use native.Mathlib.Omega.{arith}
use lib.ListN.{length, get_or, replicate}
use Rattle.reference.specs.declared.TypeIdRule.{TypeIdRule}
use Rattle.octets.specs.Octets.{Octets}
use Rattle.std.specs.Prelude.{Ok, Err}
use Rattle.reference.specs.declared.Refusal.{Refusal}
use Rattle.reference.specs.Meaning.{Reference, Room}
use Rattle.reference.specs.Layout.{WellFormed}
use Rattle.reference.specs.Steps.{Answer, ok, refused}
use Rattle.reference.specs.Checks.{Among}
use Rattle.reference.specs.Reader.{read_leading, read_whole, answered}
use Rattle.reference.specs.Used.{Used}
use Rattle.reference.specs.Placed.{tables_of}
use Rattle.reference.specs.Tabled.{used_of}
use Rattle.reference.specs.Promises.{CutShort}
use Rattle.reference.proofs.Cases.{by_test, by_answer}
use Rattle.reference.proofs.Numbers.{leading_numbers, whole_numbers, reading_number}
use Rattle.reference.proofs.Promised.{refuses}
use Rattle.reference.proofs.Blame.{wrongs}
use Rattle.table.specs.Flat.{tables_from, table_size, Lent}
use Rattle.reading.specs.Into.{table_left, ReadInto}
use Rattle.reading.proofs.Lent.{into_exactly, into_refused, whole_into}
use Rattle.ior_c.specs.Said.{answer_size, number_of, numbers_of, Gives, sized}
use Rattle.ior_c.proofs.Calls.{given, asked_given, unasked_given, unasked_exactly, is_sized, lengths}

-- the numbers of refusals are neither 0 nor 255
abbrev pub Numbered : Answer Reference → Type 0
Numbered x = (y : Refusal) → x ≡ refused y → (0 < y.number) × (y.number ≤ 10)

module _ (rule : TypeIdRule) where
  -- a reading x into a table that held t, with an answer's array that held a
  abbrev pub Reads : Answer Reference → (t a : List ℕ) (r : ℕ) (b e : List ℕ) → Type 0
  Reads x t a r b e = Gives (sized table_size (length t) (length a)) (answered rule x).answer (table_left rule x t) a t r b e

  -- a call that was accepted with n octets
  pub record ReadZero (x : Answer Reference) (t a b e : List ℕ) : Type 0 where
    pub count : ℕ
    pub lent : Lent t
    pub six : length a ≡ answer_size
    pub told : b ≡ numbers_of (Ok count)
    pub into : ReadInto rule x t e (Ok count)

  module _ (x : Answer Reference) (numbered : Numbered x) (t a : List ℕ) (r : ℕ) (b e : List ℕ) (c : Reads x t a r b e) where
    pub read_zero : r ≡ 0 → ReadZero x t a b e
    read_zero z = by_test (sized table_size (length t) (length a)) yes no
      where
        no : sized table_size (length t) (length a) ≡ false → ReadZero x t a b e
        no h = let n = (unasked_given c h).0 in absurd (omega arith)

        yes : sized table_size (length t) (length a) ≡ true → ReadZero x t a b e
        yes h = by_answer (answered rule x).answer taken not
          where
            g : (r ≡ number_of (answered rule x).answer) × (b ≡ numbers_of (answered rule x).answer) × (e ≡ table_left rule x t)
            g = asked_given c h

            taken : (n : ℕ) → (answered rule x).answer ≡ Ok n → ReadZero x t a b e
            taken n q =
                let (l, f) = lengths table_size (length t) (length a) h in
                record { count = n; lent = l; six = f; told = g.1 ∙ ap numbers_of q; into = record { answers = sym q; leaves = g.2 } }

            not : (y : Refusal) → (answered rule x).answer ≡ Err y → ReadZero x t a b e
            not y q =
                let k = (numbered y (refuses rule x y q)).0 in
                let n : r ≡ y.number = g.0 ∙ ap number_of q in
                absurd (omega arith)

    -- with arrays of the right lengths, the core's reading
    pub read_sized : Lent t → length a ≡ answer_size → (r ≡ number_of (answered rule x).answer) × (b ≡ numbers_of (answered rule x).answer) × (ReadInto rule x t e (answered rule x).answer)
    read_sized l f =
        let (p, q, s) = asked_given c (is_sized table_size (length t) (length a) l f) in
        (p, q, record { answers = refl; leaves = s })

    -- what the reader refuses, with arrays of the right lengths, is told
    pub refused_told : {y : Refusal} → x ≡ refused y → Lent t → length a ≡ answer_size → (r ≡ y.number) × (b ≡ numbers_of (Err y))
    refused_told q l f =
        let (p, g, _) = read_sized l f in
        let e = ap (λ (v : Answer Reference). (answered rule v).answer) q in
        (p ∙ ap number_of e, g ∙ ap numbers_of e)

    -- and so is what it refuses with 1 or 2
    pub cut_told : CutShort (answered rule x).answer → Lent t → length a ≡ answer_size → Among r (1 ∷ 2 ∷ [])
    cut_told k l f = let (p, g, _) = read_sized l f in subst (λ (i : ℕ). Among i (1 ∷ 2 ∷ [])) (sym (p ∙ ap number_of k.refused)) k.number

    pub read_unasked : r ≡ 255 → (b ≡ a) × (e ≡ t)
    read_unasked z = let (n, p, q) = unasked_given c ((unasked_exactly (λ y q. (numbered y (refuses rule x y q)).1) c.tells).0 z) in (p, q)

    pub read_refused : r ≢ 0 → r ≢ 255 → (y : Refusal) × (x ≡ refused y) × (r ≡ y.number) × (b ≡ numbers_of (Err y)) × (e ≡ replicate table_size 0)
    read_refused z w = by_test (sized table_size (length t) (length a)) yes (λ h. absurd (w (unasked_given c h).0))
      where
        yes : sized table_size (length t) (length a) ≡ true → (y : Refusal) × (x ≡ refused y) × (r ≡ y.number) × (b ≡ numbers_of (Err y)) × (e ≡ replicate table_size 0)
        yes h = by_answer (answered rule x).answer (λ n q. absurd (z ((asked_given c h).0 ∙ ap number_of q)))
            (λ y q.
            let (p, k, l) = asked_given c h in
            (y, refuses rule x y q, p ∙ ap number_of q, k ∙ ap numbers_of q, (into_refused rule x t e (answered rule x).answer (record { answers = refl; leaves = l }) y q).0))

    -- 3 or 4: what the reader refuses, and what is told
    pub read_wrong : Among r (3 ∷ 4 ∷ []) → (y : Refusal) × (x ≡ refused y) × (Among y.number (3 ∷ 4 ∷ [])) × (r ≡ y.number) × (b ≡ numbers_of (Err y))
    read_wrong h =
        let (low, high) = wrongs r h in
        let (y, q, n, told, left) = read_refused (λ z. omega arith) (λ z. omega arith) in
        (y, q, subst (λ (i : ℕ). Among i (3 ∷ 4 ∷ [])) n h, n, told)

    -- accepted with n octets and the used entries u exactly when the reader answers so
    pub read_exactly : Lent t → length a ≡ answer_size → ((m : Reference) (n : ℕ) → x ≡ ok m n → (WellFormed rule m) × (Room m)) → (n : ℕ) (u : Used)
        → ((r ≡ 0) × (get_or b 4 0 ≡ n) × (used_of (tables_from e) ≡ u)) ↔ ((m : Reference) × (x ≡ ok m n) × (u ≡ tables_of rule m))
    read_exactly l f good n u = (
      λ h.
          let k = read_zero h.0 in
          let p : k.count ≡ n = sym (ap (λ (v : List ℕ). get_or v 4 0) k.told) ∙ h.1 in
          (into_exactly rule x t e (Ok k.count) k.into l good n u).0 (ap Ok p, h.2),
      λ h.
          let (p, q, i) = read_sized l f in
          let (s, v) = (into_exactly rule x t e (answered rule x).answer i l good n u).1 h in
          (p ∙ ap number_of s, ap (λ (y : List ℕ). get_or y 4 0) (q ∙ ap numbers_of s), v),
    )

  -- ---- the two readings

  pub leading : (s : List ℕ) → Numbered (read_leading rule s)
  leading s y e = reading_number y.number (leading_numbers rule s y e)

  pub wholly : (s : List ℕ) → Numbered (read_whole rule s)
  wholly s y e = reading_number y.number (whole_numbers rule s y e)

  -- what ior_read_whole accepts, ior_read accepts with the same result, answer and table
  pub whole_is_leading : (s : List ℕ) → Octets s → (t a : List ℕ) (r : ℕ) (b e : List ℕ) → Reads (read_whole rule s) t a r b e → r ≡ 0
      → (Reads (read_leading rule s) t a r b e) × (get_or b 4 0 ≡ length s)
  whole_is_leading s o t a r b e c z =
      let k = read_zero (read_whole rule s) (wholly s) t a r b e c z in
      let (i, n) = whole_into rule s o t e (Ok k.count) k.count refl k.into in
      (given (is_sized table_size (length t) (length a) k.lent k.six) i.answers (z, k.told) i.leaves, ap (λ (v : List ℕ). get_or v 4 0) k.told ∙ n)
