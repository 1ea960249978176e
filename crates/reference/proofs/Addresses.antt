-- What the DVB address question promises: of an address that is read, and octet by octet; and that the ten octets which it doesn't look at don't matter. With
-- cases around each of the ten that do. Assumes nothing.
use Prim.Native.Nat.{ℕ, ◌+◌, ◌^◌, ◌<◌, ◌≤◌}
use mathlib.Core.Path.{◌≡◌, refl, sym, ap, ap₂, ◌∙◌, subst}
use mathlib.Core.Bool.{Bool, true, false, ◌&&◌}
use mathlib.Core.Logic.{◌↔◌}
use mathlib.Core.List.{List, [], ◌∷◌, map}
use native.Mathlib.Numerals.{add-one}
use native.Mathlib.Omega.{arith}
use lib.ListN.{length, get_or, set}
use lib.Dec.{T, eqb, eqb→eq, eqb_refl, lit≤, lit<}
use Rattle.octets.specs.Octets.{Octets, Each, part, be, octets}
use Rattle.reference.specs.Meaning.{Address}
use Rattle.reference.specs.Steps.{ok, done, number}
use Rattle.reference.specs.Reader.{read_address}
use Rattle.reference.specs.Places.{place_address}
use Rattle.reference.specs.Questions.{dvb_address, DvbAddress, dvb_octets}
use Rattle.octets.proofs.Inverse.{length_octets, be_octets, octets_be}
use Rattle.octets.proofs.Part.{octets_part, length_part, part_cons}
use Rattle.octets.proofs.Halves.{single}
use Rattle.reference.proofs.Steps.{need_pass}

-- ---- five tests, a field, and octets that stand somewhere

five : (a b c e f : Bool) → T (a && (b && (c && (e && f)))) ↔ ((T a) × (T b) × (T c) × (T e) × (T f))
five true true true true f = (λ t. (tt, tt, tt, tt, t), λ p. p.4)
five true true true false f = (λ t. absurd t, λ p. absurd p.3)
five true true false e f = (λ t. absurd t, λ p. absurd p.2)
five true false c e f = (λ t. absurd t, λ p. absurd p.1)
five false b c e f = (λ t. absurd t, λ p. absurd p.0)

equal : {m n : ℕ} → m ≡ n → T (eqb m n)
equal {m} {n} e = subst (λ (x : ℕ). T (eqb m x)) e (eqb_refl m)

-- d has these octets from a place on
abbrev Standing : List ℕ → ℕ → List ℕ → Type 0
Standing d at [] = Unit {0}
Standing d at (x ∷ l) = (get_or d at 0 ≡ x) × Standing d (at + 1) l

standing : (d : List ℕ) (at : ℕ) (l : List ℕ) → at + length l ≤ length d → (part d at (length l) ≡ l) ↔ Standing d at l
standing d at [] h = (λ e. tt, λ u. refl)
standing d at (x ∷ l) h =
    let opens : part d at (length (x ∷ l)) ≡ get_or d at 0 ∷ part d (at + 1) (length l) =
    ap (part d at) (sym (add-one (length l))) ∙ part_cons d at (length l) 0 (omega arith) in
    let rest = standing d (at + 1) l (omega arith) in (
      λ e. let q = sym opens ∙ e in (cc, rest.0 (cc)),
      λ u. opens ∙ ap₂ (λ (y : ℕ) (z : List ℕ). y ∷ z) u.0 (rest.1 u.1),
    )

-- the field of n octets at a place says v
abbrev says : List ℕ → ℕ → ℕ → ℕ → Bool
says d at n v = eqb (be (part d at n)) v

-- it does exactly if the octets of v stand there: once, over the width
says_octets : (d : List ℕ) → Octets d → (at n v : ℕ) → at + n ≤ length d → v < 256 ^ n → T (says d at n v) ↔ Standing d at (octets n v)
says_octets d o at n v h small =
    let k = length_octets n v in
    let wide = ap (part d at) k in
    let stand = standing d at (octets n v) (omega arith) in (
      λ t. stand.0 (wide ∙ sym (octets_be (part d at n) (octets_part d at n o)) ∙ ap₂ octets (length_part d at n h) (eqb→eq _ v t)),
      λ u. equal (ap be (sym wide ∙ stand.1 u) ∙ be_octets n v small),
    )

-- ---- the promises

-- the question is five tests
tests : (d : List ℕ)
    → T (dvb_address d)
    ↔ ((T (says d 0 1 0x00)) × (T (says d 1 1 0x00)) × (T (says d 6 1 0x01)) × (T (says d 7 3 0x00015A)) × (T (says d 16 4 0xFFFFFFFF)))
unfolding dvb_address
tests d = five (says d 0 1 0x00) (says d 1 1 0x00) (says d 6 1 0x01) (says d 7 3 0x00015A) (says d 16 4 0xFFFFFFFF)

-- Twenty octets always are read as an address, whatever they are: `dvb_exactly` speaks of every such list.
pub address_read : (d : List ℕ) → (a : Address) × (read_address d 0 20 ≡ ok a 20)
unfolding read_address number done
address_read d = (_, need_pass d 0 20 20 place_address _ (lit≤ tt))

module _ (d : List ℕ) (o : Octets d) (twenty : length d ≡ 20) where
  organisation : T (says d 7 3 0x00015A) ↔ Standing d 7 (0x00 ∷ 0x01 ∷ 0x5A ∷ [])
  unfolding octets
  organisation = says_octets d o 7 3 0x00015A (omega arith) (lit< tt)

  -- Twenty octets are a DVB address exactly if ten of them are these, whatever the others are.
  pub dvb_octets_lem : T (dvb_address d) ↔ Each (λ q. get_or d q.0 0 ≡ q.1) dvb_octets
  unfolding octets
  dvb_octets_lem =
      let afi = says_octets d o 0 1 0x00 (omega arith) (lit< tt) in
      let kind = says_octets d o 1 1 0x00 (omega arith) (lit< tt) in
      let specifier = says_octets d o 6 1 0x01 (omega arith) (lit< tt) in
      let reserved = says_octets d o 16 4 0xFFFFFFFF (omega arith) (lit< tt) in (
        λ t.
            let (f, k, p, q, z) = (tests d).0 t in
            let (e0, _) = afi.0 f in
            let (e1, _) = kind.0 k in
            let (e6, _) = specifier.0 p in
            let (e7, (e8, (e9, _))) = organisation.0 q in
            let (e16, (e17, (e18, (e19, _)))) = reserved.0 z in
            (e0, (e1, (e6, (e7, (e8, (e9, (e16, (e17, (e18, (e19, tt)))))))))),
        λ (e0, (e1, (e6, (e7, (e8, (e9, (e16, (e17, (e18, (e19, _)))))))))).
            (tests d).1 (afi.1 (e0, tt), kind.1 (e1, tt), specifier.1 (e6, tt), organisation.1 (e7, (e8, (e9, tt))), reserved.1 (e16, (e17, (e18, (e19, tt))))),
      )

  -- They are one exactly if the address that is read of them has the standard constants, and DVB's organisation number as its specifier data.
  pub dvb_exactly : (a : Address) → read_address d 0 20 ≡ ok a 20 → T (dvb_address d) ↔ DvbAddress a
  unfolding read_address number done
  dvb_exactly a e =
      let read = sym (need_pass d 0 20 20 place_address _ (lit≤ tt)) ∙ e in
      let f : be (part d 0 1) ≡ a.afi = cc in
      let k : be (part d 1 1) ≡ a.kind = cc in
      let p : be (part d 6 1) ≡ a.specifier_type = cc in
      let q0 : be (part d 7 1) ≡ a.specifier0 = cc in
      let q1 : be (part d 8 1) ≡ a.specifier1 = cc in
      let q2 : be (part d 9 1) ≡ a.specifier2 = cc in
      let z : be (part d 16 4) ≡ a.reserved = cc in
      let s0 = sym (single d 7 (omega arith)) ∙ q0 in
      let s1 = sym (single d 8 (omega arith)) ∙ q1 in
      let s2 = sym (single d 9 (omega arith)) ∙ q2 in (
        λ t.
            let (tf, tk, tp, tq, tz) = (tests d).0 t in
            let (e7, (e8, (e9, _))) = organisation.0 tq in
            record {
              standard = record {
                afi = sym f ∙ eqb→eq _ 0x00 tf;
                kind = sym k ∙ eqb→eq _ 0x00 tk;
                specifier_type = sym p ∙ eqb→eq _ 0x01 tp;
                reserved = sym z ∙ eqb→eq _ 0xFFFFFFFF tz;
              };
              specifier0 = sym s0 ∙ e7;
              specifier1 = sym s1 ∙ e8;
              specifier2 = sym s2 ∙ e9;
            },
        λ h.
            (tests d).1 (
              equal (f ∙ h.standard.afi),
              equal (k ∙ h.standard.kind),
              equal (p ∙ h.standard.specifier_type),
              organisation.1 (s0 ∙ h.specifier0, (s1 ∙ h.specifier1, (s2 ∙ h.specifier2, tt))),
              equal (z ∙ h.standard.reserved),
            ),
      )

-- of two lists that agree at some indices, one bears the octets listed there exactly if the other does
agreeing : (d e : List ℕ) (l : List (ℕ × ℕ)) → Each (λ q. get_or d q.0 0 ≡ get_or e q.0 0) l
    → Each (λ q. get_or d q.0 0 ≡ q.1) l ↔ Each (λ q. get_or e q.0 0 ≡ q.1) l
agreeing d e [] h = (λ u. u, λ u. u)
agreeing d e (q ∷ l) h = let rest = agreeing d e l h.1 in (λ u. (sym h.0 ∙ u.0, rest.0 u.1), λ u. (h.0 ∙ u.0, rest.1 u.1))

alike : (a b : Bool) → (T a → T b) → (T b → T a) → a ≡ b
alike true true f g = refl
alike true false f g = absurd (f tt)
alike false true f g = absurd (g tt)
alike false false f g = refl

-- Addresses that agree in the ten octets get the same answer: it doesn't depend on the ten others.
pub dvb_only : (d e : List ℕ) → Octets d → Octets e → length d ≡ 20 → length e ≡ 20
    → Each (λ q. get_or d q.0 0 ≡ get_or e q.0 0) dvb_octets → dvb_address d ≡ dvb_address e
dvb_only d e o p m n h =
    let one = dvb_octets_lem d o m in
    let other = dvb_octets_lem e p n in
    let both = agreeing d e dvb_octets h in
    alike (dvb_address d) (dvb_address e) (λ t. other.1 (both.0 (one.0 t))) (λ t. one.1 (both.1 (other.0 t)))

-- ---- cases

-- carousel 1, transport stream 1, network 2, service 3
abbrev address : List ℕ
address = 0 ∷ 0 ∷ 0 ∷ 0 ∷ 0 ∷ 1 ∷ 1 ∷ 0 ∷ 1 ∷ 0x5A ∷ 0 ∷ 1 ∷ 0 ∷ 2 ∷ 0 ∷ 3 ∷ 0xFF ∷ 0xFF ∷ 0xFF ∷ 0xFF ∷ []

-- the address; one of the ten changed; the organisation number with its octets shifted; the ten others changed
abbrev addresses : List (List ℕ × Bool)
addresses =
    (address, true)
    ∷ (set address 0 1, false)
    ∷ (set address 1 1, false)
    ∷ (set address 6 0, false)
    ∷ (set address 7 1, false)
    ∷ (set address 8 0, false)
    ∷ (set address 9 0x5B, false)
    ∷ (set address 16 0xFE, false)
    ∷ (set address 19 0xFE, false)
    ∷ (0 ∷ 0 ∷ 0 ∷ 0 ∷ 0 ∷ 1 ∷ 1 ∷ 1 ∷ 0x5A ∷ 0 ∷ 0 ∷ 1 ∷ 0 ∷ 2 ∷ 0 ∷ 3 ∷ 0xFF ∷ 0xFF ∷ 0xFF ∷ 0xFF ∷ [], false)
    ∷ (0 ∷ 0 ∷ 9 ∷ 9 ∷ 9 ∷ 9 ∷ 1 ∷ 9 ∷ 9 ∷ 9 ∷ 9 ∷ 9 ∷ 9 ∷ 9 ∷ 9 ∷ 9 ∷ 0xFF ∷ 0xFF ∷ 0xFF ∷ 0xFF ∷ [], false)
    ∷ (0 ∷ 0 ∷ 9 ∷ 9 ∷ 9 ∷ 9 ∷ 1 ∷ 0 ∷ 1 ∷ 0x5A ∷ 9 ∷ 9 ∷ 9 ∷ 9 ∷ 9 ∷ 9 ∷ 0xFF ∷ 0xFF ∷ 0xFF ∷ 0xFF ∷ [], true)
    ∷ []

pub addresses_told : map (λ c. dvb_address c.0) addresses ≡ map (λ c. c.1) addresses
unfolding be dvb_address
addresses_told = refl
