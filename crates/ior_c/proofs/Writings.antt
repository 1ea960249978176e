-- What the results of the writing and measuring calls say, and what they do with a table that an accepted reading left. Assumes nothing.
use Prim.Native.Nat.{ℕ, ◌≤◌}
use mathlib.Core.Path.{◌≡◌, sym, ap, ap₂, ◌∙◌, subst}
use mathlib.Core.Bool.{Bool, true, false, ◌&&◌}
use mathlib.Core.Logic.{◌↔◌}
use mathlib.Core.List.{List, [], ◌∷◌}
use native.Mathlib.Omega.{arith}
use lib.ListN.{length, get_or}
use Rattle.reference.specs.declared.TypeIdRule.{TypeIdRule}
use Rattle.reference.specs.declared.AddressWay.{AddressWay}
use Rattle.reference.specs.declared.AddressWay.TheVariants.{Constants}
use Rattle.std.specs.Prelude.{Ok, Err}
use Rattle.reference.specs.declared.Refusal.{Refusal}
use Rattle.reference.specs.Checks.{Among}
use Rattle.reference.specs.Writer.{image_of, measured, written, leaves}
use Rattle.reference.specs.Promises.{GivesBack, LengthIsWritten, SameWriting}
use Rattle.reference.proofs.Cases.{by_test, by_answer}
use Rattle.reference.proofs.Numbers.{measuring_number, writing_number}
use Rattle.reference.proofs.Measured.{length_is_written, only_used_matter}
use Rattle.table.specs.Flat.{tables_from, table_size, Lent}
use Rattle.table.specs.Filed.{SameEntries}
use Rattle.table.proofs.Alike.{same_used}
use Rattle.survey.specs.Exact.{exact}
use Rattle.survey.proofs.Every.{and_both}
use Rattle.survey.proofs.Read.{read_exact}
use Rattle.survey.proofs.Alike.{same_exact}
use Rattle.reading.proofs.Lent.{Taken}
use Rattle.ior_c.specs.Said.{answer_size, number_of, numbers_of, sized, askable}
use Rattle.ior_c.specs.Calls.{IorLength, IorWrite}
use Rattle.ior_c.specs.Promises.{SameLength}
use Rattle.ior_c.proofs.Calls.{asked_told, unasked_told, asked_given, unasked_given, unasked_exactly, is_sized}

module _ (rule : TypeIdRule) where
  -- the table that an accepted reading left can be asked
  pub left_askable : (s t e : List ℕ) (n : ℕ) → Lent t → Taken rule s t e n → (a : ℕ) → a ≡ answer_size → askable e a ≡ true
  unfolding askable
  left_askable s t e n l k a f =
      let h = k.leads in
      and_both (is_sized table_size (length e) a k.shows.long f) (ap exact k.left ∙ read_exact rule t l k.meaning h.formed h.room)

  -- measuring it tells the part's length
  pub left_measured : (s t e : List ℕ) (n : ℕ) → Lent t → Taken rule s t e n → (a : List ℕ) (r : ℕ) (b : List ℕ) → length a ≡ answer_size → IorLength rule e s a r b
      → (r ≡ 0) × (b ≡ numbers_of (Ok n))
  left_measured s t e n l k a r b six w =
      let (p, q) = asked_told w (left_askable s t e n l k (length a) six) in
      let h = (length_is_written rule Constants (tables_from e) s s).length n (k.back Constants s k.leads.inside).0 in
      (p ∙ ap number_of h, q ∙ ap numbers_of h)

  -- ---- 255 is told exactly where the table can't be asked

  pub measuring_unasked : (t s a : List ℕ) (r : ℕ) (b : List ℕ) → IorLength rule t s a r b → (r ≡ 255) ↔ (askable t (length a) ≡ false)
  measuring_unasked t s a r b c = unasked_exactly (λ y e. (measuring_number y.number ((length_is_written rule Constants (tables_from t) s s).refused y e).1).1) c

module _ (rule : TypeIdRule) (way : AddressWay) where
  -- writing the table that an accepted reading left, over the same octets, into an output with room
  pub left_written : (s t e : List ℕ) (n : ℕ) → Lent t → (k : Taken rule s t e n) → (d a : List ℕ) (r : ℕ) (b f : List ℕ) → length a ≡ answer_size → n ≤ length d → IorWrite rule way e s d a r b f
      → (r ≡ 0) × (b ≡ numbers_of (Ok n)) × (f ≡ leaves rule way (tables_from e) s d) × (GivesBack rule way s k.meaning n d f)
  left_written s t e n l k d a r b f six room w =
      let (p, q, h) = asked_given w (left_askable rule s t e n l k (length a) six) in
      let (v, g) = k.back way d room in
      (p ∙ ap number_of v, q ∙ ap numbers_of v, h, subst (GivesBack rule way s k.meaning n d) (sym h) g)

  pub writing_unasked : (t s a : List ℕ) (r : ℕ) (b d f : List ℕ) → IorWrite rule way t s d a r b f → (r ≡ 255) ↔ (askable t (length a) ≡ false)
  writing_unasked t s a r b d f c = unasked_exactly (λ y e. (writing_number rule (tables_from t) s d y e).1) c.tells

  -- tables of one length, with the same front and the same numbers in their used entries, are asked, measured and written alike
  pub alike : (t t' : List ℕ) → length t ≡ length t' → SameEntries t t' → (s d : List ℕ) (answer : ℕ) → (askable t answer ≡ askable t' answer) × (SameWriting rule way (tables_from t) (tables_from t') s d)
  unfolding askable
  alike t t' l h s d answer = (
    ap₂ (λ (n : ℕ) (b : Bool). sized table_size n answer && b) l (same_exact t t' h),
    only_used_matter rule way (tables_from t) (tables_from t') (same_used t t' h) s d,
  )

  -- what a writing call gives where the table can be asked
  module _ (t s d a : List ℕ) (r : ℕ) (b f : List ℕ) (c : IorWrite rule way t s d a r b f) where
    pub write_zero : r ≡ 0 → (askable t (length a) ≡ true) × (b ≡ numbers_of (Ok (get_or b 4 0))) × (written rule (tables_from t) s d ≡ Ok (get_or b 4 0)) × (f ≡ leaves rule way (tables_from t) s d)
    write_zero z = by_test (askable t (length a)) yes (λ h. let n = (unasked_given c h).0 in absurd (omega arith))
      where
        yes : askable t (length a) ≡ true → (askable t (length a) ≡ true) × (b ≡ numbers_of (Ok (get_or b 4 0))) × (written rule (tables_from t) s d ≡ Ok (get_or b 4 0)) × (f ≡ leaves rule way (tables_from t) s d)
        yes h =
            let (p, q, l) = asked_given c h in
            by_answer (written rule (tables_from t) s d)
            (λ n e.
            let w : b ≡ numbers_of (Ok n) = q ∙ ap numbers_of e in
            let v : n ≡ get_or b 4 0 = sym (ap (λ (y : List ℕ). get_or y 4 0) w) in
            (h, w ∙ ap (λ (i : ℕ). numbers_of (Ok i)) v, e ∙ ap Ok v, l))
            (λ y e.
            let k = (writing_number rule (tables_from t) s d y e).0 in
            let n : r ≡ y.number = p ∙ ap number_of e in
            absurd (omega arith))

    -- measuring and writing of one table, with answers of one length
    pub same_length : (a' : List ℕ) (q : ℕ) (b' : List ℕ) → length a' ≡ length a → IorLength rule t s a' q b' → SameLength (image_of rule way s (tables_from t)) q b' r b
    same_length a' q b' alike w = by_test (askable t (length a)) yes no
      where
        x : LengthIsWritten (6 ∷ 8 ∷ 9 ∷ 10 ∷ []) (image_of rule way s (tables_from t)) (measured rule (tables_from t) s) (written rule (tables_from t) s d)
        x = length_is_written rule way (tables_from t) s d

        alike255 : (q ≡ 255) ↔ (r ≡ 255)
        alike255 =
            let m = measuring_unasked rule t s a' q b' w in
            let v = writing_unasked t s a r b d f c in
            (λ z. v.1 (sym (ap (askable t) alike) ∙ m.0 z), λ z. m.1 (ap (askable t) alike ∙ v.0 z))

        no : askable t (length a) ≡ false → SameLength (image_of rule way s (tables_from t)) q b' r b
        no h =
            let (p, g) = unasked_told w (ap (askable t) alike ∙ h) in
            let (p', g', l) = unasked_given c h in
            record {
              image = λ z. absurd (omega arith);
              length = λ z. absurd (omega arith);
              refused = λ z v. absurd (v p);
              early = λ z. let k = (measuring_number r z).1 in absurd (omega arith);
              unasked = alike255;
            }

        yes : askable t (length a) ≡ true → SameLength (image_of rule way s (tables_from t)) q b' r b
        yes h = by_answer (measured rule (tables_from t) s) counts refuses
          where
            told : (q ≡ number_of (measured rule (tables_from t) s)) × (b' ≡ numbers_of (measured rule (tables_from t) s))
            told = asked_told w (ap (askable t) alike ∙ h)

            put : (r ≡ number_of (written rule (tables_from t) s d)) × (b ≡ numbers_of (written rule (tables_from t) s d)) × (f ≡ leaves rule way (tables_from t) s d)
            put = asked_given c h

            counts : (n : ℕ) → measured rule (tables_from t) s ≡ Ok n → SameLength (image_of rule way s (tables_from t)) q b' r b
            counts n e =
                let p : q ≡ 0 = told.0 ∙ ap number_of e in
                let g : b' ≡ numbers_of (Ok n) = told.1 ∙ ap numbers_of e in
                record {
                  image = λ z. let v = ap (λ (i : List ℕ). get_or i 4 0) g in let (k, m) = x.image n e in (k ∙ sym v, omega arith);
                  length = λ z.
                      let (i, v, k, l) = write_zero z in
                      (p, told.1 ∙ ap numbers_of (x.length (get_or b 4 0) k) ∙ sym v);
                  refused = λ z v. absurd (z p);
                  early = λ z. by_answer (written rule (tables_from t) s d)
                      (λ i k. let m = (measuring_number r z).0 in let v : r ≡ 0 = put.0 ∙ ap number_of k in absurd (omega arith))
                      (λ y k.
                      let v : r ≡ y.number = put.0 ∙ ap number_of k in
                      let m = x.early y k (subst (λ (i : ℕ). Among i (6 ∷ 8 ∷ 9 ∷ 10 ∷ [])) v z) in
                      let u : 0 ≡ y.number = sym p ∙ told.0 ∙ ap number_of m in
                      let j = (measuring_number r z).0 in
                      absurd (omega arith));
                  unasked = alike255;
                }

            refuses : (y : Refusal) → measured rule (tables_from t) s ≡ Err y → SameLength (image_of rule way s (tables_from t)) q b' r b
            refuses y e =
                let p : q ≡ y.number = told.0 ∙ ap number_of e in
                let (w', m) = x.refused y e in
                let v : r ≡ y.number = put.0 ∙ ap number_of w' in
                let (low, high) = measuring_number y.number m in
                let same : b' ≡ b = told.1 ∙ ap numbers_of e ∙ sym (put.1 ∙ ap numbers_of w') in
                record {
                  image = λ z. absurd (omega arith);
                  length = λ z. absurd (omega arith);
                  refused = λ z k. (v ∙ sym p, sym same, subst (λ (i : ℕ). Among i (6 ∷ 8 ∷ 9 ∷ 10 ∷ [])) (sym p) m);
                  early = λ z. (p ∙ sym v, same);
                  unasked = alike255;
                }
