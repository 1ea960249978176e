-- A loop that reads profiles and files each into a lent table: what is left to do does what was to be done. One law for each case of the code, whose
-- premises are what the code knows there. Assumes nothing.
use Prim.Native.Nat.{ℕ, suc, ◌+◌, ◌-◌, ◌<◌, ◌≤◌}
use mathlib.Core.Path.{◌≡◌, refl, sym, ap, ◌∙◌, subst}
use mathlib.Core.List.{List, [], ◌∷◌}
use native.Mathlib.Nat.{add_assoc, add-zero, sub-zero, add-sub_cancel_left}
use native.Mathlib.Omega.{arith}
use mir.Syntax.{w8}
use mir.Val.{Fits}
use lib.ListN.{length, get_or}
use Rattle.std.specs.Prelude.{Result, Ok, Err, IsErrAnd, MatchResult}
use Rattle.octets.specs.Octets.{part}
use Rattle.octets.proofs.Part.{length_part}
use Rattle.reference.specs.declared.Refusal.{Refusal}
use Rattle.reference.specs.Meaning.{Profile, taps_of, names_of, extras_of, sum}
use Rattle.reference.specs.Layout.{layout_profile}
use Rattle.reference.specs.Refusals.{shifted}
use Rattle.reference.specs.Steps.{Answer, ok, refused, followed, seen, outward, many}
use Rattle.reference.specs.Reader.{read_body, read_profile}
use Rattle.reference.specs.Heads.{read_header}
use Rattle.reference.proofs.Heads.{header_known, profile_no, profile_data}
use Rattle.reference.proofs.Blame.{body_inside}
use Rattle.reference.proofs.Parts.{profile_reads}
use Rattle.reference.proofs.Steps.{passed_on, seen_ok, seen_no}
use Rattle.table.specs.declared.Counts.{Counts}
use Rattle.table.specs.Flat.{profile_region, tap_region, name_region, extra_region, Lent}
use Rattle.table.specs.Filed.{counts_after, profile_filed, profiles_filed, no_counts}
use Rattle.table.proofs.Stored.{stored_none}
use Rattle.table.proofs.Filed.{profiles_more, filed_length}
use Rattle.read_parts.specs.Told.{Filled, body_told, StoresBody}
use Rattle.read_parts.proofs.Moves.{octets_of_slice, moved}
use Rattle.reading.specs.Open.{header_told}
use Rattle.reading.specs.Stored.{profiles_told, filled_from, StoresProfiles}
use Rattle.reading.proofs.Crowd.{entries_below}

-- what a result was whose refusal was told otherwise
module _ {A : Type 0} {m : Result A Refusal} (Q : Refusal → Refusal → Type 0) where
  pub was_ok : (v : Result A Refusal) → MatchResult v (λ a. m ≡ Ok a) (λ x. IsErrAnd m (Q x)) → {a : A} → m ≡ Ok a → v ≡ Ok a
  was_ok (Ok b) h q = sym h ∙ q
  was_ok (Err x) h q = absurd (subst (λ (r : Result A Refusal). IsErrAnd r (Q x)) q h)

  pub was_no : (v : Result A Refusal) → MatchResult v (λ a. m ≡ Ok a) (λ x. IsErrAnd m (Q x)) → {y : Refusal} → m ≡ Err y → (x : Refusal) × (v ≡ Err x) × Q x y
  was_no (Err x) h q = (x, refl, subst (λ (r : Result A Refusal). IsErrAnd r (Q x)) q h)
  was_no (Ok b) h {y} q = let z : ◌≡◌ {A = Result A Refusal} (Ok b) (Err y) = sym h ∙ q in absurd (not_both z)
    where
      not_both : ◌≡◌ {A = Result A Refusal} (Ok b) (Err y) → ⊥
      not_both z = let n : ◌≡◌ {A = ℕ} 0 1 = cc in omega arith

-- an answer told otherwise is followed by one that is told so
pub followed_seen : {A B : Type 0} (f : A → B) (x : Answer A) → seen f x ≡ followed x (λ a n. ok (f a) n)
followed_seen f (ok a n) = refl
followed_seen f (refused y) = refl

filled_none : (at : ℕ) (t : List ℕ) (i : ℕ) (u : Counts) → filled_from at t i u [] ≡ record { table = t; counts = u }
filled_none at t i u =
    let none = stored_none extra_region _ u.extras ∙ stored_none name_region _ u.names ∙ stored_none tap_region _ u.taps ∙ stored_none profile_region t i in
    λ j. record { table = none j; counts = record { taps = add-zero u.taps j; names = add-zero u.names j; extras = add-zero u.extras j } }

filled_more : (at : ℕ) (t : List ℕ) (i : ℕ) (u : Counts) (p : Profile) (l : List Profile) {next : ℕ} → next ≡ at + length (layout_profile p) → Lent t
    → filled_from at t i u (p ∷ l) ≡ filled_from next (profile_filed at t i u p) (i + 1) (counts_after u p) l
filled_more at t i u p l {next} s h =
    let e = profiles_more at t i u p l h ∙ ap (λ (k : ℕ). profiles_filed k (profile_filed at t i u p) (i + 1) (counts_after u p) l) (sym s) in
    λ j. record {
      table = e j;
      counts = record {
        taps = sym (add_assoc u.taps (taps_of p) (sum taps_of l)) j;
        names = sym (add_assoc u.names (names_of p) (sum names_of l)) j;
        extras = sym (add_assoc u.extras (extras_of p) (sum extras_of l)) j;
      };
    }

module _ (d : List ℕ) where
  -- n to come from pos on, the next of which is profile i of t
  abbrev to_come : ℕ → ℕ → List ℕ → ℕ → Counts → Answer Filled
  to_come n pos t i u = seen (filled_from pos t i u) (many n read_profile d pos (length d))

  one_less : (n pos : ℕ) (t : List ℕ) (i : ℕ) (u : Counts) {p : Profile} {next : ℕ} → read_profile d pos (length d) ≡ ok p next → next ≡ pos + length (layout_profile p) → Lent t
      → to_come (suc n) pos t i u ≡ to_come n next (profile_filed pos t i u p) (i + 1) (counts_after u p)
  unfolding many
  one_less n pos t i u {p} {next} e s h = rw e (go (many n read_profile d next (length d)))
    where
      go : (y : Answer (List Profile)) → seen (filled_from pos t i u) (followed y (λ l last. ok (p ∷ l) last)) ≡ seen (filled_from next (profile_filed pos t i u p) (i + 1) (counts_after u p)) y
      go (refused z) = refl
      go (ok l last) = ap (λ (x : Filled). ok x last) (filled_more pos t i u p l s h)

-- after i turns of n: the table, the counts, which stay below the position, and where the next profile stands
pub record Files (d : List ℕ) (n pos : ℕ) (t₀ t : List ℕ) (u : Counts) (cur i : ℕ) : Type 0 where
  pub inside : cur ≤ length d
  pub long : Lent t
  pub taps : u.taps ≤ cur
  pub names : u.names ≤ cur
  pub extras : u.extras ≤ cur
  pub same : to_come d n pos t₀ 0 no_counts ≡ to_come d (n - i) cur t i u

module _ {d : List ℕ} {n pos : ℕ} {t₀ : List ℕ} where
  pub none_yet : pos ≤ length d → Lent t₀ → Files d n pos t₀ t₀ no_counts pos 0
  none_yet h l =
      record { inside = h; long = l; taps = omega arith; names = omega arith; extras = omega arith; same = ap (λ (k : ℕ). to_come d k pos t₀ 0 no_counts) (sym (sub-zero n)) }

  module _ {t : List ℕ} {u : Counts} {cur i : ℕ} (h : Files d n pos t₀ t u cur i) where
    abbrev Stored : List ℕ → Result (Counts × ℕ) Refusal → Type 0
    Stored e v = StoresProfiles pos t₀ (many n read_profile d pos (length d)) e v

    pub few : {k : ℕ} → k ≤ cur → length d ≤ 65535 → k ≤ 65535
    few a small = omega (arith, h.inside)

    pub all_read : n ≤ i → Stored t (Ok (u, cur))
    unfolding many
    all_read l =
        let q : n - i ≡ 0 = omega arith in
        record { told = sym (h.same ∙ ap (λ (j : ℕ). to_come d j cur t i u) q ∙ ap (λ (x : Filled). ok x cur) (filled_none cur t i u)) }

    module _ (r : Result (ℕ × ℕ) Refusal) (read : header_told cur r ≡ read_header d cur (length d)) (l : i < n) where
      one_left : n - i ≡ suc (n - (i + 1))
      one_left = omega arith

      refuse : {x : Refusal} {e : List ℕ} → read_profile d cur (length d) ≡ refused x → (w : Result (Counts × ℕ) Refusal) → IsErrAnd w (λ y. y ≡ x) → Stored e w
      unfolding many
      refuse {e = e} q w p = record { told = ap (profiles_told e) (passed_on w p) ∙ sym (h.same ∙ rw (one_left, q)) }

      pub no_header : {x : Refusal} {e : List ℕ} → r ≡ Err x → (w : Result (Counts × ℕ) Refusal) → IsErrAnd w (λ y. y ≡ x) → Stored e w
      no_header q = refuse (profile_no d cur (length d) (sym read ∙ ap (header_told cur) q))

      module _ {tag len : ℕ} (q : r ≡ Ok (tag, len)) where
        header : read_header d cur (length d) ≡ ok (record { tag = tag; size = len }) (cur + 8)
        header = sym read ∙ ap (header_told cur) q

        pub data_inside : cur + 8 + len ≤ length d
        data_inside = (header_known d cur (length d) header).1

        -- the data, as the code cuts it out
        abbrev bytes : List ℕ
        bytes = part d (cur + 8) (cur + 8 + len - (cur + 8))

        cut_out : (bytes ≡ part d (cur + 8) len) × (length bytes ≡ len)
        cut_out =
            let e = ap (λ (k : ℕ). part d (cur + 8) k) (add-sub_cancel_left (cur + 8) len) in
            (e, ap length e ∙ length_part d (cur + 8) len (omega (arith, data_inside)))

        module _ (small : length d ≤ 65535) where
          pub next_fits : cur + 8 + len < 18446744073709551616
          next_fits = omega (arith, data_inside)

          pub data_small : cur + 8 + length bytes ≤ 65535
          data_small = omega (arith, cut_out.1, data_inside)

        abbrev body : Answer Profile
        body = read_body tag bytes 0 (length bytes)

        by_body : read_profile d cur (length d) ≡ outward (cur + 8) len body
        by_body = profile_data d cur (length d) header ∙ (λ j. outward (cur + 8) len (read_body tag (sym cut_out.0 j) 0 (sym cut_out.1 j)))

        module _ {t' : List ℕ} (v : Result Counts Refusal) (s : StoresBody cur t i u body (length bytes) t' v) where
          abbrev filled_with : Profile → Filled
          filled_with p = record { table = profile_filed cur t i u p; counts = counts_after u p }

          kept : {w : Result Counts Refusal} → v ≡ w → seen filled_with body ≡ body_told (length bytes) t' w
          kept f = followed_seen filled_with body ∙ sym s.told ∙ ap (body_told (length bytes) t') f

          -- what is refused in the data is told of the slice
          module _ {x : Refusal} (f : v ≡ Err x) where
            pub offset_small : length d ≤ 65535 → x.offset ≤ 65535
            offset_small small = omega (arith, body_inside tag bytes (length bytes) x (seen_no filled_with body (kept f)), data_small small)

            pub no_body : {y : Refusal} {e : List ℕ} → y ≡ shifted (cur + 8) x → (w : Result (Counts × ℕ) Refusal) → IsErrAnd w (λ z. z ≡ y) → Stored e w
            no_body q = refuse (by_body ∙ ap (outward (cur + 8) len) (seen_no filled_with body (kept f)) ∙ ap (λ (z : Refusal). refused z) (sym q))

          pub one_more : {u' : Counts} → ((k : ℕ) → Fits w8 (get_or d k 0)) → v ≡ Ok u' → Files d n pos t₀ t' u' (cur + 8 + len) (i + 1)
          one_more octs f =
              let (p, e, g) = seen_ok filled_with body (kept f) in
              let r = by_body ∙ ap (outward (cur + 8) len) e in
              let (_, span) = moved profile_reads d cur (length d) (octets_of_slice d (λ k. (octs k).fits)) h.inside (omega arith) r in
              record {
                inside = data_inside;
                long = ap (λ (y : Filled). length y.table) g ∙ filed_length t i u _ _ _ _ h.long;
                taps = omega (arith, ap (λ (y : Filled). y.counts.taps) g, entries_below p, h.taps);
                names = omega (arith, ap (λ (y : Filled). y.counts.names) g, entries_below p, h.names);
                extras = omega (arith, ap (λ (y : Filled). y.counts.extras) g, entries_below p, h.extras);
                same =
                    h.same ∙ ap (λ (j : ℕ). to_come d j cur t i u) one_left ∙ one_less d (n - (i + 1)) cur t i u r span h.long
                    ∙ ap (λ (y : Filled). to_come d (n - (i + 1)) (cur + 8 + len) y.table (i + 1) y.counts) (sym g);
              }
