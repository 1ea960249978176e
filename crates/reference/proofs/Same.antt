-- Tables whose used entries are those of an accepted reading, whatever stands in the unused ones: their counts agree, writing them gives the part back,
-- and what was written is read as a whole with the same tables. Assumes nothing.
use Prim.Native.Nat.{ℕ, ◌≤◌}
use mathlib.Core.Path.{◌≡◌, sym, ap, ◌∙◌, subst}
use mathlib.Core.List.{List, map}
use native.Mathlib.Omega.{arith}
use lib.ListN.{length, take}
use lib.Seq.{take_all}
use Rattle.octets.specs.Octets.{Octets}
use Rattle.reference.specs.declared.TypeIdRule.{TypeIdRule}
use Rattle.reference.specs.declared.AddressWay.{AddressWay}
use Rattle.std.specs.Prelude.{Ok}
use Rattle.reference.specs.declared.Tables.{Tables}
use Rattle.reference.specs.Meaning.{Reference}
use Rattle.reference.specs.Layout.{layout_of, Leads}
use Rattle.reference.specs.Steps.{ok}
use Rattle.reference.specs.Reader.{read_whole}
use Rattle.reference.specs.Used.{Used, taps_in, names_in, extras_in}
use Rattle.reference.specs.Contents.{shown, tap_of, name_of, extra_of, contents, body_said, said}
use Rattle.reference.specs.Placed.{tables_of}
use Rattle.reference.specs.Standard.{canon}
use Rattle.reference.specs.Tabled.{tabled, used_of}
use Rattle.reference.specs.Writer.{counted, image_of, written, leaves}
use Rattle.reference.specs.Promises.{Agrees, GivesBack, SameUsed}
use Rattle.reference.proofs.Octs.{layout_octets}
use Rattle.reference.proofs.Accept.{accepted, whole}
use Rattle.reference.proofs.Shown.{tables_show}
use Rattle.reference.proofs.Back.{canon_formed, canon_room, length_same}
use Rattle.reference.proofs.Fitting.{used_tabled, size_of_lem}
use Rattle.reference.proofs.Saying.{tables_agree}
use Rattle.reference.proofs.Written.{part_given_back, contents_canon}
use Rattle.reference.proofs.Measured.{accepted_writing_puts, only_used_matter}

-- two that are alike to a third are alike
pub same_both : {t t' x : Tables} → SameUsed t x → SameUsed t' x → SameUsed t t'
same_both h h' =
    record {
      profiles = h.profiles ∙ sym h'.profiles;
      taps = h.taps ∙ sym h'.taps;
      names = h.names ∙ sym h'.names;
      extras = h.extras ∙ sym h'.extras;
      entries = h.entries ∙ sym h'.entries;
    }

same_agrees : (t t' : Tables) → SameUsed t t' → Agrees t' → Agrees t
same_agrees t t' h a =
    let u = h.entries in
    let p = ap (λ (x : Used). x.profiles) u in
    record {
      profiles = ap (λ (x : Used). length x.profiles) u ∙ a.profiles ∙ sym h.profiles;
      taps = ap (λ (x : Used). length x.taps) u ∙ a.taps ∙ sym h.taps;
      names = ap (λ (x : Used). length x.names) u ∙ a.names ∙ sym h.names;
      extras = ap (λ (x : Used). length x.extras) u ∙ a.extras ∙ sym h.extras;
      taps_sum = ap (counted taps_in) p ∙ a.taps_sum ∙ sym h.taps;
      names_sum = ap (counted names_in) p ∙ a.names_sum ∙ sym h.names;
      extras_sum = ap (counted extras_in) p ∙ a.extras_sum ∙ sym h.extras;
    }

-- contents are those of used counts and used entries
pub same_saying : (s : List ℕ) (t t' : Tables) → SameUsed t t' → said s t ≡ said s t'
same_saying s t t' h =
    let u = h.entries in
    λ j.
    record {
      profiles_used = h.profiles j;
      taps_used = h.taps j;
      names_used = h.names j;
      extras_used = h.extras j;
      type_id = shown s (u j).type_id;
      profiles = map (λ p. body_said s p.body) (u j).profiles;
      taps = map (tap_of s) (u j).taps;
      names = map (name_of s) (u j).names;
      extras = map (extra_of s) (u j).extras;
    }

module _ (rule : TypeIdRule) where
  -- tables t with the used entries of m
  module _ (m : Reference) (t : Tables) (h : SameUsed t (tabled (tables_of rule m))) where
    pub used_same : used_of t ≡ tables_of rule m
    used_same = h.entries ∙ used_tabled (tables_of rule m)

    pub used_agrees : Agrees t
    used_agrees = same_agrees t (tabled (tables_of rule m)) h (tables_agree rule m)

module _ (rule : TypeIdRule) (way : AddressWay) (m : Reference) (t : Tables) (h : SameUsed t (tabled (tables_of rule m))) where
  module _ (d : List ℕ) (n : ℕ) (l : Leads rule d m n) where
    pub used_shows : contents way d (used_of t) ≡ canon way m
    used_shows = ap (contents way d) (used_same rule m t h) ∙ tables_show rule way d m n l

    -- the constants are put in once
    pub canon_twice : canon way (canon way m) ≡ canon way m
    canon_twice =
        let e = tables_show rule way d m n l in
        ap (canon way) (sym e) ∙ contents_canon way d (tables_of rule m) ∙ e

    module _ (o : Octets d) (small : length d ≤ 65535) (out : List ℕ) (room : n ≤ length out) where
      pub used_given_back : (written rule t d out ≡ Ok n) × (GivesBack rule way d m n out (leaves rule way t d out))
      used_given_back =
          let w = only_used_matter rule way t (tabled (tables_of rule m)) h d out in
          let (a, g) = part_given_back rule way d o m n (accepted rule d o small m n l) out room in
          (w.answers ∙ a, subst (λ (x : List ℕ). GivesBack rule way d m n out x) (sym w.leave) g)

      -- the copy: the layout of the meaning with its constants
      copied : take n (leaves rule way t d out) ≡ layout_of rule (canon way m)
      unfolding image_of
      copied = (accepted_writing_puts rule way t d out n used_given_back.0).front ∙ ap (layout_of rule) used_shows

      pub copy_leads : (Leads rule (take n (leaves rule way t d out)) (canon way m) n) × (n ≡ length (take n (leaves rule way t d out)))
      copy_leads =
          let x = layout_of rule (canon way m) in
          let lx : length x ≡ n = length_same rule way m ∙ (size_of_lem rule d m n l).0 in
          subst (λ (y : List ℕ). (Leads rule y (canon way m) n) × (n ≡ length y)) (sym copied)
          (record { inside = omega arith; part = take_all n x (omega arith); formed = canon_formed rule way m l.formed; room = canon_room way m l.room }, sym lx)

      pub copy_octets : Octets (take n (leaves rule way t d out))
      copy_octets = subst Octets (sym copied) (layout_octets rule (canon way m) (canon_formed rule way m l.formed))

      pub copy_read : read_whole rule (take n (leaves rule way t d out)) ≡ ok (canon way m) n
      copy_read =
          let e = copy_leads.1 in
          (whole rule (take n (leaves rule way t d out)) copy_octets (omega (arith, l.inside)) (canon way m) n).1 copy_leads
