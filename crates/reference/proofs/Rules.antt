-- Where the rules agree: on type ids whose length is a multiple of 4. Assumes nothing.
use Prim.Native.Nat.{ℕ, ◌+◌, ◌%◌}
use mathlib.Core.Path.{◌≡◌, refl, ap, ◌∙◌}
use mathlib.Core.List.{List, [], ◌++◌, map}
use lib.ListN.{length, replicate}
use lib.Dec.{ltb, eqb}
use Rattle.octets.specs.Octets.{Octets, part, be, octets, joined, splice}
use Rattle.reference.specs.declared.AddressWay.{AddressWay}
use Rattle.reference.specs.declared.TypeIdRule.TheVariants.{Multiple, Gap}
use Rattle.reference.specs.declared.Tables.{Tables}
use Rattle.reference.specs.Refusals.{Check}
use Rattle.std.specs.Prelude.{Ok, Err}
use Rattle.reference.specs.Meaning.{Reference, sum}
use Rattle.reference.specs.Layout.{allowed, layout_of, layout_profile}
use Rattle.reference.specs.Steps.{Answer, ok, refused, pick, followed, need, number, run, ending, many, after, done, checked}
use Rattle.reference.specs.Refusals.{refusal, cut_at, wrong_at}
use Rattle.reference.specs.Reader.{roomy, read_profile, read_gap, read_reference, read_leading, read_whole, answered, read_count}
use Rattle.reference.specs.Used.{Used, owned_of}
use Rattle.reference.specs.Contents.{contents}
use Rattle.reference.specs.Placed.{placed, gathered, entry_at, taps_at, names_at, extras_at, tables_of}
use Rattle.reference.specs.Tabled.{tabled, used_of}
use Rattle.reference.specs.Checks.{test, both, each}
use Rattle.reference.specs.Writer.{image_of, own_size, size_of, source_check, counts_check, views_check, image_check, room_check, own_short, measure_check, write_check, told, left, measured, written, leaves}
use Rattle.reference.specs.Promises.{ReadAlike, WrittenAlike, RulesAgree}
use Rattle.reference.specs.Places.{place_reference_fixed, place_reference_leftover, place_profile_count, place_type_id_length, place_gap, place_gap_value}
use Rattle.reference.proofs.Gaps.{no_gap}
use Rattle.reference.proofs.Accept.{only_accepted, only_whole}
use Rattle.reference.proofs.Checks.{passes}
use Rattle.reference.proofs.Sizes.{length_shown}
use Rattle.reference.proofs.Formed.{passing}

-- both allow such a length
same_allowed : (n : ℕ) → n % 4 ≡ 0 → allowed Gap n ≡ allowed Multiple n
same_allowed n h = rw h

-- ---- reading

reference_same : (d : List ℕ) (pos end : ℕ) → be (part d pos 4) % 4 ≡ 0 → read_reference Gap d pos end ≡ read_reference Multiple d pos end
unfolding read_reference read_gap need checked number
reference_same d pos end h =
    let n = be (part d pos 4) in
    let a = same_allowed n h in
    let g = no_gap Gap n h in
    λ j.
    pick (ltb end (pos + 8)) (refused (cut_at place_reference_fixed pos 8 end))
    (pick (a j)
    (run n (λ i. after (need (g j) place_gap (checked (g j) (λ v. eqb v (be (replicate (g j) 0xFF))) 3 place_gap_value λ v. done v)) λ g. after (read_count 4 place_profile_count) λ c. after (many c read_profile) λ l. done (record { type_id = i; profiles = l })) d (pos + 4) end)
    (refused (wrong_at 4 place_type_id_length pos)))

pub leading_same : (d : List ℕ) → be (part d 0 4) % 4 ≡ 0 → read_leading Gap d ≡ read_leading Multiple d
unfolding read_leading
leading_same d h =
    ap (λ (x : Answer Reference). pick (ltb 65535 (length d)) (refused (refusal 6 0 (length d) 65535)) (followed x roomy)) (reference_same d 0 (length d) h)

pub whole_same : (d : List ℕ) → be (part d 0 4) % 4 ≡ 0 → read_whole Gap d ≡ read_whole Multiple d
unfolding read_whole ending
whole_same d h =
    ap (λ (x : Answer Reference). pick (ltb 65535 (length d)) (refused (refusal 6 0 (length d) 65535)) (followed (ending place_reference_leftover (λ _ _ _. x) d 0 (length d)) roomy))
    (reference_same d 0 (length d) h)

tables_same : (m : Reference) → length m.type_id % 4 ≡ 0 → tables_of Gap m ≡ tables_of Multiple m
tables_same m h =
    let l = m.profiles in
    ap (λ (k : ℕ).
    let at = 4 + length m.type_id + k + 4 in
    record {
      type_id = (tables_of Multiple m).type_id;
      profiles = placed entry_at layout_profile at l;
      taps = gathered taps_at layout_profile at l;
      names = gathered names_at layout_profile at l;
      extras = gathered extras_at layout_profile at l;
    })
    (no_gap Gap (length m.type_id) h)

answered_same : (a : Answer Reference) → ((m : Reference) (n : ℕ) → a ≡ ok m n → length m.type_id % 4 ≡ 0) → answered Gap a ≡ answered Multiple a
answered_same (ok m n) h = ap (λ (u : Used). record { answer = Ok n; tables = tabled u }) (tables_same m (h m n refl))
answered_same (refused x) h = refl

-- what rule 1 accepts has such a type id
module _ (d : List ℕ) (o : Octets d) (m : Reference) (n : ℕ) where
  pub leading_multiple : read_leading Multiple d ≡ ok m n → length m.type_id % 4 ≡ 0
  leading_multiple e = (only_accepted Multiple d o m n e).1.formed.allowed

  pub whole_multiple : read_whole Multiple d ≡ ok m n → length m.type_id % 4 ≡ 0
  whole_multiple e = (only_whole Multiple d o m n e).1.formed.allowed

read_alike : (d : List ℕ) → Octets d → be (part d 0 4) % 4 ≡ 0 → ReadAlike d
read_alike d o h =
    record {
      leading = ap (answered Gap) (leading_same d h) ∙ answered_same (read_leading Multiple d) (leading_multiple d o);
      whole = ap (answered Gap) (whole_same d h) ∙ answered_same (read_whole Multiple d) (whole_multiple d o);
    }

-- ---- measuring and writing

size_same : (u : Used) → u.type_id.len % 4 ≡ 0 → size_of Gap u ≡ size_of Multiple u
unfolding size_of
size_same u h = ap (λ (k : ℕ). 4 + u.type_id.len + k + 4 + sum own_size (owned_of u)) (no_gap Gap u.type_id.len h)

measure_same : (t : Tables) (n : ℕ) → t.type_id.len % 4 ≡ 0 → measure_check Gap t n ≡ measure_check Multiple t n
unfolding measure_check
measure_same t n h = ap (λ (k : ℕ). both (source_check n) (both (counts_check t) (both (views_check n (used_of t)) (image_check k)))) (size_same (used_of t) h)

write_same : (t : Tables) (n m : ℕ) → t.type_id.len % 4 ≡ 0 → write_check Gap t n m ≡ write_check Multiple t n m
unfolding write_check
write_same t n m h =
    let c = measure_same t n h in
    let k = size_same (used_of t) h in
    let a = same_allowed t.type_id.len h in
    λ j. both (c j) (both (room_check (k j) m) (both (test (a j) (refusal 4 place_type_id_length 0 0)) (each own_short (owned_of (used_of t)))))

layout_same : (m : Reference) → length m.type_id % 4 ≡ 0 → layout_of Gap m ≡ layout_of Multiple m
unfolding layout_of
layout_same m h =
    ap (λ (k : ℕ). octets 4 (length m.type_id) ++ (m.type_id ++ (replicate k 0xFF ++ (octets 4 (length m.profiles) ++ (joined (map layout_profile m.profiles) ++ [])))))
    (no_gap Gap (length m.type_id) h)

left_same : (way : AddressWay) (t : Tables) (s d : List ℕ) → t.type_id.len % 4 ≡ 0 → (c : Check) → write_check Multiple t (length s) (length d) ≡ c → left c d (image_of Gap way s t) ≡ left c d (image_of Multiple way s t)
unfolding image_of views_check
left_same way t s d h (Ok _) e =
    let p = passing Multiple t (length s) (length d) e in
    ap (splice d 0) (layout_same (contents way s (used_of t)) (ap (λ (k : ℕ). k % 4) (length_shown s 0 t.type_id (passes _ _ p.views).0) ∙ h))
left_same way t s d h (Err r) e = refl

written_alike : (way : AddressWay) (t : Tables) (s d : List ℕ) → t.type_id.len % 4 ≡ 0 → WrittenAlike way t s d
unfolding measured written leaves
written_alike way t s d h =
    let k = size_same (used_of t) h in
    let c = measure_same t (length s) h in
    let w = write_same t (length s) (length d) h in
    record {
      measures = λ j. told (c j) (k j);
      answers = λ j. told (w j) (k j);
      leave = ap (λ (x : Check). left x d (image_of Gap way s t)) w ∙ left_same way t s d h (write_check Multiple t (length s) (length d)) refl;
    }

-- Where the type id's length is a multiple of 4 both rules give equal answers, in reading, measuring and writing.
pub rules_agree : RulesAgree
rules_agree = record { reading = read_alike; writing = written_alike }
