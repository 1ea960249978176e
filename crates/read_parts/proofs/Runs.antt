-- A run behind its length of w octets, and a name, one law for each case of the code; and what a caller knows of a run in each arm of its
-- match. The premises are what the code knows there, so that a proof only names the law. Assumes nothing.
use Prim.Native.Nat.{ℕ, ◌+◌, ◌-◌, ◌<◌, ◌≤◌}
use mathlib.Core.Path.{◌≡◌, sym, ap, ◌∙◌}
use mathlib.Core.List.{List}
use native.Mathlib.Nat.{add_assoc}
use native.Mathlib.Omega.{arith}
use borrow.Author.Tests.{lt-ltb, le-ltb}
use mir.Syntax.{w8}
use mir.Val.{Fits}
use lib.ListN.{length, get_or, length-append}
use Rattle.std.specs.Prelude.{Result, Ok, Err, IsErrAnd}
use Rattle.octets.specs.Octets.{be, part}
use Rattle.octets.proofs.Inverse.{length_octets}
use Rattle.octets.proofs.Part.{length_part}
use Rattle.reference.specs.declared.NameComponent.{NameComponent}
use Rattle.reference.specs.declared.Refusal.{Refusal}
use Rattle.reference.specs.declared.View.{View}
use Rattle.reference.specs.Refusals.{cut_at, long_at}
use Rattle.reference.specs.Steps.{Answer, answer_of, ok, refused, seen, need, number, run, done, after}
use Rattle.reference.specs.Reader.{read_run, read_named}
use Rattle.reference.specs.Placed.{view}
use Rattle.reference.proofs.Parts.{run_reads}
use Rattle.reference.proofs.Steps.{passed_on, seen_ok, seen_no}
use Rattle.read_parts.specs.Told.{named_at}
use Rattle.read_parts.proofs.Moves.{octets_of_slice, moved}

module _ (w place : ℕ) (d : List ℕ) (base pos end : ℕ) where
  abbrev pub run_told : Answer View
  run_told = seen (view (base + pos + w)) (read_run w place d pos end)

  pub length_cut : {x : Refusal} → x ≡ cut_at place pos w end → end < pos + w → refused x ≡ run_told
  unfolding read_run need
  length_cut e h = simp (e, lt-ltb)

  module _ {n : ℕ} (size : n ≡ be (part d pos w)) (room : pos + w ≤ end) where
    pub run_over : {x : Refusal} → x ≡ long_at (pos + w) n end → end - (pos + w) < n → refused x ≡ run_told
    unfolding read_run need number run
    run_over e h = simp (e, ← size, le-ltb, lt-ltb)

    pub run_read : {v : View} → v ≡ record { at = base + (pos + w); len = n } → n ≤ end - (pos + w) → end ≤ length d → ok v (pos + w + n) ≡ run_told
    unfolding read_run need number run done
    run_read v h m = let k : pos + w + n ≤ length d = omega arith in simp (v, length_part, add_assoc, ← size, le-ltb)

  -- what the code was told of a run
  module _ (r : Result (View × ℕ) Refusal) (read : answer_of r ≡ run_told) where
    pub run_no : {x : Refusal} → r ≡ Err x → read_run w place d pos end ≡ refused x
    run_no q = seen_no (view (base + pos + w)) _ (sym read ∙ ap answer_of q)

    module _ {v : View} {next : ℕ} (q : r ≡ Ok (v, next)) where
      pub run_ok : (s : List ℕ) × (read_run w place d pos end ≡ ok s next) × (v ≡ view (base + pos + w) s)
      run_ok = seen_ok (view (base + pos + w)) _ (sym read ∙ ap answer_of q)

      module _ (octs : (k : ℕ) → Fits w8 (get_or d k 0)) (from : pos ≤ end) (fits : end ≤ length d) where
        pub run_spans : (next ≤ end) × (next ≡ pos + (w + length run_ok.0))
        run_spans =
            let (room, span) = moved (run_reads w place) d pos end (octets_of_slice d (λ k. (octs k).fits)) from fits run_ok.1 in
            (room, omega (arith, simp (length-append, length_octets) at span))

        pub run_inside : next ≤ end
        run_inside = run_spans.0

-- a name is two runs
module _ (w id_place kind_place : ℕ) (d : List ℕ) (base pos end : ℕ) where
  abbrev name_told : Answer NameComponent
  name_told = seen (named_at w (base + pos)) (read_named w id_place kind_place d pos end)

  module _ (r : Result (View × ℕ) Refusal) (first : answer_of r ≡ run_told w id_place d base pos end) where
    pub no_id : {x : Refusal} → r ≡ Err x → (y : Result (NameComponent × ℕ) Refusal) → IsErrAnd y (λ z. z ≡ x) → answer_of y ≡ name_told
    unfolding read_named after
    no_id q y h = ap answer_of (passed_on y h) ∙ rw (run_no w id_place d base pos end r first q)

    module _ {id : View} {mid : ℕ} (q : r ≡ Ok (id, mid)) (s : Result (View × ℕ) Refusal) (second : answer_of s ≡ run_told w kind_place d base mid end) where
      pub no_kind : {x : Refusal} → s ≡ Err x → (y : Result (NameComponent × ℕ) Refusal) → IsErrAnd y (λ z. z ≡ x) → answer_of y ≡ name_told
      unfolding read_named after
      no_kind p y h =
          let (i, e, v) = run_ok w id_place d base pos end r first q in
          ap answer_of (passed_on y h) ∙ rw (e, run_no w kind_place d base mid end s second p)

      pub name_read : {kind : View} {next : ℕ} → s ≡ Ok (kind, next) → ((k : ℕ) → Fits w8 (get_or d k 0)) → pos ≤ end → end ≤ length d
          → ok (record { id = id; kind = kind }) next ≡ name_told
      unfolding read_named after done
      name_read {kind} {next} p octs from fits =
          let (i, e, v) = run_ok w id_place d base pos end r first q in
          let (k, f, u) = run_ok w kind_place d base mid end s second p in
          let at-kind : base + mid + w ≡ base + pos + (w + length i + w) = omega (arith, (run_spans w id_place d base pos end r first q octs from fits).1) in
          rw (e, f) (λ j. ok (record { id = v j; kind = (u ∙ ap (λ (n : ℕ). view n k) at-kind) j }) next)
