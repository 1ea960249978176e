-- The context, a run that must reach the end, one law for each case of the code. The premises are what the code knows there, so that a proof
-- only names the law. Assumes nothing.
use Prim.Native.Nat.{ℕ, ◌+◌}
use mathlib.Core.Path.{◌≡◌, ap, ◌∙◌}
use mathlib.Core.List.{List}
use mathlib.Core.Logic.{◌≢◌}
use borrow.Author.Tests.{ne_eqb, eq-eqb}
use Rattle.std.specs.Prelude.{Result, Ok, Err, IsErrAnd}
use Rattle.reference.specs.declared.Refusal.{Refusal}
use Rattle.reference.specs.declared.View.{View}
use Rattle.reference.specs.Refusals.{left_at}
use Rattle.reference.specs.Steps.{Answer, answer_of, ok, refused, seen, ending}
use Rattle.reference.specs.Reader.{read_context}
use Rattle.reference.specs.Placed.{view}
use Rattle.reference.specs.Places.{place_context_length, place_service_leftover}
use Rattle.reference.proofs.Steps.{passed_on}
use Rattle.read_parts.proofs.Runs.{run_told, run_no, run_ok}

module _ (d : List ℕ) (base pos end : ℕ) where
  abbrev context_told : Answer View
  context_told = seen (view (base + pos + 4)) (read_context d pos end)

  module _ (r : Result (View × ℕ) Refusal) (read : answer_of r ≡ run_told 4 place_context_length d base pos end) where
    pub context_no : {x : Refusal} → r ≡ Err x → (w : Result (View × ℕ) Refusal) → IsErrAnd w (λ y. y ≡ x) → answer_of w ≡ context_told
    unfolding read_context ending
    context_no q w h = ap answer_of (passed_on w h) ∙ rw (run_no 4 place_context_length d base pos end r read q)

    module _ {v : View} {next : ℕ} (q : r ≡ Ok (v, next)) where
      pub context_left : {x : Refusal} → x ≡ left_at place_service_leftover next end → next ≢ end → refused x ≡ context_told
      unfolding read_context ending
      context_left e ne = let (s, f, w) = run_ok 4 place_context_length d base pos end r read q in simp (e, f, ne_eqb)

      pub context_read : next ≡ end → ok v next ≡ context_told
      unfolding read_context ending
      context_read h = let (s, f, w) = run_ok 4 place_context_length d base pos end r read q in simp (f, eq-eqb) (ap (λ (x : View). ok x next) w)
