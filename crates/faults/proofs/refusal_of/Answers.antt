use Prim.Native.Nat.{ℕ}
use mathlib.Core.Path.{sym, ap, ◌∙◌}
use Rattle.std.specs.Prelude.{Err}
use Rattle.reference.specs.Refusals.{refusal}
use Rattle.table.specs.Flat.{tables_from}
use Rattle.survey.specs.Seen.{passing}
use Rattle.faults.proofs.ByTable.{octets_told}
use Rattle.faults.proofs.Order.{stop_source, stop_counts, stop_views, at_image, image_refused}
use Rattle.faults.proofs.refusal_of.Goals as goal

pub returns-then-n-gt-MOST : goal.returns-then-n-gt-MOST
returns-then-n-gt-MOST c =
    let a = c.args in
    stop_source a.rule (tables_from a.t.now) a.n c.if-n-gt-MOST.true ∙ ap Err (sym c.too_large.ensures)

pub returns-in-Err : goal.returns-in-Err
returns-in-Err c =
    let a = c.args in
    stop_counts a.rule (tables_from a.t.now) a.n c.if-n-gt-MOST.false (sym c.check_counts.ensures ∙ c.in-Err.is)

pub returns-in-Err-check_views : goal.returns-in-Err-check_views
returns-in-Err-check_views c =
    let a = c.args in
    stop_views a.rule (tables_from a.t.now) a.n c.if-n-gt-MOST.false (sym c.check_counts.ensures ∙ c.in_default.is)
    (sym c.check_views.ensures ∙ c.in-Err-check_views.is)

pub returns : goal.returns
returns c =
    let counts = sym c.check_counts.ensures ∙ c.in_default.is in
    let only = at_image c.args.rule (tables_from c.args.t.now) c.args.n c.if-n-gt-MOST.false counts (sym c.check_views.ensures ∙ c.in_default-check_views.is) in
    only ∙ image_refused _ (sym (ap passing only) ∙ c.requires.1)
    ∙ ap Err (ap (λ (m : ℕ). refusal 10 0 m 65535) (sym (octets_told c.args.rule c.requires.0 counts c.image_size.ensures)) ∙ sym c.too_large-2.ensures)
