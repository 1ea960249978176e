use mathlib.Core.Path.{sym, ap, ◌∙◌}
use lib.Dec.{leb}
use borrow.Author.Tests.{lt-leb}
use Rattle.reference.specs.Writer.{size_of}
use Rattle.table.specs.Flat.{tables_from}
use Rattle.survey.specs.ByTable.{used_in}
use Rattle.survey.specs.Seen.{passing}
use Rattle.faults.proofs.ByTable.{ends_told, octets_told}
use Rattle.faults.proofs.Order.{differ, ok_passes, err_fails, passed_pass, stop_source, counts_fail, views_fail, at_image, image_passing}
use Rattle.faults.proofs.is_sound.Goals.{then-n-le-MOST, else-n-le-MOST, then-is_ok, else-is_ok}
use Rattle.faults.proofs.is_sound.Goals as goal

-- `faults::is_sound` meets its contract. 6, 8, 9 and 10 in their order. Assumes nothing.
pub returns-then-s-lt-BOUND : goal.returns-then-s-lt-BOUND
returns-then-s-lt-BOUND c =
    let a = c.args in
    let t = tables_from a.t.now in
    elim c.if-is_ok.branch [
      | then-is_ok w ↦ elim c.if-n-le-MOST.branch [
        | then-n-le-MOST v ↦
            let counts = sym v.check_counts.ensures ∙ ok_passes _ (sym v.is_ok.ensures.value ∙ sym v.value-is ∙ w.if-is_ok.true) in
            let views = passed_pass _ (sym (ends_told c.requires v.if-n-le-MOST.true) ∙ sym w.value-is ∙ c.if-s-lt-BOUND.true) in
            ap (λ m. leb m 65535) (octets_told a.rule c.requires counts c.image_size.ensures)
            ∙ image_passing (size_of a.rule (used_in a.t.now))
            ∙ sym (ap passing (at_image a.rule t a.n v.if-n-le-MOST.true counts views))
        | else-n-le-MOST v ↦ differ (sym (lt-leb a.n 65535 v.if-n-le-MOST.false) ∙ sym v.value-is ∙ w.if-is_ok.true)
      ]
      | else-is_ok w ↦ differ (sym w.if-is_ok.false ∙ sym w.value-is ∙ c.if-s-lt-BOUND.true)
    ]

pub returns-else-s-lt-BOUND : goal.returns-else-s-lt-BOUND
returns-else-s-lt-BOUND c =
    let a = c.args in
    let t = tables_from a.t.now in
    c.if-s-lt-BOUND.false ∙ sym (elim c.if-is_ok.branch [
      | then-is_ok w ↦ elim c.if-n-le-MOST.branch [
        | then-n-le-MOST v ↦
            let counts = sym v.check_counts.ensures ∙ ok_passes _ (sym v.is_ok.ensures.value ∙ sym v.value-is ∙ w.if-is_ok.true) in
            views_fail a.rule t a.n v.if-n-le-MOST.true counts (sym (ends_told c.requires v.if-n-le-MOST.true) ∙ sym w.value-is ∙ c.if-s-lt-BOUND.false)
        | else-n-le-MOST v ↦ ap passing (stop_source a.rule t a.n v.if-n-le-MOST.false)
      ]
      | else-is_ok w ↦ elim c.if-n-le-MOST.branch [
        | then-n-le-MOST v ↦
            counts_fail a.rule t a.n v.if-n-le-MOST.true (ap passing (sym v.check_counts.ensures) ∙ err_fails _ (sym v.is_ok.ensures.value ∙ sym v.value-is ∙ w.if-is_ok.false))
        | else-n-le-MOST v ↦ ap passing (stop_source a.rule t a.n v.if-n-le-MOST.false)
      ]
    ])
