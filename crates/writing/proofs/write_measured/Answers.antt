use borrow.Author.Rules.{rules}
use mathlib.Core.Path.{◌∙◌}
use lib.ListN.{length}
use Rattle.reference.proofs.Steps.{passed_on}
use Rattle.table.specs.Flat.{tables_from}
use Rattle.writing.proofs.Answers.{output_decides, counts_pass, refuses, accepts}
use Rattle.writing.proofs.write_measured.Goals as goal

pub check_output-requires : goal.check_output-requires
check_output-requires c =
    let a = c.args in
    (counts_pass a.rule (tables_from a.t.now) (length a.src.now) (length a.out.now) c.requires.0, c.requires.1)

-- measuring has passed, so the checks of the output decide
pub returns-in_err-check_output : goal.returns-in_err-check_output
returns-in_err-check_output c =
    let a = c.args in
    rw (passed_on c.from_residual.result c.from_residual.ensures.1)
    (refuses a.rule a.way (tables_from a.t.now) a.src.now a.out.now (output_decides a.rule (tables_from a.t.now) (length a.src.now) (length a.out.now) c.requires.0 ∙ search rules))

pub write_image-requires : goal.write_image-requires
write_image-requires c =
    let a = c.args in
    output_decides a.rule (tables_from a.t.now) (length a.src.now) (length a.out.now) c.requires.0 ∙ search rules

pub returns : goal.returns
returns c =
    let a = c.args in
    accepts a.rule a.way (tables_from a.t.now) a.src.now a.out.now
    (output_decides a.rule (tables_from a.t.now) (length a.src.now) (length a.out.now) c.requires.0 ∙ search rules) c.write_image.ensures
