use mathlib.Core.Path.{ap, ◌∙◌, subst}
use Rattle.reference.specs.declared.Tables.{Tables}
use Rattle.reference.proofs.Good.{typed}
use Rattle.table.specs.Flat.{tables_from}
use Rattle.table_struct.proofs.Back.{tables_flat}
use Rattle.writing.specs.Writes.{Writes}
use Rattle.writing.proofs.write_by.Goals as goal

pub returns : goal.returns
returns c =
    let e = ap tables_from c.put_tables.ensures ∙ tables_flat c.args.t (typed c.args.t c.well_formed.0) in
    subst (λ (x : Tables). Writes c.args.rule c.args.way x c.args.src.now c.args.out.now c.write_from_by.result c.write_from_by.new.out) e c.write_from_by.ensures
