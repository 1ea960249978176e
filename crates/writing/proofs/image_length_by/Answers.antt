use mathlib.Core.Path.{ap, ◌∙◌}
use Rattle.reference.specs.declared.Tables.{Tables}
use Rattle.reference.specs.Writer.{measured}
use Rattle.reference.proofs.Good.{typed}
use Rattle.table.specs.Flat.{tables_from}
use Rattle.table_struct.proofs.Back.{tables_flat}
use Rattle.writing.proofs.image_length_by.Goals as goal

pub returns : goal.returns
returns c =
    let e = ap tables_from c.put_tables.ensures ∙ tables_flat c.args.t (typed c.args.t c.well_formed.0) in
    c.length_from.ensures ∙ ap (λ (x : Tables). measured c.args.rule x c.args.src.now) e
