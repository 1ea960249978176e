use borrow.Author.Rules.{rules}
use Rattle.reference.specs.Writer.{entry_views}
use Rattle.table.specs.Flat.{profile_of_table}
use Rattle.faults.proofs.ByTable.{body_views_lem}
use Rattle.faults.proofs.Listed.{whole_listed}
use Rattle.faults.proofs.Going.{by_each}
use Rattle.faults.proofs.check_profiles.Goals as goal

pub returns : goal.returns
returns c =
    let a = c.args in
    by_each (entry_views a.n) (whole_listed (profile_of_table a.t.now) a.count) c.check_each.ensures (λ i found h e. search (body_views_lem, rules))
