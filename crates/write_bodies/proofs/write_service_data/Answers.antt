use mathlib.Core.Path.{refl, sym, ap}
use native.Mathlib.Omega.{arith}
use Rattle.octets.specs.Octets.{octets}
use Rattle.octets.proofs.Put.{then, same}
use Rattle.reference.specs.Contents.{name_of}
use Rattle.reference.specs.Layout.{layout_service}
use Rattle.table.specs.Flat.{tables_from}
use Rattle.table.proofs.Entries.{names_length}
use Rattle.write_bodies.proofs.Ahead.{part_count}
use Rattle.write_bodies.proofs.write_service_data.Goals as goal

pub returns : goal.returns
unfolding layout_service tables_from
returns c =
    let n = part_count (tables_from c.args.t.now).names c.args.first.names c.args.count.names (name_of c.args.src.now) (omega (arith, names_length c.args.t.now)) in
    let h = same c.put32-c.ensures refl (ap (octets 4) (sym n)) refl in
    same (then c.put8-a.ensures (then c.write_address-b.ensures (then h (then c.write_entries-d.ensures c.write_run.ensures)))) (omega arith) refl refl
