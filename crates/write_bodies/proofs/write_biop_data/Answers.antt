use mathlib.Core.List.{◌++◌}
use mathlib.Core.Path.{refl, sym, ap}
use Prim.Native.Nat.{ℕ, ◌+◌}
use native.Mathlib.Omega.{arith}
use Rattle.octets.specs.Octets.{octets}
use Rattle.octets.proofs.Put.{then, same}
use Rattle.reference.specs.Contents.{extra_of}
use Rattle.reference.specs.Layout.{layout_biop, data_of}
use Rattle.table.specs.Flat.{tables_from}
use Rattle.table.proofs.Entries.{extras_length}
use Rattle.write_parts.proofs.Laid.{two, last}
use Rattle.write_bodies.proofs.Ahead.{part_count}
use Rattle.write_bodies.proofs.write_biop_data.Goals as goal

pub returns : goal.returns
unfolding layout_biop data_of tables_from
returns c =
    let n = part_count (tables_from c.args.t.now).extras c.args.first.extras c.args.count.extras (extra_of c.args.src.now) (omega (arith, extras_length c.args.t.now)) in
    let h = same c.write_fixed-a.ensures refl (ap (λ (k : ℕ). octets 1 0 ++ octets 1 (k + 2)) (sym n)) refl in
    same (two (octets 1 0) _ h (then c.write_location-b.ensures (then c.write_binder-c.ensures (last c.write_entries.ensures)))) (omega arith) refl refl
