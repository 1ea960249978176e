use mathlib.Core.Path.{refl, sym, ap}
use native.Mathlib.Omega.{arith}
use Rattle.octets.specs.Octets.{octets}
use Rattle.octets.proofs.Put.{then, same}
use Rattle.reference.specs.Contents.{tap_of}
use Rattle.reference.specs.Layout.{tag_binder, layout_binder}
use Rattle.table.specs.Flat.{tables_from}
use Rattle.table.proofs.Entries.{taps_length_lem}
use Rattle.write_parts.proofs.Laid.{last, header_after}
use Rattle.write_bodies.proofs.Ahead.{part_count}
use Rattle.write_bodies.proofs.write_binder.Goals as goal

pub returns : goal.returns
unfolding layout_binder tables_from
returns c =
    let n = part_count (tables_from c.args.t.now).taps c.args.first.taps c.args.count.taps (tap_of c.args.src.now) (omega (arith, taps_length_lem c.args.t.now)) in
    same (header_after 1 tag_binder (then (same c.put8-p.ensures refl (ap (octets 1) (sym n)) refl) (last c.write_entries-end.ensures)) c.write_header.ensures) (omega arith) refl refl
