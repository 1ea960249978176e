use native.Mathlib.Omega.{arith}
use Prim.Native.Nat.{ℕ}
use mathlib.Core.Path.{ap, ◌∙◌}
use mathlib.Core.List.{List}
use Rattle.octets.specs.Octets.{splice}
use Rattle.reference.proofs.Good.{typed}
use Rattle.table.specs.Region.{stored}
use Rattle.table.specs.Flat.{tap_region, name_region, extra_region}
use Rattle.table_struct.proofs.Whole.{front_of, whole_stored, filed_flat}
use Rattle.table_struct.proofs.put_tables.Goals as goal

pub returns : goal.returns
returns c =
    let x = c.args.t in
    let y = typed x c.well_formed.0 in
    c.put_front.ensures
    ∙ ap (λ (u : List ℕ). splice u 0 (front_of x))
    (c.put_entries-4.ensures
    ∙ ap (λ (u : List ℕ). stored extra_region u 0 x.extras)
    (c.put_entries-3.ensures
    ∙ ap (λ (u : List ℕ). stored name_region u 0 x.names)
    (c.put_entries-2.ensures ∙ ap (λ (u : List ℕ). stored tap_region u 0 x.taps) (c.put_entries.ensures ∙ whole_stored c.args.out.now x.profiles y.eight))))
    ∙ filed_flat x y c.args.out.now (omega arith)
