-- Profile i of a lent table with its own entries, and where they begin. Assumes nothing.
use Rattle.std.specs.Prelude.{ℕ, ◌+◌, ◌≤◌, List}
use Rattle.reference.specs.declared.TaggedProfile.{TaggedProfile}
use Rattle.reference.specs.Used.{Own, taps_in, names_in, extras_in}
use Rattle.table.specs.declared.Counts.{Counts}
use Rattle.table.specs.Flat.{body_of_table, tap_region, name_region, extra_region}
use Rattle.write_bodies.specs.Own.{taps_on, names_on, extras_on}

-- how many entries a profile counts
abbrev pub counts_in : TaggedProfile → Counts
counts_in b = record { taps = taps_in b; names = names_in b; extras = extras_in b }

-- the profile b with its entries in the table t, which begin at f
abbrev pub own_with : List ℕ → Counts → TaggedProfile → Own
own_with t f b =
    record { body = b; taps = taps_on t f.taps (taps_in b); names = names_on t f.names (names_in b); extras = extras_on t f.extras (extras_in b) }

-- profile i of the table
abbrev pub own_on : List ℕ → ℕ → Counts → Own
own_on t i f = own_with t f (body_of_table t i)

-- where the next profile's entries begin
abbrev pub after_of : Counts → Counts → Counts
after_of f n = record { taps = f.taps + n.taps; names = f.names + n.names; extras = f.extras + n.extras }

-- the entries n of a profile that begin at f lie within the tables
pub record Placed (f n : Counts) : Type 0 where
  pub taps : f.taps + n.taps ≤ tap_region.size
  pub names : f.names + n.names ≤ name_region.size
  pub extras : f.extras + n.extras ≤ extra_region.size
