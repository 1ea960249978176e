-- Check 2 of one profile of a lent table, whose taps and extras begin at given entries. Assumes nothing.
use Rattle.std.specs.Prelude.{ℕ, ◌+◌, ◌<◌, ◌≤◌, List}
use Rattle.octets.specs.Octets.{part}
use Rattle.reference.specs.declared.Tap.{Tap}
use Rattle.reference.specs.declared.LiteComponent.{LiteComponent}
use Rattle.reference.specs.declared.TaggedProfile.{TaggedProfile}
use Rattle.reference.specs.Refusals.{Check}
use Rattle.reference.specs.Used.{taps_in, extras_in}
use Rattle.reference.specs.Writer.{body_short}
use Rattle.table.specs.Flat.{body_of_table, profile_region, tap_region, extra_region, taps_used, extras_used}
use Rattle.survey.specs.ByTable.{used_in}

-- of a profile with its entries among those of the tables
abbrev pub short_at : List Tap → List LiteComponent → ℕ → ℕ → TaggedProfile → Check
short_at ts es tap extra b = body_short b (part ts tap (taps_in b)) (part es extra (extras_in b))

-- of profile i
abbrev pub short_here : List ℕ → ℕ → ℕ → ℕ → Check
short_here t i tap extra = short_at (used_in t).taps (used_in t).extras tap extra (body_of_table t i)

-- the entries of profile i lie within the used ones
pub record Within (t : List ℕ) (i tap extra : ℕ) : Type 0 where
  pub profile : i < profile_region.size
  pub taps : taps_used t ≤ tap_region.size
  pub extras : extras_used t ≤ extra_region.size
  pub taps_within : tap + taps_in (body_of_table t i) ≤ taps_used t
  pub extras_within : extra + extras_in (body_of_table t i) ≤ extras_used t
