-- A profile as an entry: its body's numbers. Assumes nothing.
use Rattle.reference.specs.declared.Profile.{Profile}
use Rattle.table.specs.Region.{Region}
use Rattle.table.specs.Flat.{body_numbers, body_wide, profile_region}

abbrev pub whole_profile_region : Region Profile
whole_profile_region =
    record { start = profile_region.start; width = profile_region.width; size = profile_region.size; numbers = λ p. body_numbers p.body; wide = λ p. body_wide p.body }
