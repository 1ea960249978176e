-- Where the regions of a table begin and how long it is, as firmware counts: the numbers that include/ior.h names. Assumes nothing.
use mathlib.Core.Path.{◌≡◌, refl}
use Rattle.table.specs.Flat.{tap_region, name_region, extra_region, table_size}

pub places : (tap_region.start ≡ 86) × (name_region.start ≡ 266) × (extra_region.start ≡ 394) × (table_size ≡ 490)
places = (refl, refl, refl, refl)
