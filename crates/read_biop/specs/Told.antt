-- What the readers of BIOP data tell, in the definition's words: the ObjectLocation, and what follows it. Assumes nothing.
use Rattle.std.specs.Prelude.{ℕ, ◌+◌, ◌-◌, ◌≡◌, List, Ok, Err}
use Rattle.octets.specs.Octets.{be, part}
use Rattle.reference.specs.declared.ObjectLocation.{ObjectLocation}
use Rattle.reference.specs.Refusals.{Told}
use Rattle.reference.specs.Meaning.{Location, Biop}
use Rattle.reference.specs.Steps.{Answer, ok, refused, Reader, after}
use Rattle.reference.specs.Heads.{BiopHead, read_binder_head, read_biop_rest}
use Rattle.read_biop.specs.declared.Head.{Head}

-- ---- the ObjectLocation, whose fields stand at 7

-- the one that ends at next
abbrev pub location_of : List ℕ → ℕ → Location
location_of d next =
    record { carousel = be (part d 7 4); module_id = be (part d 11 2); major = be (part d 13 1); minor = be (part d 14 1); key = part d 16 (next - 16) }

abbrev pub location_told : List ℕ → Told → Answer Location
location_told d (Ok next) = ok (location_of d next) next
location_told d (Err x) = refused x

-- its entry
pub record LocationIn (d : List ℕ) (base next : ℕ) (l : ObjectLocation) : Type 0 where
  pub carousel : l.carousel ≡ (location_of d next).carousel
  pub module_id : l.«module» ≡ (location_of d next).module_id
  pub major : l.version_major ≡ (location_of d next).major
  pub minor : l.version_minor ≡ (location_of d next).minor
  pub key : l.key ≡ record { at = base + 16; len = next - 16 }

-- ---- what follows it

abbrev pub head_of : List ℕ → Head → BiopHead
head_of d h = record { location = location_of d h.binder; taps = h.taps; extras = h.extras; stop = h.stop }

-- from the ConnBinder on, which stands at pos, with so many extras behind it
unfoldable pub read_from_binder : ℕ → Reader Biop
read_from_binder extras d pos =
    after read_binder_head (λ b. read_biop_rest (record { location = location_of d pos; taps = b.head; extras = extras; stop = b.stop })) d pos
