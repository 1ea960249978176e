use Rattle.reading.proofs.Bodies.{as_biop, as_lite, opaque_in, opaque_out}
use Rattle.reading.proofs.read_body.Goals as goal

pub returns-then-tag-eq-TAG_BIOP : goal.returns-then-tag-eq-TAG_BIOP
returns-then-tag-eq-TAG_BIOP c = search as_biop

pub returns-then-tag-eq-TAG_LITE_OPTIONS : goal.returns-then-tag-eq-TAG_LITE_OPTIONS
returns-then-tag-eq-TAG_LITE_OPTIONS c = search as_lite

pub returns-then-i-lt-PROFILES : goal.returns-then-i-lt-PROFILES
returns-then-i-lt-PROFILES c = search opaque_in

pub returns-else-i-lt-PROFILES : goal.returns-else-i-lt-PROFILES
returns-else-i-lt-PROFILES c = search opaque_out
