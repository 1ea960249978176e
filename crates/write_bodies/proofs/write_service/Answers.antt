use Rattle.reference.specs.Layout.{tag_service}
use Rattle.write_parts.proofs.Laid.{header_after}
use Rattle.write_bodies.proofs.write_service.Goals as goal

pub returns : goal.returns
returns c = header_after 4 tag_service c.write_service_data-end.ensures c.write_long_header.ensures
