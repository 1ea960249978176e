use Rattle.reference.specs.Layout.{tag_biop, tag_of, data_of, layout_profile}
use Rattle.write_parts.proofs.Laid.{header_after}
use Rattle.write_bodies.proofs.write_biop.Goals as goal

pub returns : goal.returns
unfolding layout_profile tag_of data_of
returns c = header_after 4 tag_biop c.write_biop_data-end.ensures c.write_long_header.ensures
