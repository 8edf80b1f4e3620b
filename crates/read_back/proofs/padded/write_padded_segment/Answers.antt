use Rattle.read_back.proofs.Common.{encodes_items_padded, segments_section}
use Rattle.read_back.proofs.padded.write_padded_segment.Goals as goal

pub returns : goal.returns
returns g c = encodes_items_padded segments_section.held_padded c.encode.ensures.appends c.encode.ensures.read c.in_ok-section.ensures
