use Rattle.read_back.proofs.Common.{new_module, finished, gains_items_padded, gains_names_padded, tables_section, elements_section, segments_section}
use Rattle.read_back.proofs.padded.padded_entries.Goals as goal

pub returns : goal.returns
returns g c =
    let tables = gains_items_padded tables_section.held_padded (new_module c.in_ok-built.ensures.read) c.in_ok-section.ensures.read c.in_ok-section.ensures.was_encodable c.in_ok-section.ensures.section c.in_ok-tables.ensures in
    let elements = gains_items_padded elements_section.held_padded tables c.in_ok-section-2.ensures.read c.in_ok-section-2.ensures.was_encodable c.in_ok-section-2.ensures.section c.in_ok-elements.ensures in
    let segments = gains_items_padded segments_section.held_padded elements c.in_ok-section-3.ensures.read c.in_ok-section-3.ensures.was_encodable c.in_ok-section-3.ensures.section c.in_ok-segments.ensures in
    let names = gains_names_padded segments c.in_ok-section-4.ensures.read c.in_ok-section-4.ensures.was_encodable c.in_ok-section-4.ensures.section c.in_ok-names.ensures in
    finished names c.finish.ensures
