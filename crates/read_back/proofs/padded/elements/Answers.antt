use Rattle.read_back.proofs.Common.{[], ◌∷◌, None, arith, IsUnsignedInRange, contains_padded, all_of, new_elements, adds_element_padded, elements_section, active, functions, zero_offset}
use Rattle.read_back.proofs.padded.elements.Goals as goal

pub returns : goal.returns
returns g c =
    adds_element_padded (contains_padded elements_section.held_padded (new_elements c.new-section.ensures)) (record { segment_mode = active None (record { bytes = _; instructions = zero_offset }); elements = functions (1 ∷ []) }) c.in_ok-active.ensures.ok
    (record { segment_mode = (tt, c.in_ok-offset.ensures); elements = record { count = omega arith; members = all_of (IsUnsignedInRange 32) (1 ∷ []) (omega arith, tt) } })
