use Rattle.read_back.proofs.Common.{[], ◌∷◌, None, arith, ints, IsUnsignedInRange, encodes_items, all_of, one_constant, new_elements, adds_functions, adds_element, active, passive, functions, eight}
use Rattle.read_back.proofs.stored.write_elements.Goals as goal

pub returns : goal.returns
returns g c =
    let offset = one_constant c.in_ok-offset.ensures.stores ((omega (arith, ints), omega (arith, ints)), tt) in
    let first = adds_functions (new_elements c.new-section.ensures) (active None (record { bytes = _; instructions = eight })) (c.args.index ∷ []) c.in_ok-active.ensures.ok c.in_ok-active.ensures.was_encodable (tt, offset) (omega (arith, c.ranges.index.fits), tt) in
    let both = adds_element first (record { segment_mode = passive; elements = functions (1 ∷ 2 ∷ []) }) c.in_ok-segment.ensures.ok
    (record { segment_mode = tt; elements = record { count = omega arith; members = all_of (IsUnsignedInRange 32) (1 ∷ 2 ∷ []) (omega arith, (omega arith, tt)) } }) in
    encodes_items c.encode.ensures.appends c.encode.ensures.read both
