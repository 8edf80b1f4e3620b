use Rattle.read_back.proofs.Common.{[], ◌∷◌, refl, arith, u32, name, padded, ascii, contains_padded, u32_small, new_names, adds_raw_names_inside, names_section, name_map, indirect_map}
use Rattle.read_back.proofs.padded.names.Goals as goal

pub returns : goal.returns
returns g c =
    let zero : u32 padded (0x80 ∷ 0x00 ∷ []) 0 = record { groups = (omega arith, omega arith, omega arith); total = refl; range = omega arith; size = omega arith } in
    let one = u32_small padded 1 (omega arith) in
    let named : name padded (0x01 ∷ 0x61 ∷ []) (97 ∷ []) = (record { front = 0x01 ∷ []; content = 97 ∷ []; joined = refl; size = one; encodes = refl }, ascii refl) in
    let map : name_map padded (0x01 ∷ 0x80 ∷ 0x00 ∷ 0x01 ∷ 0x61 ∷ []) ((0, 97 ∷ []) ∷ []) = record {
      front = 0x01 ∷ [];
      back = 0x80 ∷ 0x00 ∷ 0x01 ∷ 0x61 ∷ [];
      joined = refl;
      first = one;
      second = (0x80 ∷ 0x00 ∷ 0x01 ∷ 0x61 ∷ [], [], refl, record { front = 0x80 ∷ 0x00 ∷ []; back = 0x01 ∷ 0x61 ∷ []; joined = refl; first = zero; second = named }, refl);
    } in
    let inside : indirect_map padded (0x01 ∷ 0x00 ∷ 0x01 ∷ 0x80 ∷ 0x00 ∷ 0x01 ∷ 0x61 ∷ []) ((0, (0, 97 ∷ []) ∷ []) ∷ []) = record {
      front = 0x01 ∷ [];
      back = 0x00 ∷ 0x01 ∷ 0x80 ∷ 0x00 ∷ 0x01 ∷ 0x61 ∷ [];
      joined = refl;
      first = one;
      second = (
        0x00 ∷ 0x01 ∷ 0x80 ∷ 0x00 ∷ 0x01 ∷ 0x61 ∷ [],
        [],
        refl,
        record { front = 0x00 ∷ []; back = 0x01 ∷ 0x80 ∷ 0x00 ∷ 0x01 ∷ 0x61 ∷ []; joined = refl; first = u32_small padded 0 (omega arith); second = map },
        refl,
      );
    } in
    adds_raw_names_inside (contains_padded names_section.held_padded (new_names c.new-section.ensures)) 2 (0x01 ∷ 0x00 ∷ 0x01 ∷ 0x80 ∷ 0x00 ∷ 0x01 ∷ 0x61 ∷ []) ((0, (0, 97 ∷ []) ∷ []) ∷ []) c.in_ok-raw.ensures.ok c.in_ok-raw.ensures.was_encodable refl inside
