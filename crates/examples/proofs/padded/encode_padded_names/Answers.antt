use Rattle.wasm_base.proofs.Words.{[], ◌∷◌, refl, arith, ContainsPadded, u32, size_prefixed, name, padded, ascii, contains_padded, encoded_padded, u32_small}
use Rattle.wasm_custom.proofs.Words.{new_names, adds_raw_names, names_section, name_map, subsection, ContainsNames, name_payload}
use Rattle.examples.proofs.padded.encode_padded_names.Goals as goal

pub returns : goal.returns
returns g c =
    let zero : u32 padded (0x80 ∷ 0x00 ∷ []) 0 = record { groups = (omega arith, omega arith, omega arith); total = refl; range = omega arith; size = omega arith } in
    let one = u32_small padded 1 (omega arith) in
    let named : name padded (0x01 ∷ 0x61 ∷ []) (97 ∷ []) = (record { front = 0x01 ∷ []; content = 97 ∷ []; joined = refl; size = one; encodes = refl }, ascii refl) in
    let map : name_map padded (0x01 ∷ 0x80 ∷ 0x00 ∷ 0x01 ∷ 0x61 ∷ []) ((0, 97 ∷ []) ∷ []) = record {
      front = 0x01 ∷ [];
      back = 0x80 ∷ 0x00 ∷ 0x01 ∷ 0x61 ∷ [];
      joined = refl;
      first = one;
      second = (0x80 ∷ 0x00 ∷ 0x01 ∷ 0x61 ∷ [], [], refl, record { front = 0x80 ∷ 0x00 ∷ []; back = 0x01 ∷ 0x61 ∷ []; joined = refl; first = zero; second = named }, refl);
    } in
    let s0 = contains_padded names_section.held_padded (new_names c.new-names.ensures) in
    let s1 = adds_raw_names s0 1 (0x01 ∷ 0x80 ∷ 0x00 ∷ 0x01 ∷ 0x61 ∷ []) ((0, 97 ∷ []) ∷ []) c.in_ok-raw.ensures.ok c.in_ok-raw.ensures.was_encodable refl map in
    encoded_padded (size_prefixed name_payload) (ContainsNames _) (ContainsPadded subsection _) c.encode.ensures.appends c.encode.ensures.read s1
