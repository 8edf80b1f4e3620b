use Rattle.read_back.proofs.Common.{List, [], ◌∷◌, refl, arith, u32, members, padded, u32_small, Global, normal_row, new_code, encodes_padded, without_runs, adds_instructions_padded}
use Rattle.read_back.proofs.Common.{adds_instruction_padded, adds_body_padded, included_body, encodes_code_padded, unsigned, Plain, instruction, table, byte_encodes, one_argument, byte_shape, LocalGet}
use Rattle.read_back.proofs.Common.{End, U}
use Rattle.wasm_insn.specs.declared.part.Part.TheVariants as parts
use Rattle.read_back.proofs.padded.write_padded_bodies.Goals as goal

pub returns : goal.returns
returns g c =
    let small = u32_small padded 0 (omega arith) in
    let zero : u32 padded (0x80 ∷ 0x00 ∷ []) 0 = record { groups = (omega arith, omega arith, omega arith); total = refl; range = omega arith; size = omega arith } in
    let row : Plain = normal_row {A = Global} (LocalGet 0) in
    let first = byte_encodes padded 0x20 (0x80 ∷ 0x00 ∷ []) U (unsigned 0 ∷ []) refl (byte_shape 0x20) (one_argument padded parts.Unsigned (0x80 ∷ 0x00 ∷ []) (unsigned 0) (0, refl, zero)) in
    let second = byte_encodes padded 0x20 (0x00 ∷ []) U (unsigned 0 ∷ []) refl (byte_shape 0x20) (one_argument padded parts.Unsigned (0x00 ∷ []) (unsigned 0) (0, refl, small)) in
    let more : List _ = 0x20 ∷ 0x80 ∷ 0x00 ∷ 0x20 ∷ 0x00 ∷ [] in
    let both : members (instruction table) padded more (row ∷ row ∷ []) = (0x20 ∷ 0x80 ∷ 0x00 ∷ [], 0x20 ∷ 0x00 ∷ [], refl, first, (0x20 ∷ 0x00 ∷ [], [], refl, second, refl)) in
    let gets = adds_instructions_padded (without_runs small) more (row ∷ row ∷ []) refl both in
    let body = adds_instruction_padded {A = Global} gets End refl tt in
    let raw = adds_body_padded (encodes_padded (new_code c.new-section.ensures)) c.in_ok-raw.ensures.ok body in
    let all = adds_body_padded raw c.in_ok-function.ensures.ok (included_body c.in_ok-of_nothing.ensures) in
    encodes_code_padded c.encode.ensures.appends c.encode.ensures.read all
