use Rattle.read_back.proofs.Common.{[], ◌∷◌, refl, arith, u32, such, padded, contains_padded, Global, IsNoEnd, StoresPadded, normal_row, raw_constant, members_one, unsigned, Plain, instruction, table}
use Rattle.read_back.proofs.Common.{byte_encodes, one_argument, byte_shape, RefFunc, U, new_tables, adds_table_with_init_padded, tables_section, functions_type}
use Rattle.wasm_insn.specs.declared.part.Part.TheVariants as parts
use Rattle.read_back.proofs.padded.tables.Goals as goal

pub returns : goal.returns
returns g c =
    let zero : u32 padded (0x80 ∷ 0x00 ∷ []) 0 = record { groups = (omega arith, omega arith, omega arith); total = refl; range = omega arith; size = omega arith } in
    let row : Plain = normal_row {A = Global} (RefFunc 0) in
    let encodes = byte_encodes padded 0xD2 (0x80 ∷ 0x00 ∷ []) U (unsigned 0 ∷ []) refl (byte_shape 0xD2) (one_argument padded parts.Unsigned (0x80 ∷ 0x00 ∷ []) (unsigned 0) (0, refl, zero)) in
    let stored : StoresPadded (0xD2 ∷ 0x80 ∷ 0x00 ∷ []) (row ∷ []) = members_one (such IsNoEnd (instruction table)) padded (0xD2 ∷ 0x80 ∷ 0x00 ∷ []) row (encodes, refl) in
    adds_table_with_init_padded (contains_padded tables_section.held_padded (new_tables c.new-section.ensures)) (functions_type 1) (row ∷ []) _ c.in_ok-table_with_init.ensures.ok (record { element_type = tt; minimum = omega arith; maximum = tt }) (raw_constant c.in_ok-first.ensures.ok (row ∷ []) stored)
