-- Written by tools/answers.
use Rattle.examples.proofs.Common.{[], ◌∷◌, arith, refl, pos, neg_ℤ, ints, Global, contains_padded, encodes_items_padded, s32, padded, padded_i32_const, raw_constant, normal_row, I32Const}
use Rattle.examples.proofs.Common.{new_globals, adds_global_padded, globals_section, number}
use Rattle.examples.proofs.padded.encode_padded_globals.Goals as goal

pub returns : goal.returns
returns g c =
    let n1 : s32 padded (0xFF ∷ 0xFF ∷ 0xFF ∷ 0xFF ∷ 0x7F ∷ []) (neg_ℤ (pos 1)) = record { groups = (omega arith, omega arith, (omega arith, omega arith, (omega arith, omega arith, (omega arith, omega arith, omega arith)))); total = refl; above = omega (arith, ints); below = omega (arith, ints); size = omega arith } in
    let e1 = raw_constant c.in_ok-init.ensures.ok (normal_row {A = Global} (I32Const (neg_ℤ (pos 1))) ∷ []) (padded_i32_const (0xFF ∷ 0xFF ∷ 0xFF ∷ 0xFF ∷ 0x7F ∷ []) (neg_ℤ (pos 1)) n1) in
    let s1 = adds_global_padded (contains_padded globals_section.held_padded (new_globals c.new-section.ensures)) (number (neg_ℤ (pos 1))) _ c.in_ok-global.ensures.ok tt e1 in
    let n2 : s32 padded (0x80 ∷ 0x00 ∷ []) (pos 0) = record { groups = (omega arith, omega arith, omega arith); total = refl; above = omega (arith, ints); below = omega (arith, ints); size = omega arith } in
    let s2 = adds_global_padded s1 (number (pos 0)) (0x41 ∷ 0x80 ∷ 0x00 ∷ []) c.in_ok-raw.ensures.ok tt (padded_i32_const (0x80 ∷ 0x00 ∷ []) (pos 0) n2) in
    encodes_items_padded globals_section.held_padded c.encode.ensures.appends c.encode.ensures.read s2
