-- Written by tools/answers.
use Rattle.examples.proofs.Common.{[], ◌∷◌, arith, refl, pos, ints, contains_padded, encodes_items_padded, s32, padded, included_constant, padded_i32_const, new_globals, adds_global_padded}
use Rattle.examples.proofs.Common.{globals_section, number, sum_global}
use Rattle.examples.proofs.sums.encode_sum_and_padded.Goals as goal

pub returns : goal.returns
returns g c =
    let s1 = adds_global_padded (contains_padded globals_section.held_padded (new_globals c.new-section.ensures)) (sum_global c.args.index) _ c.in_ok-global.ensures.ok tt (included_constant _ (sum_global c.args.index).init c.in_ok-sum_of.ensures) in
    let n1 : s32 padded (0x80 ∷ 0x00 ∷ []) (pos 0) = record { groups = (omega arith, omega arith, omega arith); total = refl; above = omega (arith, ints); below = omega (arith, ints); size = omega arith } in
    let s2 = adds_global_padded s1 (number (pos 0)) (0x41 ∷ 0x80 ∷ 0x00 ∷ []) c.in_ok-raw.ensures.ok tt (padded_i32_const (0x80 ∷ 0x00 ∷ []) (pos 0) n1) in
    encodes_items_padded globals_section.held_padded c.encode.ensures.appends c.encode.ensures.read s2
