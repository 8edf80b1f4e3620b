use Rattle.read_back.proofs.Common.{[], ◌∷◌, pos, refl, arith, ints, s32, padded, padded_i32_const, raw_constant, zero_offset}
use Rattle.read_back.proofs.padded.padded_offset.Goals as goal

pub returns : goal.returns
returns g c =
    let zero : s32 padded (0x80 ∷ 0x00 ∷ []) (pos 0) = record { groups = (omega arith, omega arith, omega arith); total = refl; above = omega (arith, ints); below = omega (arith, ints); size = omega arith } in
    raw_constant c.in_ok-offset.ensures.ok zero_offset (padded_i32_const (0x80 ∷ 0x00 ∷ []) (pos 0) zero)
