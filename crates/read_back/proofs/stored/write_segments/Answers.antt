use Rattle.read_back.proofs.Common.{[], ◌∷◌, arith, refl, ints, minimal, drained_array, u32_small, adds_raw, encodes_items, one_constant, new_segments, adds_active, array_added, data_item, eight}
use Rattle.read_back.proofs.Common.{byte_later}
use Rattle.read_back.proofs.stored.write_segments.Goals as goal

pub returns : goal.returns
returns g c =
    let offset = one_constant c.in_ok-offset.ensures.stores ((omega (arith, ints), omega (arith, ints)), tt) in
    let first = adds_active (new_segments c.new-section.ensures) 0 eight _ (5 ∷ 6 ∷ []) (array_added c.in_ok-active.ensures (5 ∷ 6 ∷ []) (λ it b. b.0)) (omega arith) offset in
    let one = u32_small minimal 1 (omega arith) in
    let raw : data_item minimal (0x01 ∷ 0x01 ∷ 0x07 ∷ []) byte_later = (
      (1, byte_later),
      refl,
      record { front = 0x01 ∷ []; back = 0x01 ∷ 0x07 ∷ []; joined = refl; first = one; second = (7 ∷ [], refl, record { front = 0x01 ∷ []; back = 0x07 ∷ []; joined = refl; first = one; second = (7 ∷ [], [], refl, refl, refl) }) },
    ) in
    encodes_items c.encode.ensures.appends c.encode.ensures.read (adds_raw first byte_later c.in_ok-raw.ensures.ok raw)

pub active-requires : goal.active-requires
active-requires g c = record { can = λ it b. tt; reported = λ it xs b d. drained_array it xs d }
