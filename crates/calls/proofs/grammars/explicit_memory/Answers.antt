use Rattle.wasm_base.proofs.Words.{[], ◌∷◌, refl, sym, arith, standard, u64}
use Rattle.calls.proofs.grammars.explicit_memory.Goals as goal

pub returns : goal.returns
returns g c =
    let read = c.in_ok-memory.ensures.found in
    let offset : u64 standard (5 ∷ []) 5 = record { groups = omega arith; total = refl; range = omega arith; size = omega arith } in
    (c.immediates.ensures.memory.unique standard read.front (0x42 ∷ 0x00 ∷ 0x05 ∷ []) _ [] _ _ read.encodes (c.standard.ensures 2 (0x05 ∷ []) 5 (omega arith) offset) (sym read.split)).0
