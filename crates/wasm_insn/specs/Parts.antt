-- This file defines which immediates follow an opcode, by the shape of the instruction.
use Rattle.std.specs.Prelude.{◌≡◌, ◌⊎◌, List, [], ◌∷◌}
use Rattle.wasm_insn.specs.declared.op.Shape.{Shape}
-- begin: written by tools/instructions
use Rattle.wasm_insn.specs.declared.op.Shape.TheVariants.{Nothing, U, Uu, M, Ml, L, B, H, O, Ou, Ouu, C32, C64, F32, F64, V, Ls, Bt, Tt, Ts, K, Uh, Uuh}
-- end: written by tools/instructions
use Rattle.wasm_insn.specs.declared.part.Part.{Part}
use Rattle.wasm_insn.specs.declared.part.Part.TheVariants as parts

-- The immediates of this type are a list. Decoding one requests memory.
abbrev pub IsList : Part → Type 0
IsList p = (p ≡ parts.Labels) ⊎ ((p ≡ parts.Catches) ⊎ ((p ≡ parts.Types) ⊎ (p ≡ parts.Handles)))

-- The types of the immediates of a shape, in order.
abbrev pub parts_of : Shape → List Part
-- begin: written by tools/instructions
parts_of Nothing = []
parts_of U = parts.Unsigned ∷ []
parts_of Uu = parts.Unsigned ∷ parts.Unsigned ∷ []
parts_of M = parts.Memory ∷ []
parts_of Ml = parts.Memory ∷ parts.Lane ∷ []
parts_of L = parts.Lane ∷ []
parts_of B = parts.Block ∷ []
parts_of H = parts.Heap ∷ []
parts_of O = parts.Ordering ∷ []
parts_of Ou = parts.Ordering ∷ parts.Unsigned ∷ []
parts_of Ouu = parts.Ordering ∷ parts.Unsigned ∷ parts.Unsigned ∷ []
parts_of C32 = parts.Signed32 ∷ []
parts_of C64 = parts.Signed64 ∷ []
parts_of F32 = parts.Float32 ∷ []
parts_of F64 = parts.Float64 ∷ []
parts_of V = parts.Vector ∷ []
parts_of Ls = parts.Lanes ∷ []
parts_of Bt = parts.Labels ∷ parts.Unsigned ∷ []
parts_of Tt = parts.Block ∷ parts.Catches ∷ []
parts_of Ts = parts.Types ∷ []
parts_of K = parts.Flag ∷ parts.Unsigned ∷ parts.Heap ∷ parts.Heap ∷ []
parts_of Uh = parts.Unsigned ∷ parts.Handles ∷ []
parts_of Uuh = parts.Unsigned ∷ parts.Unsigned ∷ parts.Handles ∷ []

-- end: written by tools/instructions
