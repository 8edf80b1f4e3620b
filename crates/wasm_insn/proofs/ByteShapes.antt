-- This file proves that the list of one-byte shapes has the shape of each opcode at its index.
use Rattle.wasm_base.proofs.Words.{◌≡◌, ℕ, ◌<◌, map, Option, get_or, refl, sym, ap, ◌∙◌, arith, get_or-map-range_with_len, range_with_len}
use Rattle.wasm_insn.specs.declared.op.Op.TheVariants.{Byte}
use Rattle.wasm_insn.specs.declared.op.Shape.{Shape}
use Rattle.wasm_insn.specs.declared.table.TheConstants.{ONE_BYTE}
use Rattle.wasm_insn.specs.{shape_of, one_byte, table, shape_in}
use Rattle.wasm_insn.proofs.TableRuns.{byte_shape}

places : ONE_BYTE ≡ map (shape_in one_byte) (range_with_len 0 256)
places = refl

pub byte_place : (b : ℕ) (d : Option Shape) → b < 256 → get_or ONE_BYTE b d ≡ shape_of table (Byte b)
byte_place b d l = ap (λ t. get_or t b d) places ∙ get_or-map-range_with_len (shape_in one_byte) 0 256 b b d l (omega arith) ∙ sym (byte_shape b)
