-- This file proves how the bodies of `Decodings` decode.
use Rattle.wasm_base.proofs.Words.{◌≡◌, ◌++◌, [], ◌∷◌, Some, pos, false, arith, refl, ints, DecodesWhole, one_group, decodes_whole}
use Rattle.std.specs.declared.alloc.Global.{Global}
use Rattle.wasm_insn.specs.declared.instruction.Instruction.{Instruction}
use Rattle.wasm_insn.proofs.Words.{instruction_encoding}
use Rattle.wasm_insn.specs.declared.instruction.Instruction.TheVariants.{I32Load, I32Const, End}
use Rattle.wasm_immediates.specs.declared.memory.MemArgOrdering.TheVariants.{Op}
use Rattle.wasm_immediates.specs.declared.memory.MemArgTarget.TheVariants.{Memory}
use Rattle.wasm_immediates.specs.declared.memory.Ordering.TheVariants.{SeqCst}
use Rattle.wasm_code.proofs.Words.{IsWellFormedBody, body, locals_encoding, body_whole, has_locals, grows}
use Rattle.calls.specs.Decodings.{without_locals, ordered_load, constant_and_end}

abbrev load : Instruction Global
load = I32Load (record { offset = 11; align = 0; target = Memory 0; ordering = Some (Op SeqCst) })

abbrev one : Instruction Global
one = I32Const (pos 1)

abbrev end : Instruction Global
end = End

no_runs : 0x00 ∷ [] ≡ locals_encoding []
no_runs = rw (one_group false 0x80 0 (omega arith)) refl

load_is : 0x00 ∷ 0x28 ∷ 0x10 ∷ 0x00 ∷ 0x0B ∷ [] ≡ (0x00 ∷ []) ++ instruction_encoding load
load_is = rw (one_group false 0x80 16 (omega arith), one_group false 0x80 11 (omega arith)) refl

one_is : 0x00 ∷ 0x41 ∷ 0x01 ∷ [] ≡ (0x00 ∷ []) ++ instruction_encoding one
one_is = rw (one_group false 0x40 1 (omega arith)) refl

end_is : 0x00 ∷ 0x41 ∷ 0x01 ∷ 0x0B ∷ [] ≡ (0x00 ∷ 0x41 ∷ 0x01 ∷ []) ++ instruction_encoding end
end_is = refl

no_instructions : IsWellFormedBody (0x00 ∷ []) (without_locals [])
no_instructions = (has_locals [] (0x00 ∷ []) no_runs).plain (omega arith) (λ k d l. absurd (omega (arith, l)))

pub load-read : DecodesWhole body (0x00 ∷ 0x28 ∷ 0x10 ∷ 0x00 ∷ 0x0B ∷ []) (without_locals (ordered_load ∷ []))
load-read = decodes_whole {F = body} body_whole ((grows load (0x00 ∷ []) _ load_is).plain (record { align = omega arith; target = omega arith; offset = omega arith }, tt) (without_locals []) no_instructions).encodes

pub constant-read : DecodesWhole body (0x00 ∷ 0x41 ∷ 0x01 ∷ 0x0B ∷ []) (without_locals constant_and_end)
constant-read =
    let first = (grows one (0x00 ∷ []) _ one_is).plain ((omega (arith, ints), omega (arith, ints)), tt) (without_locals []) no_instructions in
    decodes_whole {F = body} body_whole ((grows end (0x00 ∷ 0x41 ∷ 0x01 ∷ []) _ end_is).plain tt _ first).encodes

pub ruleset decodings = (load-read, constant-read)
