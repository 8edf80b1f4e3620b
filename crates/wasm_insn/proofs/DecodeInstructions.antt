-- This file proves how readers decode opcodes and instructions.
use Rattle.wasm_base.proofs.Words.{Mode, ◌≡◌, ◌≢◌, ℕ, ◌<◌, ◌≤◌, List, [], true, false, Some, None, refl, sym, subst, arith, le-leb, lt-leb, u32, byte, mapped, fixed, when, Decodes, Rejects}
use Rattle.wasm_base.proofs.Words.{byte_unambiguous, then_decodes, then_rejects_first, then_rejects_second, mapped_decodes, mapped_rejects, tagged_decodes, tagged_none, tagged_rejects, fixed_decodes}
use Rattle.wasm_base.proofs.Words.{impossible_rejects}
use Rattle.wasm_insn.specs.declared.op.Op.{Op}
use Rattle.wasm_insn.specs.{parts_of, Argument, is_prefix, op_after, opcode, arguments, arguments_after, shape_of, plain_of, instruction, table}
use Rattle.wasm_insn.specs.declared.op.Op.TheVariants.{Byte, Prefixed}
use Rattle.wasm_insn.specs.declared.op.Shape.{Shape}
use Rattle.wasm_insn.proofs.PlainLaws.{opcode_unambiguous}

-- ---- opcodes

op_low : (b : ℕ) → b < 0xFB → is_prefix b ≡ false
op_low b l = rw (lt-leb 0xFB b l) refl

op_high : (b : ℕ) → 0xFE < b → is_prefix b ≡ false
op_high b l = rw (le-leb 0xFB b (omega (arith, l)), lt-leb b 0xFE l) refl

op_among : (b : ℕ) → 0xFB ≤ b → b ≤ 0xFE → is_prefix b ≡ true
op_among b l u = rw (le-leb 0xFB b l, le-leb b 0xFE u) refl

plain_byte : {m : Mode} (bytes rest : List ℕ) (b : ℕ) → Decodes byte m bytes b rest → is_prefix b ≡ false → Decodes opcode m bytes (Byte b) rest
plain_byte {m = m} bytes rest b h e = tagged_decodes {G = op_after} h (subst (λ t. Decodes (when t (mapped (Prefixed b) u32) (fixed [] (Byte b))) m rest (Byte b) rest) (sym e) (fixed_decodes rest (Byte b)))

pub op_byte : {m : Mode} (bytes rest : List ℕ) (b : ℕ) → Decodes byte m bytes b rest → b < 0xFB → Decodes opcode m bytes (Byte b) rest
op_byte bytes rest b h l = plain_byte bytes rest b h (op_low b l)

pub op_last : {m : Mode} (bytes rest : List ℕ) (b : ℕ) → Decodes byte m bytes b rest → b ≡ 0xFF → Decodes opcode m bytes (Byte b) rest
op_last bytes rest b h e = plain_byte bytes rest b h (op_high b (omega (arith, e)))

pub op_prefixed : {m : Mode} (bytes rest last : List ℕ) (b n : ℕ) → Decodes byte m bytes b rest → 0xFB ≤ b → b ≢ 0xFF → b < 256 → Decodes u32 m rest n last → Decodes opcode m bytes (Prefixed b n) last
op_prefixed {m = m} bytes rest last b n h l u o g =
    tagged_decodes {G = op_after} h (subst (λ t. Decodes (when t (mapped (Prefixed b) u32) (fixed [] (Byte b))) m rest (Prefixed b n) last) (sym (op_among b l (omega (arith, u, o)))) (mapped_decodes (Prefixed b) g))

pub op_none : {m : Mode} (bytes : List ℕ) → Rejects byte m bytes → Rejects opcode m bytes
op_none bytes n = tagged_none byte op_after bytes n

pub op_no_number : {m : Mode} (bytes rest : List ℕ) (b : ℕ) → Decodes byte m bytes b rest → 0xFB ≤ b → b ≢ 0xFF → b < 256 → Rejects u32 m rest → Rejects opcode m bytes
op_no_number {m = m} bytes rest b h l u o n =
    tagged_rejects {G = op_after} byte_unambiguous h (subst (λ t. Rejects (when t (mapped (Prefixed b) u32) (fixed [] (Byte b))) m rest) (sym (op_among b l (omega (arith, u, o)))) (mapped_rejects (Prefixed b) n))

pub ruleset opcode_steps = (op_byte, op_last, op_prefixed, op_none, op_no_number)

-- ---- instructions

pub instruction_decodes : {m : Mode} (bytes rest last : List ℕ) (op : Op) (shape : Shape) (xs : List Argument) → Decodes opcode m bytes op rest → shape_of table op ≡ Some shape → Decodes (arguments (parts_of shape)) m rest xs last
    → Decodes (instruction table) m bytes (record { op = op; arguments = xs }) last
instruction_decodes {m = m} bytes rest last op shape xs h e g =
    mapped_decodes plain_of (then_decodes {G = λ op. arguments_after (shape_of table op)} h (subst (λ s. Decodes (arguments_after s) m rest xs last) (sym e) g))

instruction_rejects : {m : Mode} (bytes rest : List ℕ) (op : Op) → Decodes opcode m bytes op rest → Rejects (arguments_after (shape_of table op)) m rest → Rejects (instruction table) m bytes
instruction_rejects bytes rest op h n = mapped_rejects plain_of (then_rejects_second {G = λ op. arguments_after (shape_of table op)} opcode_unambiguous h n)

pub instruction_none : {m : Mode} (bytes : List ℕ) → Rejects opcode m bytes → Rejects (instruction table) m bytes
instruction_none bytes n = mapped_rejects plain_of (then_rejects_first {G = λ op. arguments_after (shape_of table op)} n)

pub instruction_unknown : {m : Mode} (bytes rest : List ℕ) (op : Op) → Decodes opcode m bytes op rest → shape_of table op ≡ None → Rejects (instruction table) m bytes
instruction_unknown {m = m} bytes rest op h e = instruction_rejects bytes rest op h (subst (λ s. Rejects (arguments_after s) m rest) (sym e) (impossible_rejects rest))

pub instruction_no_arguments : {m : Mode} (bytes rest : List ℕ) (op : Op) (shape : Shape) → Decodes opcode m bytes op rest → shape_of table op ≡ Some shape → Rejects (arguments (parts_of shape)) m rest → Rejects (instruction table) m bytes
instruction_no_arguments {m = m} bytes rest op shape h e n = instruction_rejects bytes rest op h (subst (λ s. Rejects (arguments_after s) m rest) (sym e) n)

pub ruleset instruction_steps = (instruction_decodes, instruction_none, instruction_unknown, instruction_no_arguments)
