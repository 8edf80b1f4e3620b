-- This file proves how readers decode the operands of an instruction.
use Rattle.wasm_base.proofs.Words.{Mode, Grammar, ◌≡◌, ◌≢◌, Bool, true, false, ℕ, ℤ, ◌-◌, ◌<◌, List, [], ◌∷◌, ◌++◌, Some, None, map, length, take, drop, refl, sym, ap, subst, ◌∙◌, arith, u32, s32, s64, Decodes, Rejects}
use Rattle.wasm_base.specs.Numbers.{builders, admitted, padded, standard, padded_of}
use Rattle.std.proofs.Math.Seq.{take-append_seam, drop-append_seam}
use Rattle.std.proofs.lemmas.List.{length-append, take-append-drop}
use Rattle.wasm_base.proofs.Words.{then_decodes, mapped_decodes, mapped_rejects, fixed_decodes, u32_byte}
use Rattle.wasm_base.specs.Groups.{signed_of}
use Rattle.wasm_base.proofs.DecodeNumbers.{s32_byte, s64_byte, u64_byte}
use Rattle.wasm_immediates.proofs.Words.{block_type, mem_arg}
use Rattle.wasm_immediates.proofs.DecodeImmediates.{memory_plain, block_empty}
use Rattle.wasm_immediates.specs.declared.memory.MemArg.{MemArg}
use Rattle.wasm_immediates.specs.declared.memory.MemArgTarget.TheVariants.{Memory}
use Rattle.wasm_immediates.specs.declared.block_type.BlockType.{BlockType}
use Rattle.wasm_immediates.specs.declared.block_type.BlockType.TheVariants.{Empty}
use Rattle.wasm_insn.specs.declared.op.Op.{Op}
use Rattle.wasm_insn.specs.declared.op.Op.TheVariants.{Byte}
use Rattle.wasm_insn.specs.declared.op.Shape.{Shape}
use Rattle.wasm_insn.specs.declared.op.Shape.TheVariants as shapes
use Rattle.wasm_insn.specs.declared.part.Part.{Part}
use Rattle.wasm_insn.specs.declared.part.Part.TheVariants as parts
use Rattle.wasm_insn.specs.declared.operands.Operands.{Operands}
use Rattle.wasm_insn.specs.declared.operands.Operands.TheVariants as operands
use Rattle.wasm_insn.specs.{parts_of, Argument, unsigned, signed32, signed64, memory, block, part, arguments, cons, part_of, shape_of, opcode, instruction, table}
use Rattle.wasm_insn.specs.{has_case, AreOperands, AreBytesBefore, DecodesOperands, DecodesOperation}
use Rattle.wasm_insn.proofs.PlainLaws.{arguments_unambiguous}
use Rattle.wasm_insn.proofs.DecodeArguments.{one_rejects}
use Rattle.wasm_insn.proofs.DecodeInstructions.{instruction_decodes, op_byte}
use Rattle.wasm_insn.proofs.DecodePlain.{arguments_are}

-- ---- by shape

-- The one immediate of a shape.
one_immediate : {m : Mode} (shape : Shape) (p : Part) (bytes rest : List ℕ) (x : Argument) (given : Operands) → parts_of shape ≡ p ∷ [] → AreOperands given (x ∷ []) → AreBytesBefore given bytes rest → Decodes (part p) m bytes x rest → DecodesOperands (parts_of shape) m bytes given rest
one_immediate {m = m} shape p bytes rest x given e is own h =
    let none : List Argument = [] in
    record {
      immediates = x ∷ none;
      decodes = subst (λ ps. Decodes (arguments ps) m bytes (x ∷ none) rest) (sym e) (mapped_decodes cons (then_decodes h (fixed_decodes rest none)));
      operands = is;
      own = own;
    }

module _ (shape : Shape) (bytes : List ℕ) where
  pub nothing_decodes : {m : Mode} → shape ≡ shapes.Nothing → DecodesOperands (parts_of shape) m bytes operands.Nothing bytes
  nothing_decodes {m = m} e =
      let none : List Argument = [] in
      record { immediates = none; decodes = subst (λ s. Decodes (arguments (parts_of s)) m bytes none bytes) (sym e) (fixed_decodes bytes none); operands = refl; own = tt {0} }

  pub unsigned_operand : {m : Mode} (rest : List ℕ) (n : ℕ) → shape ≡ shapes.U → Decodes u32 m bytes n rest → DecodesOperands (parts_of shape) m bytes (operands.U32 n) rest
  unsigned_operand rest n e h = one_immediate shape parts.Unsigned bytes rest (unsigned n) (operands.U32 n) (ap parts_of e) refl (tt {0}) (mapped_decodes unsigned h)

  pub signed32_operand : {m : Mode} (rest : List ℕ) (v : ℤ) → shape ≡ shapes.C32 → Decodes s32 m bytes v rest → DecodesOperands (parts_of shape) m bytes (operands.S32 v) rest
  signed32_operand rest v e h = one_immediate shape parts.Signed32 bytes rest (signed32 v) (operands.S32 v) (ap parts_of e) refl (tt {0}) (mapped_decodes signed32 h)

  pub signed64_operand : {m : Mode} (rest : List ℕ) (v : ℤ) → shape ≡ shapes.C64 → Decodes s64 m bytes v rest → DecodesOperands (parts_of shape) m bytes (operands.S64 v) rest
  signed64_operand rest v e h = one_immediate shape parts.Signed64 bytes rest (signed64 v) (operands.S64 v) (ap parts_of e) refl (tt {0}) (mapped_decodes signed64 h)

  pub memory_operand : {m : Mode} (rest : List ℕ) (v : MemArg) → shape ≡ shapes.M → Decodes mem_arg m bytes v rest → DecodesOperands (parts_of shape) m bytes (operands.Mem v) rest
  memory_operand rest v e h = one_immediate shape parts.Memory bytes rest (memory v) (operands.Mem v) (ap parts_of e) refl (tt {0}) (mapped_decodes memory h)

  pub block_operand : {m : Mode} (rest : List ℕ) (v : BlockType) → shape ≡ shapes.B → Decodes block_type m bytes v rest → DecodesOperands (parts_of shape) m bytes (operands.Block v) rest
  block_operand rest v e h = one_immediate shape parts.Block bytes rest (block v) (operands.Block v) (ap parts_of e) refl (tt {0}) (mapped_decodes block h)

  pub unsigned_rejected : {m : Mode} → shape ≡ shapes.U → Rejects u32 m bytes → Rejects (arguments (parts_of shape)) m bytes
  unsigned_rejected e n = one_rejects shape parts.Unsigned (ap parts_of e) bytes (mapped_rejects unsigned n)

  pub signed32_rejected : {m : Mode} → shape ≡ shapes.C32 → Rejects s32 m bytes → Rejects (arguments (parts_of shape)) m bytes
  signed32_rejected e n = one_rejects shape parts.Signed32 (ap parts_of e) bytes (mapped_rejects signed32 n)

  pub signed64_rejected : {m : Mode} → shape ≡ shapes.C64 → Rejects s64 m bytes → Rejects (arguments (parts_of shape)) m bytes
  signed64_rejected e n = one_rejects shape parts.Signed64 (ap parts_of e) bytes (mapped_rejects signed64 n)

  pub memory_rejected : {m : Mode} → shape ≡ shapes.M → Rejects mem_arg m bytes → Rejects (arguments (parts_of shape)) m bytes
  memory_rejected e n = one_rejects shape parts.Memory (ap parts_of e) bytes (mapped_rejects memory n)

  pub block_rejected : {m : Mode} → shape ≡ shapes.B → Rejects block_type m bytes → Rejects (arguments (parts_of shape)) m bytes
  block_rejected e n = one_rejects shape parts.Block (ap parts_of e) bytes (mapped_rejects block n)

pub ruleset operand_steps = (nothing_decodes, unsigned_operand, signed32_operand, signed64_operand, memory_operand, block_operand, unsigned_rejected, signed32_rejected, signed64_rejected, memory_rejected, block_rejected)

-- ---- operands of one byte

module _ (w : Grammar) (shape : Shape) (bytes rest : List ℕ) (b : ℕ) where
  pub short_unsigned : (n : ℕ) → shape ≡ shapes.U → bytes ≡ b ∷ rest → b < 128 → n ≡ b → DecodesOperands (parts_of shape) (padded_of w) bytes (operands.U32 n) rest
  short_unsigned n e is l same = unsigned_operand shape bytes rest n e (u32_byte w bytes rest b n is l same)

  pub short_signed32 : (v : ℤ) → shape ≡ shapes.C32 → bytes ≡ b ∷ rest → b < 128 → v ≡ signed_of b 128 b → DecodesOperands (parts_of shape) (padded_of w) bytes (operands.S32 v) rest
  short_signed32 v e is l same = signed32_operand shape bytes rest v e (s32_byte w bytes rest b v is l same)

  pub short_signed64 : (v : ℤ) → shape ≡ shapes.C64 → bytes ≡ b ∷ rest → b < 128 → v ≡ signed_of b 128 b → DecodesOperands (parts_of shape) (padded_of w) bytes (operands.S64 v) rest
  short_signed64 v e is l same = signed64_operand shape bytes rest v e (s64_byte w bytes rest b v is l same)

  pub short_memory : (last : List ℕ) (c align offset : ℕ) → shape ≡ shapes.M → bytes ≡ b ∷ rest → b < 16 → rest ≡ c ∷ last → c < 128 → align ≡ b → offset ≡ c
      → DecodesOperands (parts_of shape) (padded_of w) bytes (operands.Mem (record { offset = offset; align = align; target = Memory 0; ordering = None })) last
  short_memory last c align offset e is low then l same_align same_offset =
      memory_operand shape bytes last _ e (memory_plain bytes rest b is low w last align offset same_align (u64_byte w rest last c offset then l same_offset))

  pub short_block : shape ≡ shapes.B → bytes ≡ b ∷ rest → b ≡ 0x40 → DecodesOperands (parts_of shape) (padded_of w) bytes (operands.Block Empty) rest
  short_block e is empty = block_operand shape bytes rest Empty e (block_empty bytes rest b (record { front = b ∷ []; split = is; encodes = refl }) empty)

pub ruleset short_steps = (nothing_decodes, short_unsigned, short_signed32, short_signed64, short_memory, short_block)

-- ---- operands that are kept as bytes

-- What the builders' grammar decodes, the standard's does.
to_standard : (w : Grammar) (ps : List Part) (s : List ℕ) (xs : List Argument) → arguments ps (padded_of w) s xs → arguments ps standard s xs
to_standard builders ps s xs h = (arguments_unambiguous ps).encodings.included padded standard tt s xs h
to_standard admitted ps s xs h = h

-- The bytes up to the remaining ones encode the immediates that were skipped.
pub encoded_operand : (w : Grammar) (shape : Shape) (bytes rest : List ℕ) (xs : List Argument) (given : Operands) → has_case shape ≡ false → Decodes (arguments (parts_of shape)) (padded_of w) bytes xs rest
    → ((has_case shape ≡ false) × arguments (parts_of shape) standard (take (length bytes - length rest) bytes) xs → AreOperands given xs)
    → (bytes ≡ take (length bytes - length rest) bytes ++ drop (length bytes - length rest) bytes → AreBytesBefore given bytes (drop (length bytes - length rest) bytes))
    → DecodesOperands (parts_of shape) (padded_of w) bytes given (drop (length bytes - length rest) bytes)
encoded_operand w shape bytes rest xs given rare h are own =
    let n = length bytes - length rest in
    let at : n ≡ length h.front = omega (arith, ap length h.split, length-append h.front rest) in
    let taken : take n bytes ≡ h.front = ap (λ k. take k bytes) at ∙ ap (take (length h.front)) h.split ∙ take-append_seam h.front rest in
    let dropped : drop n bytes ≡ rest = ap (λ k. drop k bytes) at ∙ ap (drop (length h.front)) h.split ∙ drop-append_seam h.front rest in
    record {
      immediates = xs;
      decodes = subst (λ z. Decodes (arguments (parts_of shape)) (padded_of w) bytes xs z) (sym dropped) h;
      operands = are (rare, subst (λ z. arguments (parts_of shape) standard z xs) (sym taken) (to_standard w (parts_of shape) h.front xs h.encodes));
      own = own (sym (take-append-drop n bytes));
    }

-- A shape that is none of those with a case.
pub no_case : (shape : Shape) → shape ≢ shapes.Nothing → shape ≢ shapes.U → shape ≢ shapes.C32 → shape ≢ shapes.C64 → shape ≢ shapes.M → shape ≢ shapes.B → has_case shape ≡ false
no_case shapes.Nothing n u c d m b = absurd (n refl)
no_case shapes.U n u c d m b = absurd (u refl)
no_case shapes.C32 n u c d m b = absurd (c refl)
no_case shapes.C64 n u c d m b = absurd (d refl)
no_case shapes.M n u c d m b = absurd (m refl)
no_case shapes.B n u c d m b = absurd (b refl)
no_case shape n u c d m b = refl

-- The bytes as a whole decode to no other immediates.
pub encoded_same : (ps : List Part) (bytes : List ℕ) (xs ys : List Argument) → arguments ps standard bytes ys → arguments ps standard bytes xs → ys ≡ xs
encoded_same ps bytes xs ys h e = ((arguments_unambiguous ps).unique standard bytes bytes [] [] ys xs h e refl).0

-- ---- instructions

module _ {m : Mode} (bytes rest last : List ℕ) where
  pub operation_decodes : (op : Op) (shape : Shape) (given : Operands) → Decodes opcode m bytes op rest → shape_of table op ≡ Some shape → DecodesOperands (parts_of shape) m rest given last → DecodesOperation (instruction table) m bytes op given last
  operation_decodes op shape given h e g = record { immediates = g.immediates; decodes = instruction_decodes bytes rest last op shape g.immediates h e g.decodes; operands = g.operands; follow = record { after = rest; decodes = h; own = g.own } }

  pub short_operation : (b : ℕ) (shape : Shape) (given : Operands) → bytes ≡ b ∷ rest → b < 0xFB → shape_of table (Byte b) ≡ Some shape → DecodesOperands (parts_of shape) m rest given last → DecodesOperation (instruction table) m bytes (Byte b) given last
  short_operation b shape given is l e g = operation_decodes (Byte b) shape given (op_byte bytes rest b (record { front = b ∷ []; split = is; encodes = refl }) l) e g

pub ruleset operation_steps = (operation_decodes, short_operation)

-- ---- the operands of given immediates, for callers

-- Whether immediates of these types are operands with a case of their own.
abbrev are_of_case : List Part → Bool
are_of_case [] = true
are_of_case (parts.Unsigned ∷ []) = true
are_of_case (parts.Signed32 ∷ []) = true
are_of_case (parts.Signed64 ∷ []) = true
are_of_case (parts.Memory ∷ []) = true
are_of_case (parts.Block ∷ []) = true
are_of_case _ = false

of_case : (shape : Shape) → are_of_case (parts_of shape) ≡ has_case shape
of_case shapes.Nothing = refl
of_case shape = refl

-- Immediates of such types are not those of encoded operands.
not_encoded : (shape : Shape) (bytes : List ℕ) (xs : List Argument) → are_of_case (map part_of xs) ≡ true → (has_case shape ≡ false) × arguments (parts_of shape) standard bytes xs → ⊥
not_encoded shape bytes xs e h =
    let same : map part_of xs ≡ parts_of shape = (arguments_are (parts_of shape) standard bytes xs h.1).2 in
    let is : true ≡ false = sym e ∙ ap are_of_case same ∙ of_case shape ∙ h.0 in
    absurd (cc is)

pub nothing_is : (given : Operands) → AreOperands given [] → given ≡ operands.Nothing
nothing_is operands.Nothing h = refl
nothing_is (operands.Encoded shape bytes) h = absurd (not_encoded shape bytes.now [] refl h)
nothing_is given h = absurd (cc h)

pub number_is : (given : Operands) (n : ℕ) → AreOperands given (unsigned n ∷ []) → given ≡ operands.U32 n
number_is (operands.U32 k) n h = cc h
number_is (operands.Encoded shape bytes) n h = absurd (not_encoded shape bytes.now (unsigned n ∷ []) refl h)
number_is given n h = absurd (cc h)
