-- This file proves that certain bytes are not a code section.
use Rattle.wasm_base.proofs.Words.{builders, ◌≡◌, ℕ, ◌<◌, List, [], ◌∷◌, ◌++◌, length, Option, Some, None, refl, sym, ap, subst, ◌∙◌, append_assoc, append-nil, arith, inl, inr, minimal, AreGroups}
use Rattle.wasm_base.proofs.Words.{IsUnsignedSize, u32, u64, fixed, mapped, pair, vec, members, size_prefixed, val_type, byte_unambiguous, fixed_unambiguous, then_at, tagged_at, member_at}
use Rattle.wasm_base.proofs.Words.{size_prefixed_of, vec_of_one, u32_unambiguous, u32_small, groups_apart}
use Rattle.std.specs.declared.alloc.Global.{Global}
use Rattle.std.proofs.lemmas.List.{length-append}
use Rattle.wasm_insn.specs.declared.instruction.Instruction.{Instruction}
use Rattle.wasm_insn.proofs.Words.{Argument, Plain, part, arguments, arguments_after, shape_of, instruction, table, IsRow, row_of, opcode_unambiguous, opcode_encodes, instruction_row}
use Rattle.wasm_insn.specs.declared.instruction.Instruction.TheVariants.{I32Load}
use Rattle.wasm_immediates.specs.declared.memory.MemArg.{MemArg}
use Rattle.wasm_immediates.specs.declared.memory.MemArgOrdering.{MemArgOrdering}
use Rattle.wasm_immediates.proofs.Words.{mem_ordering, mem_arg, after_flags}
use Rattle.wasm_immediates.specs.declared.memory.MemArgTarget.TheVariants.{Memory}
use Rattle.wasm_insn.specs.declared.op.Op.TheVariants.{Byte}
use Rattle.wasm_code.specs.{Body, body, code_section, RejectsAllAfter}
use Rattle.wasm_code.proofs.BodyLaws.{runs_unambiguous}
use Rattle.wasm_insn.specs.declared.part.Part.TheVariants as parts

regrouped : (s a b r : List ℕ) → s ≡ a ++ b → s ++ r ≡ a ++ (b ++ r)
regrouped s a b r e = rw e (append_assoc a b r)

-- ---- a truncated memory argument

no_groups : (s t r : List ℕ) → [] ≡ t ++ (s ++ r) → AreGroups s → ⊥
no_groups [] t r e g = g
no_groups (b ∷ s) t r e g = omega (arith, ap length e, length-append t ((b ∷ s) ++ r))

-- After the flags 10 an ordering and an offset follow, but there is only one byte.
cut_after : (s back : List ℕ) (m : MemArg) → 0x00 ∷ [] ≡ s ++ back → after_flags builders 0x10 minimal s m → ⊥
cut_after s back m e h =
    let target = then_at {F = fixed [] (Memory 0)} {G = λ u. pair (mapped Some mem_ordering) u64} (fixed_unambiguous [] (Memory 0)) minimal [] (Memory 0) (refl, refl) (0x00 ∷ []) s back h.0 e h.2 in
    cut_order target.0 back h.0.1 target.1 target.2
  where
    cut_order : (s back : List ℕ) (p : Option MemArgOrdering × ℕ) → 0x00 ∷ [] ≡ s ++ back → pair (mapped Some mem_ordering) u64 minimal s p → ⊥
    cut_order s back p e h =
        let order = tagged_at byte_unambiguous minimal (0x00 ∷ []) 0x00 refl [] h.front (h.back ++ back) h.first.0 (e ∙ regrouped s h.front h.back back h.joined) h.first.2 in
        no_groups h.back order.0 back order.1 h.second.groups

cut_flags : (s back : List ℕ) (m : MemArg) → 0x10 ∷ 0x00 ∷ [] ≡ s ++ back → mem_arg minimal s m → ⊥
cut_flags s back m e h =
    let flags = tagged_at {G = after_flags builders} u32_unambiguous minimal (0x10 ∷ []) 0x10 (u32_small minimal 0x10 (omega arith)) (0x00 ∷ []) s back m e h in
    cut_after flags.0 back m flags.1 flags.2

abbrev load : Instruction Global
load = I32Load (record { offset = 0; align = 0; target = Memory 0; ordering = None })

load_row : IsRow table (row_of load)
load_row = instruction_row load

-- The immediate of `i32.load` is a memory argument.
load_arguments : (s : List ℕ) (xs : List Argument) → arguments_after (shape_of table (Byte 0x28)) minimal s xs → arguments (parts.Memory ∷ []) minimal s xs
load_arguments s xs h = subst (λ ps. arguments ps minimal s xs) (sym load_row.parts) (subst (λ o. arguments_after o minimal s xs) load_row.row h)

cut_load : (s back : List ℕ) (i : Plain) → 0x28 ∷ 0x10 ∷ 0x00 ∷ [] ≡ s ++ back → instruction table minimal s i → ⊥
cut_load s back i e h =
    let args = then_at {G = λ op. arguments_after (shape_of table op)} opcode_unambiguous minimal (0x28 ∷ []) (Byte 0x28) (opcode_encodes (Byte 0x28) refl) (0x10 ∷ 0x00 ∷ []) s back h.0 e h.2 in
    let given = load_arguments args.0 h.0.1 args.2 in
    cut_args args.0 back given.0 args.1 given.2
  where
    cut_args : (s back : List ℕ) (p : Argument × List Argument) → 0x10 ∷ 0x00 ∷ [] ≡ s ++ back → pair (part parts.Memory) (arguments []) minimal s p → ⊥
    cut_args s back p e h = cut_flags h.front (h.back ++ back) h.first.0 (e ∙ regrouped s h.front h.back back h.joined) h.first.2

-- ---- sections of one body

-- The one body of a section whose sizes and count are one byte each has the remaining bytes as its
-- encoding.
one_body : (size : ℕ) (content after : List ℕ) (n : ℕ) (xs : List Body) (s rest : List ℕ) → size < 128 → n < 128 → length content ≡ n → length (1 ∷ n ∷ content) ≡ size
    → (size ∷ 1 ∷ n ∷ content) ++ after ≡ s ++ rest → code_section minimal s xs → (x : Body) × body minimal content x
one_body size content after n xs s rest low small is all e h =
    let listed = size_prefixed_of {F = vec (size_prefixed body)} minimal size (1 ∷ n ∷ content) after s rest xs (u32_small minimal size low) all e h in
    let item = vec_of_one {F = size_prefixed body} minimal (n ∷ content) xs (u32_small minimal 1 (omega arith)) listed in
    (item.0, size_prefixed_of {F = body} minimal n content [] (n ∷ content) [] item.0 (u32_small minimal n small) is refl item.1)

no_runs : vec (pair u32 val_type) minimal (0x00 ∷ []) []
no_runs = record { front = 0x00 ∷ []; back = []; joined = refl; first = u32_small minimal 0 (omega arith); second = refl }

cut_body : (x : Body) → body minimal (0x00 ∷ 0x28 ∷ 0x10 ∷ 0x00 ∷ []) x → ⊥
cut_body x h =
    let code = then_at {G = λ u. members (instruction table)} runs_unambiguous minimal (0x00 ∷ []) [] no_runs (0x28 ∷ 0x10 ∷ 0x00 ∷ []) (0x00 ∷ 0x28 ∷ 0x10 ∷ 0x00 ∷ []) [] h.0 refl h.2 in
    let found = member_at (instruction table) minimal 0x28 (0x10 ∷ 0x00 ∷ []) code.0 h.0.1 (code.1 ∙ append-nil code.0) code.2 in
    cut_load found.0 found.1 found.2 found.3 found.4

pub cut_short : RejectsAllAfter code_section (6 ∷ 1 ∷ 4 ∷ 0 ∷ 40 ∷ 16 ∷ 0 ∷ [])
cut_short = record {
  none = λ after. record {
    none = λ xs rest h. let one = one_body 6 (0 ∷ 40 ∷ 16 ∷ 0 ∷ []) after 4 xs h.front rest (omega arith) (omega arith) refl refl h.split h.encodes in cut_body one.0 one.1;
  };
}

padded_size : (f : List ℕ) → 0x80 ∷ 0x00 ∷ [] ≡ f → IsUnsignedSize minimal 32 f → ⊥
padded_size f e h = go (subst (IsUnsignedSize minimal 32) (sym e) h)
  where
    go : IsUnsignedSize minimal 32 (0x80 ∷ 0x00 ∷ []) → ⊥
    go (inl l) = omega (arith, l)
    go (inr l) = omega (arith, l)

padded_body : (x : Body) → body minimal (0x80 ∷ 0x00 ∷ 0x0B ∷ []) x → ⊥
padded_body x h =
    let runs = h.2.first in
    let e : (0x80 ∷ 0x00 ∷ []) ++ (0x0B ∷ []) ≡ runs.front ++ (runs.back ++ h.2.back) = h.2.joined ∙ regrouped h.2.front runs.front runs.back h.2.back runs.joined in
    let same = groups_apart (0x80 ∷ 0x00 ∷ []) runs.front (0x0B ∷ []) (runs.back ++ h.2.back) (omega arith, omega arith, omega arith) runs.first.groups e in
    padded_size runs.front same.0 runs.first.size

pub padded_count : RejectsAllAfter code_section (5 ∷ 1 ∷ 3 ∷ 128 ∷ 0 ∷ 11 ∷ [])
padded_count = record {
  none = λ after. record {
    none = λ xs rest h. let one = one_body 5 (128 ∷ 0 ∷ 11 ∷ []) after 3 xs h.front rest (omega arith) (omega arith) refl refl h.split h.encodes in padded_body one.0 one.1;
  };
}

pub ruleset nothing = (cut_short, padded_count)
