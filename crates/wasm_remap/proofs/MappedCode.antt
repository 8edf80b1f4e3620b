-- This file proves that types, instructions and bodies have an encoding after a map of their indices.
use Rattle.wasm_base.proofs.Words.{◌≡◌, ℕ, zero, suc, ◌^◌, ◌≤◌, ◌<◌, lit<, Bool, true, false, List, [], ◌∷◌, ◌++◌, length, map, Option, Some, None, refl, ap, subst, arith, length-append, optional_encoding}
use Rattle.wasm_base.specs.Formats.{u32}
use Rattle.wasm_base.specs.Numbers.{minimal, standard_minimal, unsigned_encoding}
use Rattle.wasm_base.specs.Types.{unshared, shared, heap_tags, heap_type, nullable_to, to, HasNoCode, nullable_abstract, tight_tags, tight_ref, ref_type, val_tags, val_type}
use Rattle.wasm_base.specs.declared.types.HeapType.{HeapType}
use Rattle.wasm_base.specs.declared.types.HeapType.TheVariants.{Abstract, Concrete, Exact}
use Rattle.wasm_base.specs.declared.types.ValType.TheVariants.{Ref}
use Rattle.wasm_base.proofs.NumberEncodings.{length-groups_encoding-le}
use Rattle.wasm_immediates.specs.Immediates.{has_memory, has_ordering, index_of, is_array, mem_flags, where_set, mem_arg_encoding, mem_ordering_code}
use Rattle.wasm_immediates.specs.ImmediateFormats.{IsWellFormedMemory, IsWellFormedTarget, normal_memory, block_type, mem_arg, one_of_pair, one_ref_of_pair, catch_tags, catch, on_label_of_pair, handle_tags, handle}
use Rattle.wasm_immediates.specs.declared.block_type.BlockType.TheVariants as blocks
use Rattle.wasm_immediates.specs.declared.control.Catch.TheVariants.{All, AllRef}
use Rattle.wasm_immediates.specs.declared.control.Handle.TheVariants.{OnSwitch}
use Rattle.wasm_immediates.specs.declared.memory.MemArg.{MemArg}
use Rattle.wasm_immediates.specs.declared.memory.MemArgOrdering.{MemArgOrdering}
use Rattle.wasm_immediates.specs.declared.memory.MemArgTarget.{MemArgTarget}
use Rattle.wasm_immediates.specs.declared.memory.MemArgTarget.TheVariants.{Memory, Array}
use Rattle.wasm_immediates.proofs.DecodePlain.{memory_is}
use Rattle.wasm_immediates.proofs.ImmediateEncodings.{memory_encodes}
use Rattle.wasm_immediates.proofs.MinimalImmediates.{mem_arg_both}
use Rattle.wasm_insn.specs.Arguments.{unsigned, signed32, signed64, vector, memory, lane, lanes, block, heap, ordering, labels, catches, types, handles, flag}
use Rattle.wasm_insn.specs.Parts.{parts_of}
use Rattle.wasm_insn.specs.Plain.{float32_of, float64_of, part, cons, arguments, shape_of, arguments_after, plain_of, instruction}
use Rattle.wasm_insn.specs.Table.{table}
use Rattle.wasm_insn.specs.declared.op.Shape.{Shape}
use Rattle.wasm_insn.specs.declared.part.Part.{Part}
use Rattle.wasm_insn.specs.declared.part.Part.TheVariants as parts
use Rattle.wasm_code.specs.Bodies.{body_of, body}
use Rattle.wasm_code.specs.Expressions.{IsNoEnd, expression}
use Rattle.wasm_remap.specs.Instructions.{remapped_heap, remapped_ref, remapped_val, remapped_block, remapped_target, remapped_memory, remapped_catch, remapped_handle, remapped_argument, remapped_arguments, spaces_after, remapped_instruction, remapped_body}
use Rattle.wasm_remap.specs.Mapping.{Mapping, IsSmall, mapped_in}
use Rattle.wasm_remap.specs.Spaces.{Spaces, spaces_of}
use Rattle.wasm_remap.specs.declared.spaces.IndexSpace.{IndexSpace}
use Rattle.wasm_remap.specs.declared.spaces.IndexSpace.TheVariants as spaces
use Rattle.wasm_remap.proofs.MappedForms.{Maps, kept, fixed_maps, impossible_maps, such_maps, ended_maps, mapped_maps, pair_maps, then_maps, selected_maps, one_of_maps, members_maps, vec_maps, u32_maps, s33_maps, number_length, some_groups}
use Rattle.std.specs.Int.Bits.{bit_or}
use Rattle.std.proofs.lemmas.Nat.{or_lt}

-- ---- memory arguments

target_length : (t : MemArgTarget) → IsWellFormedTarget t → length (optional_encoding unsigned_encoding (index_of t)) ≤ 5
target_length (Memory zero) h = omega arith
target_length (Memory (suc n)) h = number_length (suc n) h
target_length (Array n) h = number_length n h

ordering_length : (o : Option MemArgOrdering) → length (optional_encoding (λ x. mem_ordering_code x ∷ []) o) ≤ 1
ordering_length None = omega arith
ordering_length (Some o) = omega arith

set_small : (b : Bool) (weight : ℕ) → weight < 2 ^ 7 → where_set b weight < 2 ^ 7
set_small true weight h = h
set_small false weight h = omega arith

flags_small : (a : MemArg) → IsWellFormedMemory a → mem_flags a < 2 ^ 7
flags_small a h =
    or_lt 7 (bit_or a.align (where_set (has_ordering a.ordering) 0x10)) (bit_or (where_set (is_array a.target) 0x20) (where_set (has_memory a.target) 0x40))
    (or_lt 7 a.align (where_set (has_ordering a.ordering) 0x10) (omega (arith, h.align)) (set_small (has_ordering a.ordering) 0x10 (omega arith)))
    (or_lt 7 (where_set (is_array a.target) 0x20) (where_set (has_memory a.target) 0x40) (set_small (is_array a.target) 0x20 (omega arith)) (set_small (has_memory a.target) 0x40 (omega arith)))

memory_length : (a : MemArg) → IsWellFormedMemory a → length (mem_arg_encoding a) ≤ 32
memory_length a h =
    let flags = unsigned_encoding (mem_flags a) in
    let index = optional_encoding unsigned_encoding (index_of a.target) in
    let order = optional_encoding (λ o. mem_ordering_code o ∷ []) a.ordering in
    let offset = unsigned_encoding a.offset in
    let first : length flags ≤ 5 = number_length (mem_flags a) (omega (arith, flags_small a h)) in
    let last : length offset ≤ 10 = length-groups_encoding-le false 0x80 9 a.offset (lit< tt) (omega (arith, h.offset)) in
    omega (arith, first, last, target_length a.target h.target, ordering_length a.ordering, length-append flags (index ++ (order ++ offset)), length-append index (order ++ offset), length-append order offset)

some_memory : (s : List ℕ) (a : MemArg) → mem_arg standard_minimal s a → 1 ≤ length s
some_memory s a h = omega (arith, some_groups h.2.front h.2.first.groups, ap length h.2.joined, length-append h.2.front h.2.back)

module _ (m : Mapping) (small : IsSmall m) where
  -- ---- types

  pub index_maps : (space : IndexSpace) → Maps (m space) u32
  index_maps space = u32_maps (m space) (small space)

  heap_maps : Maps (remapped_heap m) heap_type
  heap_maps = one_of_maps (mapped_maps unshared (λ ty. ty) (λ ty. refl) kept) (one_of_maps
      (selected_maps heap_tags (mapped_maps shared (λ ty. ty) (λ ty. refl) kept, (mapped_maps Exact (m spaces.Types) (λ n. refl) (index_maps spaces.Types), tt)))
      (mapped_maps Concrete (m spaces.Types) (λ n. refl) (s33_maps (m spaces.Types) (small spaces.Types))))

  no_code : (h : HeapType) → HasNoCode h → HasNoCode (remapped_heap m h)
  no_code (Abstract false ty) n = elim n [ ]
  no_code (Abstract true ty) n = tt
  no_code (Concrete n) k = tt
  no_code (Exact n) k = tt

  tight_maps : Maps (remapped_ref m) tight_ref
  tight_maps = one_of_maps (mapped_maps nullable_abstract (λ ty. ty) (λ ty. refl) kept)
      (selected_maps tight_tags (mapped_maps nullable_to (remapped_heap m) (λ h. refl) (such_maps HasNoCode no_code heap_maps), (mapped_maps to (remapped_heap m) (λ h. refl) heap_maps, tt)))

  pub ref_maps : Maps (remapped_ref m) ref_type
  ref_maps = record { form = λ s r l h. tight_maps.form s r l h }

  pub val_maps : Maps (remapped_val m) val_type
  val_maps = one_of_maps (selected_maps val_tags (fixed_maps [] _ refl, (fixed_maps [] _ refl, (fixed_maps [] _ refl, (fixed_maps [] _ refl, (fixed_maps [] _ refl, tt)))))) (mapped_maps Ref (remapped_ref m) (λ r. refl) ref_maps)

  -- ---- immediates

  block_maps : Maps (remapped_block m) block_type
  block_maps = one_of_maps (fixed_maps _ _ refl) (one_of_maps (mapped_maps blocks.Result (remapped_val m) (λ t. refl) val_maps) (mapped_maps blocks.FunctionType (m spaces.Types) (λ n. refl) (s33_maps (m spaces.Types) (small spaces.Types))))

  target_small : (t : MemArgTarget) → IsWellFormedTarget t → IsWellFormedTarget (remapped_target m t)
  target_small (Memory n) h = small spaces.Memories n h
  target_small (Array n) h = small spaces.Types n h

  memory_maps : Maps (remapped_memory m) mem_arg
  memory_maps = record {
    form = λ s a l h.
        let is = memory_is standard_minimal s a h in
        let b = remapped_memory m a in
        let well : IsWellFormedMemory b = record { align = is.plain.align; target = target_small a.target is.plain.target; offset = is.plain.offset } in
        let normal : normal_memory b ≡ b = ap (λ z. record { offset = z.offset; align = z.align; target = remapped_target m z.target; ordering = z.ordering }) is.normal in
        (mem_arg_encoding b, mem_arg_both.same (mem_arg_encoding b) b (subst (λ z. mem_arg minimal (mem_arg_encoding b) z) normal (memory_encodes b well)), omega (arith, memory_length b well, some_memory s a h));
  }

  catch_maps : Maps (remapped_catch m) catch
  catch_maps = selected_maps catch_tags (
    mapped_maps one_of_pair (λ p. (m spaces.Tags p.0, p.1)) (λ p. refl) (pair_maps (index_maps spaces.Tags) (λ n. kept)),
    (mapped_maps one_ref_of_pair (λ p. (m spaces.Tags p.0, p.1)) (λ p. refl) (pair_maps (index_maps spaces.Tags) (λ n. kept)), (mapped_maps All (λ n. n) (λ n. refl) kept, (mapped_maps AllRef (λ n. n) (λ n. refl) kept, tt))),
  )

  handle_maps : Maps (remapped_handle m) handle
  handle_maps = selected_maps handle_tags (mapped_maps on_label_of_pair (λ p. (m spaces.Tags p.0, p.1)) (λ p. refl) (pair_maps (index_maps spaces.Tags) (λ n. kept)), (mapped_maps OnSwitch (m spaces.Tags) (λ n. refl) (index_maps spaces.Tags), tt))

  pub number_maps : (space : Option IndexSpace) → Maps (mapped_in m space) u32
  number_maps None = kept
  number_maps (Some space) = index_maps space

  part_maps : (s : Spaces) (p : Part) → Maps (remapped_argument m s) (part p)
  part_maps s parts.Unsigned = mapped_maps unsigned (mapped_in m s.0) (λ n. refl) (number_maps s.0)
  part_maps s parts.Signed32 = mapped_maps signed32 (λ v. v) (λ v. refl) kept
  part_maps s parts.Signed64 = mapped_maps signed64 (λ v. v) (λ v. refl) kept
  part_maps s parts.Float32 = mapped_maps float32_of (λ v. v) (λ v. refl) kept
  part_maps s parts.Float64 = mapped_maps float64_of (λ v. v) (λ v. refl) kept
  part_maps s parts.Vector = mapped_maps vector (λ v. v) (λ v. refl) kept
  part_maps s parts.Memory = mapped_maps memory (remapped_memory m) (λ a. refl) memory_maps
  part_maps s parts.Lane = mapped_maps lane (λ n. n) (λ n. refl) kept
  part_maps s parts.Lanes = mapped_maps lanes (λ n. n) (λ n. refl) kept
  part_maps s parts.Block = mapped_maps block (remapped_block m) (λ t. refl) block_maps
  part_maps s parts.Heap = mapped_maps heap (remapped_heap m) (λ t. refl) heap_maps
  part_maps s parts.Ordering = mapped_maps ordering (λ o. o) (λ o. refl) kept
  part_maps s parts.Labels = mapped_maps labels (λ n. n) (λ n. refl) kept
  part_maps s parts.Catches = mapped_maps catches (map (remapped_catch m)) (λ c. refl) (vec_maps catch_maps)
  part_maps s parts.Types = mapped_maps types (map (remapped_val m)) (λ t. refl) (vec_maps val_maps)
  part_maps s parts.Handles = mapped_maps handles (map (remapped_handle m)) (λ h. refl) (vec_maps handle_maps)
  part_maps s parts.Flag = mapped_maps flag (λ n. n) (λ n. refl) kept

  arguments_maps : (s : Spaces) (ps : List Part) → Maps (remapped_arguments m s) (arguments ps)
  arguments_maps s [] = fixed_maps [] [] refl
  arguments_maps s (p ∷ ps) = mapped_maps cons (λ x. (remapped_argument m s x.0, remapped_arguments m (spaces_after x.0 s) x.1)) (λ x. refl) (pair_maps (part_maps s p) (λ x. arguments_maps (spaces_after x s) ps))

  after_maps : (s : Spaces) (shape : Option Shape) → Maps (remapped_arguments m s) (arguments_after shape)
  after_maps s None = impossible_maps
  after_maps s (Some shape) = arguments_maps s (parts_of shape)

  pub instruction_maps : Maps (remapped_instruction m) (instruction table)
  instruction_maps = mapped_maps plain_of (λ p. (p.0, remapped_arguments m (spaces_of p.0) p.1)) (λ p. refl) (then_maps (λ op. after_maps (spaces_of op) (shape_of table op)))

  pub expression_maps : Maps (map (remapped_instruction m)) expression
  expression_maps = ended_maps 0x0B (such_maps IsNoEnd (λ i n. n) instruction_maps)

  pub body_maps : Maps (remapped_body m) body
  body_maps = mapped_maps body_of (λ p. (map (λ run. (run.0, remapped_val m run.1)) p.0, map (remapped_instruction m) p.1)) (λ p. refl) (pair_maps (vec_maps (pair_maps kept (λ n. val_maps))) (λ runs. members_maps instruction_maps))
