-- This file proves that the encodings of well-formed immediates encode their normal forms.
use Rattle.wasm_base.proofs.Words.{builders, ◌≡◌, ℕ, zero, suc, ◌+◌, ◌*◌, ◌%◌, ◌^◌, ◌<◌, List, [], ◌∷◌, ◌++◌, Bool, true, false, eqb, Option, Some, None, refl, sym, ap, ap₂, subst, ◌∙◌, arith, inl}
use Rattle.wasm_base.proofs.Words.{inr, ℤ, pos, negsuc, lt-ltb, or_shifted, or_comm, bit_or, nat_lt, ⊤, minimal, unsigned_encoding, u32, pair, optional, twos_complement, vector_format, IsVector}
use Rattle.wasm_base.proofs.Words.{HasMinimalEncodings, UnambiguousPadded, optional_encoding, unambiguous_padded, vector_unambiguous, one_group, val-encodings, decodes_uniquely, u32_encodes}
use Rattle.wasm_base.proofs.Words.{u64_encodes, s33_encodes, little_endian_encodes, tagged_encodes}
use Rattle.wasm_immediates.specs.declared.memory.Ordering.TheVariants.{AcqRel, SeqCst}
use Rattle.wasm_immediates.specs.declared.memory.MemArgOrdering.{MemArgOrdering}
use Rattle.wasm_immediates.specs.declared.memory.MemArg.{MemArg}
use Rattle.wasm_immediates.specs.declared.block_type.BlockType.{BlockType}
use Rattle.wasm_immediates.specs.declared.control.Catch.{Catch}
use Rattle.wasm_immediates.specs.declared.control.Handle.{Handle}
use Rattle.wasm_immediates.specs.{mem_ordering_code, index_of, has_ordering, is_array, has_memory, where_set, mem_flags, mem_arg_encoding, block_encoding, catch_encoding, handle_encoding}
use Rattle.wasm_immediates.specs.{vector_encoding, IsNormalMemory, DecodesMemoryArgument, ordering_encoding, ordering_format, normal_ordering, normal_order, normal_memory, IsWellFormedTarget}
use Rattle.wasm_immediates.specs.{IsWellFormedMemory, IsWellFormedBlock, IsWellFormedCatch, IsWellFormedHandle, block_type, mem_ordering, bit, target_of, mem_arg_with, after_flags, mem_arg, catch}
use Rattle.wasm_immediates.specs.{handle}
use Rattle.wasm_immediates.specs.declared.memory.MemArgTarget.{MemArgTarget}
use Rattle.wasm_immediates.specs.declared.memory.MemArgTarget.TheVariants.{Memory, Array}
use Rattle.wasm_immediates.specs.declared.control.Catch.TheVariants.{One, OneRef, All, AllRef}
use Rattle.wasm_immediates.specs.declared.control.Handle.TheVariants.{OnLabel, OnSwitch}
use Rattle.wasm_immediates.proofs.ImmediateLaws.{ordering_unambiguous, mem_arg_unambiguous, block_unambiguous, catch_unambiguous, handle_unambiguous}
use Rattle.wasm_immediates.specs.declared.memory.MemArgOrdering.TheVariants as orders
use Rattle.wasm_immediates.specs.declared.block_type.BlockType.TheVariants as blocks

-- ---- the encodings of memory arguments

-- A bit of weight 1 is below 2.
one_or_none : (b : Bool) → where_set b 1 < 2
one_or_none true = omega arith
one_or_none false = omega arith

or_above : (k index n : ℕ) → n < 2 ^ index → bit_or n (k * 2 ^ index) ≡ n + k * 2 ^ index
or_above k index n h = omega (arith, or_comm n (k * 2 ^ index), or_shifted k index n h)

bit_four : (a : Bool) → where_set a 0x10 ≡ where_set a 1 * 2 ^ 4
bit_four true = refl
bit_four false = refl

bits_five_six : (b c : Bool) → bit_or (where_set b 0x20) (where_set c 0x40) ≡ (where_set b 1 + 2 * where_set c 1) * 2 ^ 5
bits_five_six true true = refl
bits_five_six true false = refl
bits_five_six false true = refl
bits_five_six false false = refl

flags_sum : (align : ℕ) (a b c : Bool) → align < 16 → bit_or (bit_or align (where_set a 0x10)) (bit_or (where_set b 0x20) (where_set c 0x40)) ≡ align + 16 * (where_set a 1 + (2 * where_set b 1 + 4 * where_set c 1))
flags_sum align a b c low =
    let first : bit_or align (where_set a 0x10) ≡ align + where_set a 1 * 2 ^ 4 = ap (bit_or align) (bit_four a) ∙ or_above (where_set a 1) 4 align low in
    let small : align + where_set a 1 * 2 ^ 4 < 2 ^ 5 = omega (arith, low, one_or_none a) in
    ap₂ bit_or first (bits_five_six b c) ∙ or_above (where_set b 1 + 2 * where_set c 1) 5 (align + where_set a 1 * 2 ^ 4) small ∙ omega arith

is_set : (b : Bool) (n : ℕ) → n ≡ where_set b 1 → eqb n 1 ≡ b
is_set true n e = rw e refl
is_set false n e = rw e refl

with_bits : (f align : ℕ) (a b c : Bool) (s : List ℕ) (m : MemArg) → nat_lt f 0x80 ≡ true → f % 16 ≡ align → bit 4 f ≡ a → bit 5 f ≡ b → bit 6 f ≡ c
    → mem_arg_with builders align a b c minimal s m → after_flags builders f minimal s m
with_bits f align a b c s m low e p q r h = rw (low, e, p, q, r) h

flags_encodes : (align : ℕ) (a b c : Bool) (s : List ℕ) (m : MemArg) → align < 16 → mem_arg_with builders align a b c minimal s m
    → after_flags builders (align + 16 * (where_set a 1 + (2 * where_set b 1 + 4 * where_set c 1))) minimal s m
flags_encodes align a b c s m low h =
    let f : ℕ = align + 16 * (where_set a 1 + (2 * where_set b 1 + 4 * where_set c 1)) in
    let p = one_or_none a in
    let q = one_or_none b in
    let r = one_or_none c in
    with_bits (align + 16 * (where_set a 1 + (2 * where_set b 1 + 4 * where_set c 1))) align a b c s m
    (lt-ltb _ 0x80 (omega (arith, low, p, q, r))) (omega (arith, low, p, q, r))
    (is_set a _ (omega (arith, low, p, q, r))) (is_set b _ (omega (arith, low, p, q, r))) (is_set c _ (omega (arith, low, p, q, r))) h

target_encodes : (t : MemArgTarget) → IsWellFormedTarget t → target_of builders (is_array t) (has_memory t) minimal (optional_encoding unsigned_encoding (index_of t)) t
target_encodes (Memory zero) h = (refl, refl)
target_encodes (Memory (suc n)) h = (suc n, refl, (u32_encodes (suc n) h, omega arith))
target_encodes (Array n) h = (n, refl, u32_encodes n h)

order_encodes : (o : MemArgOrdering) → mem_ordering minimal (mem_ordering_code o ∷ []) (normal_ordering o)
order_encodes (orders.Op SeqCst) = tagged_encodes minimal 0x00 [] (orders.Op SeqCst) (refl, refl)
order_encodes (orders.Op AcqRel) = tagged_encodes minimal 0x01 [] (orders.Op AcqRel) (refl, refl)
order_encodes (orders.Rmw SeqCst) = tagged_encodes minimal 0x00 [] (orders.Op SeqCst) (refl, refl)
order_encodes (orders.Rmw AcqRel) = tagged_encodes minimal 0x11 [] (orders.Rmw AcqRel) (refl, refl)

optional_encodes : (o : Option MemArgOrdering) → optional (has_ordering o) mem_ordering minimal (optional_encoding (λ p. mem_ordering_code p ∷ []) o) (normal_order o)
optional_encodes None = (refl, refl)
optional_encodes (Some o) = (normal_ordering o, refl, order_encodes o)

pub memory_encodes : (m : MemArg) → IsWellFormedMemory m → mem_arg minimal (mem_arg_encoding m) (normal_memory m)
memory_encodes m h =
    let a = has_ordering m.ordering in
    let b = is_array m.target in
    let c = has_memory m.target in
    let order = optional_encoding (λ p. mem_ordering_code p ∷ []) m.ordering in
    let index = optional_encoding unsigned_encoding (index_of m.target) in
    let back = index ++ (order ++ unsigned_encoding m.offset) in
    let sum : mem_flags m ≡ m.align + 16 * (where_set a 1 + (2 * where_set b 1 + 4 * where_set c 1)) = flags_sum m.align a b c h.align in
    let after : mem_arg_with builders m.align a b c minimal back (normal_memory m) = (
      (m.target, (normal_order m.ordering, m.offset)),
      refl,
      record {
        front = index;
        back = order ++ unsigned_encoding m.offset;
        joined = refl;
        first = target_encodes m.target h.target;
        second = record { front = order; back = unsigned_encoding m.offset; joined = refl; first = optional_encodes m.ordering; second = u64_encodes m.offset h.offset };
      },
    ) in
    let known : after_flags builders (mem_flags m) minimal back (normal_memory m) = subst (λ f. after_flags builders f minimal back (normal_memory m)) (sym sum) (flags_encodes m.align a b c back (normal_memory m) h.align after) in (
      (mem_flags m, normal_memory m),
      refl,
      record {
        front = unsigned_encoding (mem_flags m);
        back = back;
        joined = refl;
        first = u32_encodes (mem_flags m) (omega (arith, sum, h.align, one_or_none a, one_or_none b, one_or_none c));
        second = known;
      },
    )

-- ---- the encodings of other immediates

pub block_encodes : (b : BlockType) → IsWellFormedBlock b → block_type minimal (block_encoding b) b
block_encodes blocks.Empty h = inl (refl, refl)
block_encodes (blocks.Result t) h = inr (inl (t, refl, val-encodings.encodes t h))
block_encodes (blocks.FunctionType index) h = inr (inr (index, refl, s33_encodes index h))

-- Two numbers, one after another.
numbers_encodes : (a b : ℕ) → a < 2 ^ 32 → b < 2 ^ 32 → pair u32 u32 minimal (unsigned_encoding a ++ unsigned_encoding b) (a, b)
numbers_encodes a b h g = record { front = unsigned_encoding a; back = unsigned_encoding b; joined = refl; first = u32_encodes a h; second = u32_encodes b g }

pub catch_encodes : (c : Catch) → IsWellFormedCatch c → catch minimal (catch_encoding c) c
catch_encodes (One tag label) h = tagged_encodes minimal 0x00 (unsigned_encoding tag ++ unsigned_encoding label) (One tag label) ((tag, label), refl, numbers_encodes tag label h.0 h.1)
catch_encodes (OneRef tag label) h = tagged_encodes minimal 0x01 (unsigned_encoding tag ++ unsigned_encoding label) (OneRef tag label) ((tag, label), refl, numbers_encodes tag label h.0 h.1)
catch_encodes (All label) h = tagged_encodes minimal 0x02 (unsigned_encoding label) (All label) (label, refl, u32_encodes label h)
catch_encodes (AllRef label) h = tagged_encodes minimal 0x03 (unsigned_encoding label) (AllRef label) (label, refl, u32_encodes label h)

pub handle_encodes : (c : Handle) → IsWellFormedHandle c → handle minimal (handle_encoding c) c
handle_encodes (OnLabel tag label) h = tagged_encodes minimal 0x00 (unsigned_encoding tag ++ unsigned_encoding label) (OnLabel tag label) ((tag, label), refl, numbers_encodes tag label h.0 h.1)
handle_encodes (OnSwitch tag) h = tagged_encodes minimal 0x01 (unsigned_encoding tag) (OnSwitch tag) (tag, refl, u32_encodes tag h)

vector_low : (v : ℤ) → IsVector v → twos_complement 128 v < 256 ^ 16
vector_low (pos n) h = omega (arith, h)
vector_low (negsuc n) h = omega (arith, h)

pub vector_encodes : (v : ℤ) → IsVector v → vector_format minimal (vector_encoding v) v
unfolding vector_encoding
vector_encodes v h = (little_endian_encodes 16 (twos_complement 128 v) (vector_low v h), h)

-- ---- for the laws

pub block-encodings : HasMinimalEncodings block_type IsWellFormedBlock block_encoding
block-encodings = record { encodes = block_encodes }

pub catch-encodings : HasMinimalEncodings catch IsWellFormedCatch catch_encoding
catch-encodings = record { encodes = catch_encodes }

pub handle-encodings : HasMinimalEncodings handle IsWellFormedHandle handle_encoding
handle-encodings = record { encodes = handle_encodes }

pub memory-encodings : HasMinimalEncodings mem_arg IsNormalMemory mem_arg_encoding
memory-encodings = record { encodes = λ m h. subst (λ x. mem_arg minimal (mem_arg_encoding m) x) h.normal (memory_encodes m h.plain) }

pub vector-encodings : HasMinimalEncodings vector_format IsVector vector_encoding
vector-encodings = record { encodes = vector_encodes }

pub ordering-encodings : HasMinimalEncodings ordering_format (λ o. ⊤) ordering_encoding
ordering-encodings = record { encodes = λ o h. refl }

pub memory_arguments : (m : MemArg) → DecodesMemoryArgument m
memory_arguments m = record { unique = λ h. decodes_uniquely mem_arg_unambiguous (memory_encodes m h) }

pub ruleset immediates = (ordering-encodings, ordering_unambiguous, mem_arg_unambiguous, block_unambiguous, catch_unambiguous, handle_unambiguous, vector_unambiguous, memory-encodings, block-encodings, catch-encodings, handle-encodings, vector-encodings)

pub padded-ordering : UnambiguousPadded ordering_format
padded-ordering = unambiguous_padded ordering_unambiguous

pub padded-mem_arg : UnambiguousPadded mem_arg
padded-mem_arg = unambiguous_padded mem_arg_unambiguous

pub padded-block : UnambiguousPadded block_type
padded-block = unambiguous_padded block_unambiguous

pub padded-catch : UnambiguousPadded catch
padded-catch = unambiguous_padded catch_unambiguous

pub padded-handle : UnambiguousPadded handle
padded-handle = unambiguous_padded handle_unambiguous

pub padded-vector : UnambiguousPadded vector_format
padded-vector = unambiguous_padded vector_unambiguous

pub ruleset padded_immediates = (padded-ordering, padded-mem_arg, padded-block, padded-catch, padded-handle, padded-vector)

-- For the tactics: a number below 128 is one byte.
pub one_byte : (n : ℕ) → n < 128 → unsigned_encoding n ≡ n ∷ []
one_byte n h = one_group false 128 n h
