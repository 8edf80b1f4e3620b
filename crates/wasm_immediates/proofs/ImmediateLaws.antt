-- This file proves that immediates are unambiguous.
use Rattle.wasm_base.proofs.Words.{s33, val_type, inl, inr, one_of, values_one_of, val_unambiguous, begins_weaker, ◌⊎◌, begins_fixed, begins_one_of, IsValByte, ◌≡◌, ℕ, zero, suc, ◌+◌, ◌*◌, ◌/◌, ◌%◌}
use Rattle.wasm_base.proofs.Words.{◌^◌, ◌<◌, List, [], ◌∷◌, Bool, true, false, cond, eqb, Option, refl, sym, ap, ◌∙◌, arith, eqb-true, eqb-false, ltb-true, nat_lt, Mode, Format, u32, byte, impossible}
use Rattle.wasm_base.proofs.Words.{mapped, when, pair, optional, Unambiguous, BeginsWith, IsIndexByte, IsInjective, DeterminesTag, when_unambiguous, mapped_unambiguous, such_unambiguous}
use Rattle.wasm_base.proofs.Words.{coded_unambiguous, fixed_unambiguous, impossible_unambiguous, tagged_unambiguous, one_of_unambiguous, byte_unambiguous, pair_unambiguous, optional_unambiguous, u64}
use Rattle.wasm_base.proofs.Words.{subst, ◌==◌, None, Grammar, builders, admitted, padded, standard_minimal, standard, by_mode_unambiguous, Then_unambiguous, DeterminesPrefix}
use Rattle.wasm_base.proofs.Words.{IsIncludedIn, AreGroups, u32_small, ◌-◌, ◌≤◌, ◌++◌, length, length-append, lt-ltb, choice_of, begins_mapped, values_mapped, none_in_common, u32_unambiguous}
use Rattle.wasm_base.proofs.Words.{u64_unambiguous, s33_unambiguous, val_begins, begins_s33}
use Rattle.wasm_base.specs.Decoding.{ShrinksTo}
use Rattle.wasm_immediates.specs.declared.memory.Ordering.{Ordering}
use Rattle.wasm_immediates.specs.declared.memory.MemArgOrdering.{MemArgOrdering}
use Rattle.wasm_immediates.specs.declared.memory.MemArg.{MemArg}
use Rattle.wasm_immediates.specs.declared.block_type.BlockType.{BlockType}
use Rattle.wasm_immediates.specs.declared.control.Catch.{Catch}
use Rattle.wasm_immediates.specs.declared.control.Handle.{Handle}
use Rattle.wasm_immediates.specs.{ordering_code, has_ordering, is_array, has_memory, where_set, block_type, ordering_format, mem_orderings, mem_ordering, bit, target_of, mem_arg_of, mem_arg_with}
use Rattle.wasm_immediates.specs.{HasIndex, memory_0, after_flags, mem_arg_in, mem_arg, one_of_pair, one_ref_of_pair, catch_tags, catch, on_label_of_pair, handle_tags, handle}
use Rattle.wasm_immediates.specs.declared.memory.Ordering.TheVariants.{AcqRel, SeqCst}
use Rattle.wasm_immediates.specs.declared.memory.MemArgTarget.{MemArgTarget}
use Rattle.wasm_immediates.specs.declared.memory.MemArgTarget.TheVariants.{Memory, Array}
use Rattle.wasm_immediates.specs.declared.control.Catch.TheVariants.{One, OneRef, All, AllRef}
use Rattle.wasm_immediates.specs.declared.control.Handle.TheVariants.{OnLabel, OnSwitch}
use Rattle.wasm_immediates.specs.declared.memory.MemArgOrdering.TheVariants as orders
use Rattle.wasm_immediates.specs.declared.block_type.BlockType.TheVariants as blocks

-- ---- orderings

pub ordering_unambiguous : Unambiguous ordering_format
ordering_unambiguous = coded_unambiguous ordering_code (λ b. cond (eqb b 0) SeqCst AcqRel) back
  where
    back : (x : Ordering) → cond (eqb (ordering_code x) 0) SeqCst AcqRel ≡ x
    back SeqCst = refl
    back AcqRel = refl

mem_ordering_tag : MemArgOrdering → ℕ
mem_ordering_tag (orders.Op SeqCst) = 0x00
mem_ordering_tag (orders.Op AcqRel) = 0x01
mem_ordering_tag (orders.Rmw o) = 0x11

pub mem_ordering_unambiguous : Unambiguous mem_ordering
unfolding mem_ordering_tag
mem_ordering_unambiguous =
    choice_of byte mem_ordering_tag mem_orderings byte_unambiguous
    (fixed_unambiguous [] (orders.Op SeqCst), (fixed_unambiguous [] (orders.Op AcqRel), (fixed_unambiguous [] (orders.Rmw AcqRel), tt)))
    (λ mode s x h. ap mem_ordering_tag (sym h.1), (λ mode s x h. ap mem_ordering_tag (sym h.1), (λ mode s x h. ap mem_ordering_tag (sym h.1), tt)))

-- ---- memory arguments

pub target_unambiguous : (w : Grammar) (array other : Bool) → Unambiguous (target_of w array other)
target_unambiguous w false false = fixed_unambiguous [] (Memory 0)
target_unambiguous w true false = mapped_unambiguous Array (λ x y e. cc) u32_unambiguous
target_unambiguous w false true = mapped_unambiguous Memory (λ x y e. cc) (such_unambiguous (HasIndex w) u32_unambiguous)
target_unambiguous w true true = impossible_unambiguous

mem_parts_of : MemArg → MemArgTarget × (Option MemArgOrdering × ℕ)
mem_parts_of m = (m.target, (m.ordering, m.offset))

mem_arg_apart : (align : ℕ) → IsInjective (mem_arg_of align)
unfolding mem_parts_of
mem_arg_apart align x y e = ap mem_parts_of e

mem_arg_with_unambiguous : (w : Grammar) (align : ℕ) (ordered array other : Bool) → Unambiguous (mem_arg_with w align ordered array other)
mem_arg_with_unambiguous w align ordered array other =
    mapped_unambiguous (mem_arg_of align) (mem_arg_apart align)
    (pair_unambiguous (target_unambiguous w array other) (pair_unambiguous (optional_unambiguous ordered mem_ordering_unambiguous) u64_unambiguous))

-- The number of a bit.
pub bit_value : (b : Bool) (n : ℕ) → n < 2 → eqb n 1 ≡ b → n ≡ where_set b 1
bit_value true n low e = eqb-true n 1 e
bit_value false n low e = none (eqb-false n 1 e)
  where
    none : (n ≡ 1 → ⊥) → n ≡ 0
    none h = omega arith

-- The contribution of the target to the flags.
abbrev target_flags : MemArgTarget → ℕ
target_flags t = 2 * where_set (is_array t) 1 + 4 * where_set (has_memory t) 1

positive_memory : (n : ℕ) → 0 < n → target_flags (Memory n) ≡ 4
positive_memory zero h = absurd (omega arith)
positive_memory (suc n) h = refl

target_determines : (array other : Bool) (mode : Mode) (s : List ℕ) (t : MemArgTarget) → target_of builders array other mode s t → 2 * where_set array 1 + 4 * where_set other 1 ≡ target_flags t
target_determines false false mode s t h = ap target_flags (sym h.1)
target_determines true false mode s t h = ap target_flags h.1
target_determines false true mode s t h = sym (positive_memory h.0 h.2.1) ∙ ap target_flags h.1
target_determines true true mode s t h = absurd h

ordering_determines : (ordered : Bool) (mode : Mode) (s : List ℕ) (o : Option MemArgOrdering) → optional ordered mem_ordering mode s o → where_set ordered 1 ≡ where_set (has_ordering o) 1
ordering_determines true mode s o h = ap (λ p. where_set (has_ordering p) 1) h.1
ordering_determines false mode s o h = ap (λ p. where_set (has_ordering p) 1) (sym h.1)

-- The flags of a well-formed memory argument, as a sum.
abbrev flags_of : MemArg → ℕ
flags_of m = m.align + 16 * (where_set (has_ordering m.ordering) 1 + target_flags m.target)

with_determines : (align : ℕ) (ordered array other : Bool) (mode : Mode) (s : List ℕ) (m : MemArg) → mem_arg_with builders align ordered array other mode s m
    → align + 16 * (where_set ordered 1 + (2 * where_set array 1 + 4 * where_set other 1)) ≡ flags_of m
with_determines align ordered array other mode s m h =
    let order = ordering_determines ordered mode h.2.second.front h.0.1.0 h.2.second.first in
    let target = target_determines array other mode h.2.front h.0.0 h.2.first in
    let sum : align + 16 * (where_set ordered 1 + (2 * where_set array 1 + 4 * where_set other 1)) ≡ flags_of (mem_arg_of align h.0) = omega (arith, order, target) in
    sum ∙ ap flags_of h.1

flags_determine : DeterminesTag (after_flags builders) flags_of
flags_determine mode f s m h = go (nat_lt f 0x80) refl h
  where
    split : f < 128 → f ≡ f % 16 + 16 * (where_set (bit 4 f) 1 + (2 * where_set (bit 5 f) 1 + 4 * where_set (bit 6 f) 1))
    split low =
        let a = bit_value (bit 4 f) (f / 2 ^ 4 % 2) (omega arith) refl in
        let b = bit_value (bit 5 f) (f / 2 ^ 5 % 2) (omega arith) refl in
        let c = bit_value (bit 6 f) (f / 2 ^ 6 % 2) (omega arith) refl in
        omega (arith, low, a, b, c)

    go : (low : Bool) → nat_lt f 0x80 ≡ low → when low (mem_arg_with builders (f % 16) (bit 4 f) (bit 5 f) (bit 6 f)) impossible mode s m → f ≡ flags_of m
    go true e g = split (ltb-true f 0x80 e) ∙ with_determines (f % 16) (bit 4 f) (bit 5 f) (bit 6 f) mode s m g
    go false e g = absurd g

after_unambiguous : (w : Grammar) (f : ℕ) → Unambiguous (after_flags w f)
after_unambiguous w f = when_unambiguous (nat_lt f 0x80) (mem_arg_with_unambiguous w (f % 16) (bit 4 f) (bit 5 f) (bit 6 f)) impossible_unambiguous

built_unambiguous : Unambiguous (mem_arg_in builders)
built_unambiguous = tagged_unambiguous flags_of flags_determine u32_unambiguous (after_unambiguous builders)

-- In the standard's grammar the value does not determine the flags, but both together are
-- determined.
admitted_unique : DeterminesPrefix (mem_arg_in admitted standard)
admitted_unique s t r q x y h g e =
    let a = (Then_unambiguous u32_unambiguous (after_unambiguous admitted)).unique standard s t r q h.0 g.0 h.2 g.2 e in
    (sym h.1 ∙ ap (λ p. p.1) a.0 ∙ g.1, a.1, a.2)

target_widened : (array other : Bool) (s : List ℕ) (t : MemArgTarget) → target_of builders array other standard s t → target_of admitted array other standard s t
target_widened false false s t h = h
target_widened true false s t h = h
target_widened false true s t h = (h.0, h.1, (h.2.0, tt))
target_widened true true s t h = h

-- The same memory arguments, flags by flags.
widened : (f : ℕ) (s : List ℕ) (m : MemArg) → after_flags builders f standard s m → after_flags admitted f standard s m
widened f s m h = go (nat_lt f 0x80) h
  where
    go : (low : Bool) → when low (mem_arg_with builders (f % 16) (bit 4 f) (bit 5 f) (bit 6 f)) impossible standard s m → when low (mem_arg_with admitted (f % 16) (bit 4 f) (bit 5 f) (bit 6 f)) impossible standard s m
    go true k = (k.0, k.1, record { front = k.2.front; back = k.2.back; joined = k.2.joined; first = target_widened (bit 5 f) (bit 6 f) k.2.front k.0.0 k.2.first; second = k.2.second })
    go false k = k

built_admitted : IsIncludedIn (mem_arg_in builders standard) (mem_arg_in admitted standard)
built_admitted s m h = (h.0, h.1, record { front = h.2.front; back = h.2.back; joined = h.2.joined; first = h.2.first; second = widened h.0.0 h.2.back h.0.1 h.2.second })

-- A target of the standard's grammar is one that builders encode, or memory 0 with an index.
target_narrowed : (array other : Bool) (s : List ℕ) (t : MemArgTarget) → target_of admitted array other standard s t → target_of builders array other standard s t ⊎ ((array ≡ false) × (other ≡ true) × (t ≡ Memory 0))
target_narrowed false false s t h = inl h
target_narrowed true false s t h = inl h
target_narrowed false true s t h = go h.0 h.1 h.2.0
  where
    go : (n : ℕ) → Memory n ≡ t → u32 standard s n → target_of builders false true standard s t ⊎ ((false ≡ false) × (true ≡ true) × (t ≡ Memory 0))
    go zero e k = inr (refl, refl, sym e)
    go (suc n) e k = inl (suc n, e, (k, omega arith))
target_narrowed true true s t h = absurd h

-- The flags without bit 6 and the bytes without the index encode the same memory argument.
abbrev EndsAlone : ℕ → List ℕ → MemArg → Type 0
EndsAlone f s m = (front back : List ℕ) × (s ≡ front ++ back) × (f < 0x80) × (0x40 ≤ f) × after_flags builders (f - 0x40) standard back m

same_bit : (index f g : ℕ) → f / 2 ^ index % 2 ≡ g / 2 ^ index % 2 → bit index f ≡ bit index g
same_bit index f g e = ap (λ z. z == 1) e

-- After flags with bit 6 alone of bits 5 and 6, the bytes after the index encode the target memory
-- 0 behind flags without bit 6.
alone : (f : ℕ) (back : List ℕ) (p : MemArgTarget × (Option MemArgOrdering × ℕ)) → f < 0x80 → bit 6 f ≡ true → p.0 ≡ Memory 0 → pair (optional (bit 4 f) mem_ordering) u64 standard back p.1 → bit 5 f ≡ false → (0x40 ≤ f) × after_flags builders (f - 0x40) standard back (mem_arg_of (f % 16) p)
alone f back p low set is h none =
    let c = bit_value (bit 6 f) (f / 2 ^ 6 % 2) (omega arith) refl in
    let one : f / 2 ^ 6 % 2 ≡ 1 = c ∙ ap (λ z. where_set z 1) set in
    let above : 0x40 ≤ f = omega (arith, one) in
    let same_4 : bit 4 (f - 0x40) ≡ bit 4 f = same_bit 4 (f - 0x40) f (omega (arith, above, low)) in
    let same_5 : bit 5 (f - 0x40) ≡ false = same_bit 5 (f - 0x40) f (omega (arith, above, low)) ∙ none in
    let same_6 : bit 6 (f - 0x40) ≡ false = same_bit 6 (f - 0x40) 0 (omega (arith, above, low)) in
    let same_align : (f - 0x40) % 16 ≡ f % 16 = omega (arith, above, low) in
    let both : mem_arg_with builders (f % 16) (bit 4 f) false false standard back (mem_arg_of (f % 16) p) = (p, refl, record { front = []; back = back; joined = refl; first = (refl, is); second = h }) in
    (above, rw (lt-ltb (f - 0x40) 0x80 (omega (arith, low)), same_align, same_4, same_5, same_6) both)

narrowed : (f : ℕ) (s : List ℕ) (m : MemArg) → after_flags admitted f standard s m → after_flags builders f standard s m ⊎ EndsAlone f s m
narrowed f s m h = go (nat_lt f 0x80) refl h
  where
    go : (low : Bool) → nat_lt f 0x80 ≡ low → when low (mem_arg_with admitted (f % 16) (bit 4 f) (bit 5 f) (bit 6 f)) impossible standard s m → when low (mem_arg_with builders (f % 16) (bit 4 f) (bit 5 f) (bit 6 f)) impossible standard s m ⊎ EndsAlone f s m
    go true e k =
        elim (target_narrowed (bit 5 f) (bit 6 f) k.2.front k.0.0 k.2.first) [
          | inl t ↦ inl (k.0, k.1, record { front = k.2.front; back = k.2.back; joined = k.2.joined; first = t; second = k.2.second })
          | inr t ↦
              let low = ltb-true f 0x80 e in
              let a = alone f k.2.back k.0 low t.1 t.2 k.2.second t.0 in
              inr (k.2.front, k.2.back, k.2.joined, low, a.0, subst (λ z. after_flags builders (f - 0x40) standard k.2.back z) k.1 a.1)
        ]
    go false e k = absurd k

-- The groups of a number are at least one.
some_groups : (s : List ℕ) → AreGroups s → 0 < length s
some_groups [] h = absurd h
some_groups (b ∷ bs) h = omega arith

memory_shrinks : ShrinksTo (mem_arg_in admitted standard) (mem_arg_in builders standard_minimal)
memory_shrinks s m h =
    elim (narrowed h.0.0 h.2.back h.0.1 h.2.second) [
      | inl k ↦ built_unambiguous.encodings.shorter admitted s m (h.0, h.1, record { front = h.2.front; back = h.2.back; joined = h.2.joined; first = h.2.first; second = k })
      | inr k ↦
          let flags : ℕ = h.0.0 - 0x40 in
          let one : u32 standard (flags ∷ []) flags = u32_small standard flags (omega (arith, k.3)) in
          let a = built_unambiguous.encodings.shorter admitted (flags ∷ k.1) m ((flags, h.0.1), h.1, record { front = flags ∷ []; back = k.1; joined = refl; first = one; second = k.5 }) in
          (a.0, a.1, omega (arith, a.2, ap length h.2.joined, ap length k.2, length-append h.2.front h.2.back, length-append k.0 k.1, some_groups h.2.front h.2.first.groups))
    ]

pub mem_arg_unambiguous : Unambiguous mem_arg
mem_arg_unambiguous =
    by_mode_unambiguous (mem_arg_in builders) (mem_arg_in builders) (mem_arg_in admitted) built_unambiguous built_unambiguous admitted_unique
    (λ s m h. built_admitted s m (built_unambiguous.encodings.included padded standard tt s m h))
    (λ s m h. built_admitted s m (built_unambiguous.encodings.included standard_minimal standard tt s m h))
    memory_shrinks

-- An index for memory 0, whose flag is bit 6.
pub index_zero : (align : ℕ) (bytes : List ℕ) (offset : ℕ) → align < 16 → u64 standard bytes offset → mem_arg standard ((0x40 + align) ∷ 0x00 ∷ bytes) (memory_0 align offset)
index_zero align bytes offset low h =
    let f : ℕ = 0x40 + align in
    let same_4 : bit 4 f ≡ false = same_bit 4 f 0 (omega (arith, low)) in
    let same_5 : bit 5 f ≡ false = same_bit 5 f 0 (omega (arith, low)) in
    let same_6 : bit 6 f ≡ true = same_bit 6 f 0x40 (omega (arith, low)) in
    let same_align : f % 16 ≡ align = omega (arith, low) in
    let both : mem_arg_with admitted align false false true standard (0x00 ∷ bytes) (memory_0 align offset) =
    ((Memory 0, (None, offset)), refl, record { front = 0x00 ∷ []; back = bytes; joined = refl; first = (0, refl, (u32_small standard 0 (omega arith), tt)); second = record { front = []; back = bytes; joined = refl; first = (refl, refl); second = h } }) in
    ((f, memory_0 align offset), refl, record { front = f ∷ []; back = 0x00 ∷ bytes; joined = refl; first = u32_small standard f (omega (arith, low)); second = rw (lt-ltb f 0x80 (omega (arith, low)), same_align, same_4, same_5, same_6) both })

-- ---- block types

abbrev pub typed_block : Format BlockType
typed_block = one_of (mapped blocks.Result val_type) (mapped blocks.FunctionType s33)

-- The case of a block type, out of three.
abbrev block_case : BlockType → ℕ
block_case blocks.Empty = 0
block_case (blocks.Result t) = 1
block_case (blocks.FunctionType f) = 2

-- Bytes from 0x63 to 0x7F, or of an index: no typed block begins with 0x40.
abbrev IsTypedByte : ℕ → Type 0
IsTypedByte b = IsValByte b ⊎ IsIndexByte b

val_apart : (b : ℕ) → IsValByte b → IsIndexByte b → ⊥
val_apart b (inl p) q = elim q [ inl l ↦ omega (arith, p.0, l) | inr l ↦ omega (arith, p.1, l) ]
val_apart b (inr p) q = elim q [ inl l ↦ omega (arith, p.0, l) | inr l ↦ omega (arith, p.1, l) ]

empty_apart : (b : ℕ) → b ≡ 0x40 → IsTypedByte b → ⊥
empty_apart b e (inl p) = elim p [ inl q ↦ omega (arith, q.0, e) | inr q ↦ omega (arith, q.0, e) ]
empty_apart b e (inr p) = elim p [ inl q ↦ omega (arith, q, e) | inr q ↦ omega (arith, q, e) ]

typed_begins : BeginsWith IsTypedByte typed_block
typed_begins =
    begins_one_of IsTypedByte
    (begins_weaker IsValByte IsTypedByte (λ b p. inl p) (begins_mapped IsValByte blocks.Result val_begins))
    (begins_weaker IsIndexByte IsTypedByte (λ b p. inr p) (begins_mapped IsIndexByte blocks.FunctionType begins_s33))

typed_unambiguous : Unambiguous typed_block
typed_unambiguous =
    one_of_unambiguous IsValByte IsIndexByte val_apart (begins_mapped IsValByte blocks.Result val_begins) (begins_mapped IsIndexByte blocks.FunctionType begins_s33)
    (none_in_common (λ x. block_case x ≡ 1) (λ x. block_case x ≡ 2) (λ x p q. omega (arith, p, q)) (values_mapped (λ x. block_case x ≡ 1) blocks.Result _ (λ x. refl)) (values_mapped (λ x. block_case x ≡ 2) blocks.FunctionType _ (λ x. refl)))
    (mapped_unambiguous blocks.Result (λ x y e. cc) val_unambiguous) (mapped_unambiguous blocks.FunctionType (λ x y e. cc) s33_unambiguous)

pub block_unambiguous : Unambiguous block_type
block_unambiguous =
    one_of_unambiguous (λ b. b ≡ 0x40) IsTypedByte empty_apart
    (begins_fixed (λ b. b ≡ 0x40) 0x40 [] blocks.Empty refl) typed_begins
    (none_in_common (λ x. block_case x ≡ 0) (λ x. 0 < block_case x) (λ x p q. omega (arith, p, q)) (λ mode s x h. ap block_case h.1)
    (values_one_of (λ x. 0 < block_case x) (values_mapped (λ x. 0 < block_case x) blocks.Result _ (λ x. omega arith)) (values_mapped (λ x. 0 < block_case x) blocks.FunctionType _ (λ x. omega arith))))
    (fixed_unambiguous (0x40 ∷ []) blocks.Empty) typed_unambiguous

-- ---- catches and handles

numbers_unambiguous : Unambiguous (pair u32 u32)
numbers_unambiguous = pair_unambiguous u32_unambiguous u32_unambiguous

abbrev catch_tag : Catch → ℕ
catch_tag (One tag label) = 0x00
catch_tag (OneRef tag label) = 0x01
catch_tag (All label) = 0x02
catch_tag (AllRef label) = 0x03

abbrev catch_numbers : Catch → ℕ × ℕ
catch_numbers (One tag label) = (tag, label)
catch_numbers (OneRef tag label) = (tag, label)
catch_numbers (All label) = (0, label)
catch_numbers (AllRef label) = (0, label)

pub catch_unambiguous : Unambiguous catch
catch_unambiguous =
    choice_of byte catch_tag catch_tags byte_unambiguous
    (mapped_unambiguous one_of_pair (λ x y e. ap catch_numbers e) numbers_unambiguous, (mapped_unambiguous one_ref_of_pair (λ x y e. ap catch_numbers e) numbers_unambiguous, (mapped_unambiguous All (λ x y e. cc) u32_unambiguous, (mapped_unambiguous AllRef (λ x y e. cc) u32_unambiguous, tt))))
    (λ mode s x h. ap catch_tag h.1, (λ mode s x h. ap catch_tag h.1, (λ mode s x h. ap catch_tag h.1, (λ mode s x h. ap catch_tag h.1, tt))))

abbrev handle_tag : Handle → ℕ
handle_tag (OnLabel tag label) = 0x00
handle_tag (OnSwitch tag) = 0x01

abbrev handle_numbers : Handle → ℕ × ℕ
handle_numbers (OnLabel tag label) = (tag, label)
handle_numbers (OnSwitch tag) = (tag, 0)

pub handle_unambiguous : Unambiguous handle
handle_unambiguous =
    choice_of byte handle_tag handle_tags byte_unambiguous
    (mapped_unambiguous on_label_of_pair (λ x y e. ap handle_numbers e) numbers_unambiguous, (mapped_unambiguous OnSwitch (λ x y e. cc) u32_unambiguous, tt))
    (λ mode s x h. ap handle_tag h.1, (λ mode s x h. ap handle_tag h.1, tt))
