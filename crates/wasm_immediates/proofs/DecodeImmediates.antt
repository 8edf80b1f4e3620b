-- This file proves how readers decode immediates.
use Rattle.wasm_base.proofs.Words.{val_type_rejects, val_type_none, begins_fixed, val_type_decodes, val_type, [], IsValByte, BeginsWith, fixed, after_byte, ◌∙◌, Mode, minimal, padded}
use Rattle.wasm_base.proofs.Words.{standard_minimal, standard, Grammar, builders, admitted, is_admitted, padded_of, ◌≡◌, ◌≢◌, ◌⊎◌, inl, inr, ℕ, ◌<◌, ◌≤◌, ◌/◌, ◌%◌, ◌^◌, ◌==◌, List, ◌∷◌, Bool, true}
use Rattle.wasm_base.proofs.Words.{false, Option, Some, None, option_map, refl, sym, ap, subst, arith, lt-ltb, le-ltb, Format, u32, u64, byte, s33, choice, impossible, pair, optional, when, Decodes}
use Rattle.wasm_base.proofs.Words.{Rejects, IsIndexByte, byte_unambiguous, optional_unambiguous, u32_unambiguous, begins_s33, val_begins, u32_byte, no_index_byte, then_decodes, then_rejects_first}
use Rattle.wasm_base.proofs.Words.{then_rejects_second, mapped_decodes, mapped_rejects, such_decodes, such_none, such_rejects, tagged_decodes, tagged_none, tagged_rejects, no_choice, fixed_decodes}
use Rattle.wasm_base.proofs.Words.{impossible_rejects, optional_none, one_of_rejects, not_begun, no_bytes, code_decodes, code_none, code_unknown}
use Rattle.wasm_base.specs.declared.types.ValType.{ValType}
use Rattle.wasm_immediates.specs.declared.memory.Ordering.{Ordering}
use Rattle.wasm_immediates.specs.declared.memory.MemArgOrdering.{MemArgOrdering}
use Rattle.wasm_immediates.specs.declared.memory.MemArg.{MemArg}
use Rattle.wasm_immediates.specs.declared.control.Catch.{Catch}
use Rattle.wasm_immediates.specs.declared.control.Handle.{Handle}
use Rattle.wasm_immediates.specs.{ordering_code, block_type, ordering_format, mem_orderings, mem_ordering, bit, HasIndex, mem_arg_in, target_of, mem_arg_of, mem_arg_with, after_flags, mem_arg}
use Rattle.wasm_immediates.specs.{one_of_pair, one_ref_of_pair, catch_tags, catch, on_label_of_pair, handle_tags, handle}
use Rattle.wasm_immediates.specs.declared.memory.Ordering.TheVariants.{AcqRel, SeqCst}
use Rattle.wasm_immediates.specs.declared.memory.MemArgTarget.{MemArgTarget}
use Rattle.wasm_immediates.specs.declared.memory.MemArgTarget.TheVariants.{Memory, Array}
use Rattle.wasm_immediates.specs.declared.control.Catch.TheVariants.{One, OneRef, All, AllRef}
use Rattle.wasm_immediates.specs.declared.control.Handle.TheVariants.{OnLabel, OnSwitch}
use Rattle.wasm_immediates.proofs.ImmediateLaws.{target_unambiguous, mem_ordering_unambiguous}
use Rattle.wasm_immediates.specs.declared.memory.MemArgOrdering.TheVariants as orders
use Rattle.wasm_immediates.specs.declared.block_type.BlockType.TheVariants as blocks

-- ---- orderings

pub ordering_decodes : {m : Mode} (bytes rest : List ℕ) (b : ℕ) (o : Ordering) → Decodes byte m bytes b rest → b ≡ ordering_code o → Decodes ordering_format m bytes o rest
ordering_decodes = code_decodes ordering_code

pub ordering_none : {m : Mode} (bytes : List ℕ) → Rejects byte m bytes → Rejects ordering_format m bytes
ordering_none = code_none ordering_code

pub ordering_unknown : {m : Mode} (bytes rest : List ℕ) (b : ℕ) → Decodes byte m bytes b rest → 2 ≤ b → Rejects ordering_format m bytes
ordering_unknown bytes rest b h l = code_unknown ordering_code bytes rest b h other
  where
    other : (o : Ordering) → b ≢ ordering_code o
    other SeqCst e = omega (arith, l, e)
    other AcqRel e = omega (arith, l, e)

pub ruleset ordering_steps = (ordering_decodes, ordering_none, ordering_unknown)

abbrev after_order : ℕ → Format MemArgOrdering
after_order b = choice mem_orderings (λ c. impossible) b

mem_tag : {m : Mode} (bytes rest : List ℕ) (b c : ℕ) (o : MemArgOrdering) → Decodes byte m bytes b rest → b ≡ c → Decodes (after_order c) m rest o rest → Decodes mem_ordering m bytes o rest
mem_tag {m = m} bytes rest b c o h e g = tagged_decodes {G = after_order} h (subst (λ c. Decodes (after_order c) m rest o rest) (sym e) g)

pub mem_seq_cst : {m : Mode} (bytes rest : List ℕ) (b : ℕ) → Decodes byte m bytes b rest → b ≡ 0x00 → Decodes mem_ordering m bytes (orders.Op SeqCst) rest
mem_seq_cst bytes rest b h e = mem_tag bytes rest b 0x00 (orders.Op SeqCst) h e (fixed_decodes rest (orders.Op SeqCst))

pub mem_acq_rel : {m : Mode} (bytes rest : List ℕ) (b : ℕ) → Decodes byte m bytes b rest → b ≡ 0x01 → Decodes mem_ordering m bytes (orders.Op AcqRel) rest
mem_acq_rel bytes rest b h e = mem_tag bytes rest b 0x01 (orders.Op AcqRel) h e (fixed_decodes rest (orders.Op AcqRel))

pub mem_rmw : {m : Mode} (bytes rest : List ℕ) (b : ℕ) → Decodes byte m bytes b rest → b ≡ 0x11 → Decodes mem_ordering m bytes (orders.Rmw AcqRel) rest
mem_rmw bytes rest b h e = mem_tag bytes rest b 0x11 (orders.Rmw AcqRel) h e (fixed_decodes rest (orders.Rmw AcqRel))

pub mem_order_none : {m : Mode} (bytes : List ℕ) → Rejects byte m bytes → Rejects mem_ordering m bytes
mem_order_none bytes n = tagged_none byte after_order bytes n

pub mem_order_unknown : {m : Mode} (bytes rest : List ℕ) (b : ℕ) → Decodes byte m bytes b rest → b ≢ 0x00 → b ≢ 0x01 → b ≢ 0x11 → Rejects mem_ordering m bytes
mem_order_unknown bytes rest b h p q r = tagged_rejects {G = after_order} byte_unambiguous h (no_choice mem_orderings b rest (p, (q, (r, tt))))

pub ruleset mem_ordering_steps = (mem_seq_cst, mem_acq_rel, mem_rmw, mem_order_none, mem_order_unknown)

-- ---- indices of memories

pub has_index : (w : Grammar) (n : ℕ) → n ≢ 0 → HasIndex w n
has_index builders n p = omega (arith, p)
has_index admitted n p = tt

pub any_index : (w : Grammar) (n : ℕ) → is_admitted w ≡ true → HasIndex w n
any_index builders n p = absurd (cc p)
any_index admitted n p = tt

pub no_index : (w : Grammar) (n : ℕ) → n ≡ 0 → is_admitted w ≡ false → HasIndex w n → ⊥
no_index builders n z p h = omega (arith, z, h)
no_index admitted n z p h = absurd (cc p)

-- ---- targets

module _ {m : Mode} (w : Grammar) (array other : Bool) (bytes : List ℕ) where
  pub target_memory_0 : array ≡ false → other ≡ false → Decodes (target_of w array other) m bytes (Memory 0) bytes
  target_memory_0 e f = rw (e, f) (fixed_decodes bytes (Memory 0))

  pub target_array : (rest : List ℕ) (n : ℕ) → array ≡ true → other ≡ false → Decodes u32 m bytes n rest → Decodes (target_of w array other) m bytes (Array n) rest
  target_array rest n e f h = rw (e, f) (mapped_decodes Array h)

  pub target_memory : (rest : List ℕ) (n : ℕ) → array ≡ false → other ≡ true → Decodes u32 m bytes n rest → n ≢ 0 → Decodes (target_of w array other) m bytes (Memory n) rest
  target_memory rest n e f h p = rw (e, f) (mapped_decodes Memory (such_decodes (HasIndex w) h (has_index w n p)))

  -- In the standard's grammar memory 0 may have an index.
  pub target_any_memory : (rest : List ℕ) (n : ℕ) (r : Bool) → array ≡ false → other ≡ true → Decodes u32 m bytes n rest → r ≡ is_admitted w → r ≡ true → Decodes (target_of w array other) m bytes (Memory n) rest
  target_any_memory rest n r e f h is p = rw (e, f) (mapped_decodes Memory (such_decodes (HasIndex w) h (any_index w n (sym is ∙ p))))

  pub target_both : array ≡ true → other ≡ true → Rejects (target_of w array other) m bytes
  target_both e f = rw (e, f) (impossible_rejects bytes)

  pub target_no_array : array ≡ true → other ≡ false → Rejects u32 m bytes → Rejects (target_of w array other) m bytes
  target_no_array e f n = rw (e, f) (mapped_rejects Array n)

  pub target_no_memory : array ≡ false → other ≡ true → Rejects u32 m bytes → Rejects (target_of w array other) m bytes
  target_no_memory e f n = rw (e, f) (mapped_rejects Memory (such_none (HasIndex w) n))

  pub target_zero : (rest : List ℕ) (n : ℕ) (r : Bool) → array ≡ false → other ≡ true → Decodes u32 m bytes n rest → n ≡ 0 → r ≡ is_admitted w → r ≡ false → Rejects (target_of w array other) m bytes
  target_zero rest n r e f h z is p = rw (e, f) (mapped_rejects Memory (such_rejects (HasIndex w) u32_unambiguous h (no_index w n z (sym is ∙ p))))

pub ruleset target_steps = (target_memory_0, target_array, target_memory, target_any_memory, target_both, target_no_array, target_no_memory, target_zero)

-- ---- memory arguments

pub option_same : {X : Type 0} (x : Option X) → option_map (λ n. n) x ≡ x
option_same (Some n) = refl
option_same None = refl

-- The memory arguments of a mode are those of its grammar.
at_grammar : (w : Grammar) (s : List ℕ) (v : MemArg) → mem_arg_in w (padded_of w) s v → mem_arg (padded_of w) s v
at_grammar builders s v h = h
at_grammar admitted s v h = h

abbrev pub grammar_of : Mode → Grammar
grammar_of minimal = builders
grammar_of padded = builders
grammar_of standard_minimal = builders
grammar_of standard = admitted

of_mode : (m : Mode) (s : List ℕ) (v : MemArg) → mem_arg m s v → mem_arg_in (grammar_of m) m s v
of_mode minimal s v h = h
of_mode padded s v h = h
of_mode standard_minimal s v h = h
of_mode standard s v h = h

mode_rejects : {m : Mode} {bytes : List ℕ} → Rejects (mem_arg_in (grammar_of m)) m bytes → Rejects mem_arg m bytes
mode_rejects {m = m} n = record { none = λ x rest h. n.none x rest (record { front = h.front; split = h.split; encodes = of_mode m h.front x h.encodes }) }

pub same_grammar : (w : Grammar) → grammar_of (padded_of w) ≡ w
same_grammar builders = refl
same_grammar admitted = refl

module _ (w : Grammar) where
  abbrev mem_parts : ℕ → Format (MemArgTarget × (Option MemArgOrdering × ℕ))
  mem_parts flags = pair (target_of w (bit 5 flags) (bit 6 flags)) (pair (optional (bit 4 flags) mem_ordering) u64)

  abbrev mem_after : ℕ → Bool → Format MemArg
  mem_after flags low = when low (mem_arg_with w (flags % 16) (bit 4 flags) (bit 5 flags) (bit 6 flags)) impossible

  in_decodes : {bytes rest : List ℕ} {v : MemArg} → Decodes (mem_arg_in w) (padded_of w) bytes v rest → Decodes mem_arg (padded_of w) bytes v rest
  in_decodes {v = v} h = record { front = h.front; split = h.split; encodes = at_grammar w h.front v h.encodes }

  in_rejects : {bytes : List ℕ} → Rejects (mem_arg_in w) (padded_of w) bytes → Rejects mem_arg (padded_of w) bytes
  in_rejects {bytes = bytes} n = mode_rejects (subst (λ z. Rejects (mem_arg_in z) (padded_of w) bytes) (sym (same_grammar w)) n)

  pub memory_decodes : (bytes start next last end : List ℕ) (flags offset : ℕ) (t : MemArgTarget) (o : Option MemArgOrdering) → Decodes u32 (padded_of w) bytes flags start → flags < 0x80
      → Decodes (target_of w (bit 5 flags) (bit 6 flags)) (padded_of w) start t next → Decodes (optional (bit 4 flags) mem_ordering) (padded_of w) next (option_map (λ n. n) o) last → Decodes u64 (padded_of w) last offset end
      → Decodes mem_arg (padded_of w) bytes (record { offset = offset; align = flags % 16; target = t; ordering = o }) end
  memory_decodes bytes start next last end flags offset t o h l g k j =
      in_decodes (tagged_decodes {G = after_flags w} h
      (subst (λ low. Decodes (mem_after flags low) (padded_of w) start (mem_arg_of (flags % 16) (t, (o, offset))) end) (sym (lt-ltb flags 0x80 l))
      (mapped_decodes (mem_arg_of (flags % 16)) (then_decodes g (then_decodes (subst (λ z. Decodes (optional (bit 4 flags) mem_ordering) (padded_of w) next z last) (option_same o) k) j)))))

  memory_rejects : (bytes start : List ℕ) (flags : ℕ) → Decodes u32 (padded_of w) bytes flags start → flags < 0x80 → Rejects (mem_parts flags) (padded_of w) start → Rejects mem_arg (padded_of w) bytes
  memory_rejects bytes start flags h l n =
      in_rejects (tagged_rejects {G = after_flags w} u32_unambiguous h (subst (λ low. Rejects (mem_after flags low) (padded_of w) start) (sym (lt-ltb flags 0x80 l)) (mapped_rejects (mem_arg_of (flags % 16)) n)))

  pub memory_no_target : (bytes start : List ℕ) (flags : ℕ) → Decodes u32 (padded_of w) bytes flags start → flags < 0x80 → Rejects (target_of w (bit 5 flags) (bit 6 flags)) (padded_of w) start → Rejects mem_arg (padded_of w) bytes
  memory_no_target bytes start flags h l n = memory_rejects bytes start flags h l (then_rejects_first n)

  pub memory_no_ordering : (bytes start next : List ℕ) (flags : ℕ) (t : MemArgTarget) → Decodes u32 (padded_of w) bytes flags start → flags < 0x80 → Decodes (target_of w (bit 5 flags) (bit 6 flags)) (padded_of w) start t next
      → Rejects (optional (bit 4 flags) mem_ordering) (padded_of w) next → Rejects mem_arg (padded_of w) bytes
  memory_no_ordering bytes start next flags t h l g n = memory_rejects bytes start flags h l (then_rejects_second (target_unambiguous w (bit 5 flags) (bit 6 flags)) g (then_rejects_first n))

  pub memory_no_offset : (bytes start next last : List ℕ) (flags : ℕ) (t : MemArgTarget) (o : Option MemArgOrdering) → Decodes u32 (padded_of w) bytes flags start → flags < 0x80
      → Decodes (target_of w (bit 5 flags) (bit 6 flags)) (padded_of w) start t next → Decodes (optional (bit 4 flags) mem_ordering) (padded_of w) next (option_map (λ n. n) o) last → Rejects u64 (padded_of w) last
      → Rejects mem_arg (padded_of w) bytes
  memory_no_offset bytes start next last flags t o h l g k n =
      memory_rejects bytes start flags h l (then_rejects_second (target_unambiguous w (bit 5 flags) (bit 6 flags)) g (then_rejects_second (optional_unambiguous (bit 4 flags) mem_ordering_unambiguous) k n))

pub memory_none : {m : Mode} (bytes : List ℕ) → Rejects u32 m bytes → Rejects mem_arg m bytes
memory_none {m = m} bytes n = mode_rejects (tagged_none u32 (after_flags (grammar_of m)) bytes n)

pub memory_unknown : {m : Mode} (bytes rest : List ℕ) (flags : ℕ) → Decodes u32 m bytes flags rest → 0x80 ≤ flags → Rejects mem_arg m bytes
memory_unknown {m = m} bytes rest flags h l =
    mode_rejects (tagged_rejects {G = after_flags (grammar_of m)} u32_unambiguous h (subst (λ low. Rejects (mem_after (grammar_of m) flags low) m rest) (sym (le-ltb flags 0x80 l)) (impossible_rejects rest)))

-- Bit tests of the flags are false where the arithmetic yields 0.
unset : (index flags : ℕ) → flags / 2 ^ index % 2 ≡ 0 → bit index flags ≡ false
unset index flags e = ap (λ z. z == 1) e

module _ (bytes start : List ℕ) (flags : ℕ) (e : bytes ≡ flags ∷ start) (low : flags < 0x10) where
  few_flags : (w : Grammar) → Decodes u32 (padded_of w) bytes flags start
  few_flags w = u32_byte w bytes start flags flags e (omega (arith, low)) refl

  memory_0 : {m : Mode} (w : Grammar) → Decodes (target_of w (bit 5 flags) (bit 6 flags)) m start (Memory 0) start
  memory_0 w = target_memory_0 w (bit 5 flags) (bit 6 flags) start (unset 5 flags (omega (arith, low))) (unset 6 flags (omega (arith, low)))

  no_order : {m : Mode} → Decodes (optional (bit 4 flags) mem_ordering) m start None start
  no_order = optional_none mem_ordering (bit 4 flags) start (unset 4 flags (omega (arith, low)))

  pub memory_plain : (w : Grammar) (last : List ℕ) (align offset : ℕ) → align ≡ flags → Decodes u64 (padded_of w) start offset last → Decodes mem_arg (padded_of w) bytes (record { offset = offset; align = align; target = Memory 0; ordering = None }) last
  memory_plain w last align offset is h =
      let same : flags % 16 ≡ align = omega (arith, low, is) in
      subst (λ n. Decodes mem_arg (padded_of w) bytes (record { offset = offset; align = n; target = Memory 0; ordering = None }) last) same
      (memory_decodes w bytes start start start last flags offset (Memory 0) None (few_flags w) (omega (arith, low)) (memory_0 w) no_order h)

  pub memory_plain_none : (w : Grammar) → Rejects u64 (padded_of w) start → Rejects mem_arg (padded_of w) bytes
  memory_plain_none w n = memory_no_offset w bytes start start start flags (Memory 0) None (few_flags w) (omega (arith, low)) (memory_0 w) no_order n

pub ruleset memory_steps = (memory_decodes, memory_none, memory_unknown, memory_no_target, memory_no_ordering, memory_no_offset)

-- ---- block types

pub block_empty : {m : Mode} (bytes rest : List ℕ) (b : ℕ) → Decodes byte m bytes b rest → b ≡ 0x40 → Decodes block_type m bytes blocks.Empty rest
block_empty bytes rest b h e = record { front = h.front; split = h.split; encodes = inl (h.encodes ∙ ap (λ z. z ∷ []) e, refl) }

pub block_result_decodes : {m : Mode} (bytes rest last : List ℕ) (b : ℕ) (v : ValType) → Decodes byte m bytes b rest → Decodes (after_byte val_type b) m rest v last → Decodes block_type m bytes (blocks.Result v) last
block_result_decodes bytes rest last b v h g = let k = val_type_decodes bytes rest last b v h g in record { front = k.front; split = k.split; encodes = inr (inl (v, refl, k.encodes)) }

pub block_index : {m : Mode} (bytes rest : List ℕ) (n : ℕ) → Decodes s33 m bytes n rest → Decodes block_type m bytes (blocks.FunctionType n) rest
block_index bytes rest n h = record { front = h.front; split = h.split; encodes = inr (inr (n, refl, h.encodes)) }

block_rejects : {m : Mode} {bytes : List ℕ} → Rejects (fixed (0x40 ∷ []) blocks.Empty) m bytes → Rejects val_type m bytes → Rejects s33 m bytes → Rejects block_type m bytes
block_rejects f g h = one_of_rejects f (one_of_rejects (mapped_rejects blocks.Result g) (mapped_rejects blocks.FunctionType h))

empty_begins : BeginsWith (λ b. b ≡ 0x40) (fixed (0x40 ∷ []) blocks.Empty)
empty_begins = begins_fixed (λ b. b ≡ 0x40) 0x40 [] blocks.Empty refl

pub block_none : {m : Mode} (bytes : List ℕ) → Rejects byte m bytes → Rejects block_type m bytes
block_none bytes n = block_rejects (no_bytes (λ b. b ≡ 0x40) (fixed (0x40 ∷ []) blocks.Empty) empty_begins n) (val_type_none bytes n) (no_bytes IsIndexByte s33 begins_s33 n)

not_empty : {m : Mode} (bytes rest : List ℕ) (b : ℕ) → Decodes byte m bytes b rest → b ≢ 0x40 → Rejects (fixed (0x40 ∷ []) blocks.Empty) m bytes
not_empty bytes rest b h p = not_begun (λ b. b ≡ 0x40) (fixed (0x40 ∷ []) blocks.Empty) empty_begins h p

pub block_no_result : {m : Mode} (bytes rest : List ℕ) (b : ℕ) → Decodes byte m bytes b rest → 0x40 < b → b < 0x80 → Rejects (after_byte val_type b) m rest → Rejects block_type m bytes
block_no_result bytes rest b h l u n =
    block_rejects (not_empty bytes rest b h (omega (arith, l))) (val_type_rejects bytes rest b h n) (not_begun IsIndexByte s33 begins_s33 h (no_index_byte b (omega (arith, l)) u))

no_value : (b : ℕ) → (b < 0x40) ⊎ (0x80 ≤ b) → IsValByte b → ⊥
no_value b (inl l) v = elim v [ inl p ↦ omega (arith, l, p.0) | inr p ↦ omega (arith, l, p.0) ]
no_value b (inr l) v = elim v [ inl p ↦ omega (arith, l, p.1) | inr p ↦ omega (arith, l, p.1) ]

pub block_no_index : {m : Mode} (bytes rest : List ℕ) (b : ℕ) → Decodes byte m bytes b rest → (b < 0x40) ⊎ (0x80 ≤ b) → Rejects s33 m bytes → Rejects block_type m bytes
block_no_index bytes rest b h other n =
    let p : b ≢ 0x40 = λ e. elim other [ inl l ↦ omega (arith, l, e) | inr l ↦ omega (arith, l, e) ] in
    block_rejects (not_empty bytes rest b h p) (not_begun IsValByte val_type val_begins h (no_value b other)) n

pub ruleset block_steps = (block_empty, block_result_decodes, block_index, block_none, block_no_result, block_no_index)

-- ---- catches

abbrev pub after_catch : ℕ → Format Catch
after_catch b = choice catch_tags (λ c. impossible) b

catch_is : {m : Mode} (bytes rest last : List ℕ) (b c : ℕ) (x : Catch) → Decodes byte m bytes b rest → b ≡ c → Decodes (after_catch c) m rest x last → Decodes catch m bytes x last
catch_is {m = m} bytes rest last b c x h e g = tagged_decodes {G = after_catch} h (subst (λ c. Decodes (after_catch c) m rest x last) (sym e) g)

catch_is_not : {m : Mode} (bytes rest : List ℕ) (b c : ℕ) → Decodes byte m bytes b rest → b ≡ c → Rejects (after_catch c) m rest → Rejects catch m bytes
catch_is_not {m = m} bytes rest b c h e n = tagged_rejects {G = after_catch} byte_unambiguous h (subst (λ c. Rejects (after_catch c) m rest) (sym e) n)

pub catch_one : {m : Mode} (bytes rest last : List ℕ) (b : ℕ) (tag label : ℕ) → Decodes byte m bytes b rest → b ≡ 0x00 → Decodes (pair u32 u32) m rest (tag, label) last → Decodes catch m bytes (One tag label) last
catch_one bytes rest last b tag label h e g = catch_is bytes rest last b 0x00 (One tag label) h e (mapped_decodes one_of_pair g)

pub catch_one_ref : {m : Mode} (bytes rest last : List ℕ) (b : ℕ) (tag label : ℕ) → Decodes byte m bytes b rest → b ≡ 0x01 → Decodes (pair u32 u32) m rest (tag, label) last → Decodes catch m bytes (OneRef tag label) last
catch_one_ref bytes rest last b tag label h e g = catch_is bytes rest last b 0x01 (OneRef tag label) h e (mapped_decodes one_ref_of_pair g)

pub catch_all : {m : Mode} (bytes rest last : List ℕ) (b label : ℕ) → Decodes byte m bytes b rest → b ≡ 0x02 → Decodes u32 m rest label last → Decodes catch m bytes (All label) last
catch_all bytes rest last b label h e g = catch_is bytes rest last b 0x02 (All label) h e (mapped_decodes All g)

pub catch_all_ref : {m : Mode} (bytes rest last : List ℕ) (b label : ℕ) → Decodes byte m bytes b rest → b ≡ 0x03 → Decodes u32 m rest label last → Decodes catch m bytes (AllRef label) last
catch_all_ref bytes rest last b label h e g = catch_is bytes rest last b 0x03 (AllRef label) h e (mapped_decodes AllRef g)

pub catch_none : {m : Mode} (bytes : List ℕ) → Rejects byte m bytes → Rejects catch m bytes
catch_none bytes n = tagged_none byte after_catch bytes n

pub catch_no_one : {m : Mode} (bytes rest : List ℕ) (b : ℕ) → Decodes byte m bytes b rest → b ≡ 0x00 → Rejects (pair u32 u32) m rest → Rejects catch m bytes
catch_no_one bytes rest b h e n = catch_is_not bytes rest b 0x00 h e (mapped_rejects one_of_pair n)

pub catch_no_one_ref : {m : Mode} (bytes rest : List ℕ) (b : ℕ) → Decodes byte m bytes b rest → b ≡ 0x01 → Rejects (pair u32 u32) m rest → Rejects catch m bytes
catch_no_one_ref bytes rest b h e n = catch_is_not bytes rest b 0x01 h e (mapped_rejects one_ref_of_pair n)

pub catch_no_all : {m : Mode} (bytes rest : List ℕ) (b : ℕ) → Decodes byte m bytes b rest → b ≡ 0x02 → Rejects u32 m rest → Rejects catch m bytes
catch_no_all bytes rest b h e n = catch_is_not bytes rest b 0x02 h e (mapped_rejects All n)

pub catch_no_all_ref : {m : Mode} (bytes rest : List ℕ) (b : ℕ) → Decodes byte m bytes b rest → b ≡ 0x03 → Rejects u32 m rest → Rejects catch m bytes
catch_no_all_ref bytes rest b h e n = catch_is_not bytes rest b 0x03 h e (mapped_rejects AllRef n)

pub catch_unknown : {m : Mode} (bytes rest : List ℕ) (b : ℕ) → Decodes byte m bytes b rest → 4 ≤ b → Rejects catch m bytes
catch_unknown bytes rest b h l = tagged_rejects {G = after_catch} byte_unambiguous h (no_choice catch_tags b rest (omega arith, (omega arith, (omega arith, (omega arith, tt)))))

pub ruleset catch_steps = (catch_one, catch_one_ref, catch_all, catch_all_ref, catch_none, catch_no_one, catch_no_one_ref, catch_no_all, catch_no_all_ref, catch_unknown)

-- ---- handles

abbrev pub after_handle : ℕ → Format Handle
after_handle b = choice handle_tags (λ c. impossible) b

handle_is : {m : Mode} (bytes rest last : List ℕ) (b c : ℕ) (x : Handle) → Decodes byte m bytes b rest → b ≡ c → Decodes (after_handle c) m rest x last → Decodes handle m bytes x last
handle_is {m = m} bytes rest last b c x h e g = tagged_decodes {G = after_handle} h (subst (λ c. Decodes (after_handle c) m rest x last) (sym e) g)

handle_is_not : {m : Mode} (bytes rest : List ℕ) (b c : ℕ) → Decodes byte m bytes b rest → b ≡ c → Rejects (after_handle c) m rest → Rejects handle m bytes
handle_is_not {m = m} bytes rest b c h e n = tagged_rejects {G = after_handle} byte_unambiguous h (subst (λ c. Rejects (after_handle c) m rest) (sym e) n)

pub handle_on_label : {m : Mode} (bytes rest last : List ℕ) (b : ℕ) (tag label : ℕ) → Decodes byte m bytes b rest → b ≡ 0x00 → Decodes (pair u32 u32) m rest (tag, label) last → Decodes handle m bytes (OnLabel tag label) last
handle_on_label bytes rest last b tag label h e g = handle_is bytes rest last b 0x00 (OnLabel tag label) h e (mapped_decodes on_label_of_pair g)

pub handle_on_switch : {m : Mode} (bytes rest last : List ℕ) (b tag : ℕ) → Decodes byte m bytes b rest → b ≡ 0x01 → Decodes u32 m rest tag last → Decodes handle m bytes (OnSwitch tag) last
handle_on_switch bytes rest last b tag h e g = handle_is bytes rest last b 0x01 (OnSwitch tag) h e (mapped_decodes OnSwitch g)

pub handle_none : {m : Mode} (bytes : List ℕ) → Rejects byte m bytes → Rejects handle m bytes
handle_none bytes n = tagged_none byte after_handle bytes n

pub handle_no_label : {m : Mode} (bytes rest : List ℕ) (b : ℕ) → Decodes byte m bytes b rest → b ≡ 0x00 → Rejects (pair u32 u32) m rest → Rejects handle m bytes
handle_no_label bytes rest b h e n = handle_is_not bytes rest b 0x00 h e (mapped_rejects on_label_of_pair n)

pub handle_no_switch : {m : Mode} (bytes rest : List ℕ) (b : ℕ) → Decodes byte m bytes b rest → b ≡ 0x01 → Rejects u32 m rest → Rejects handle m bytes
handle_no_switch bytes rest b h e n = handle_is_not bytes rest b 0x01 h e (mapped_rejects OnSwitch n)

pub handle_unknown : {m : Mode} (bytes rest : List ℕ) (b : ℕ) → Decodes byte m bytes b rest → 2 ≤ b → Rejects handle m bytes
handle_unknown bytes rest b h l = tagged_rejects {G = after_handle} byte_unambiguous h (no_choice handle_tags b rest (omega arith, (omega arith, tt)))

pub ruleset handle_steps = (handle_on_label, handle_on_switch, handle_none, handle_no_label, handle_no_switch, handle_unknown)
