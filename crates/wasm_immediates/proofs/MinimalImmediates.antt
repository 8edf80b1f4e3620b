-- This file proves that the encodings of decoded immediates are minimal in both grammars.
use Rattle.wasm_base.proofs.Words.{Grammar, builders, admitted, minimal, padded_of, ℕ, pos, [], Bool, true, false, refl, subst, inl, inr, s33_encodes}
use Rattle.wasm_base.specs.Numbers.{minimal_of, signed_encoding}
use Rattle.wasm_base.specs.Minimal.{EncodesMinimally}
use Rattle.wasm_base.specs.Walks.{EncodesIn}
use Rattle.wasm_base.proofs.GrammarLaws.{AreMinimalInBoth, minimal_in, canonical_by, u32_both, u64_both, s33_both, fixed_both, impossible_both, coded_both, such_both, when_both, mapped_both, pair_both, tagged_both, choices_both, optional_both}
use Rattle.wasm_base.proofs.TightTypes.{val_encodes_in}
use Rattle.wasm_immediates.specs.declared.memory.MemArgTarget.TheVariants.{Memory, Array}
use Rattle.wasm_immediates.specs.declared.block_type.BlockType.{BlockType}
use Rattle.wasm_immediates.specs.{HasIndex, target_of, mem_orderings, mem_ordering, mem_arg_of, after_flags, mem_arg_in, mem_arg, bit, mem_arg_encoding, block_type, block_encoding_in, catch, catch_tags}
use Rattle.wasm_immediates.specs.{catch_encoding, handle, handle_tags, handle_encoding, ordering_format, IsWellFormedBlock, IsWellFormedCatch, IsWellFormedHandle, one_of_pair, one_ref_of_pair, on_label_of_pair}
use Rattle.wasm_immediates.proofs.DecodePlain.{memory_is, block_is, catch_is, handle_is}
use Rattle.wasm_immediates.proofs.ImmediateEncodings.{memory_encodes, block_encodes, catch_encodes, handle_encodes}
use Rattle.wasm_immediates.specs.declared.block_type.BlockType.TheVariants as blocks

-- ---- memory arguments

target_both : (w : Grammar) (array other_memory : Bool) → AreMinimalInBoth (target_of w array other_memory)
target_both w false false = fixed_both [] (Memory 0)
target_both w true false = mapped_both Array u32_both
target_both w false true = mapped_both Memory (such_both (HasIndex w) u32_both)
target_both w true true = impossible_both

mem_ordering_both : AreMinimalInBoth mem_ordering
mem_ordering_both = choices_both mem_orderings (fixed_both [] _, (fixed_both [] _, (fixed_both [] _, tt)))

mem_arg_in_both : (w : Grammar) → AreMinimalInBoth (mem_arg_in w)
mem_arg_in_both w = tagged_both u32_both after
  where
    after : (flags : ℕ) → AreMinimalInBoth (after_flags w flags)
    after flags = when_both _ (mapped_both (mem_arg_of _) (pair_both (target_both w (bit 5 flags) (bit 6 flags)) (pair_both (optional_both (bit 4 flags) mem_ordering_both) u64_both))) impossible_both

pub mem_arg_both : AreMinimalInBoth mem_arg
mem_arg_both = record { same = λ s m h. (mem_arg_in_both builders).same s m h }

-- The encoding of a decoded memory argument is minimal in its grammar.
pub memory_canonical : EncodesMinimally mem_arg (λ m. m) mem_arg_encoding
memory_canonical = record {
  minimal_in = λ w s m h.
      let is = memory_is (padded_of w) s m h in
      minimal_in w m (mem_arg_encoding m) mem_arg_both (subst (λ z. mem_arg minimal (mem_arg_encoding m) z) is.normal (memory_encodes m is.plain));
}

-- ---- clauses

pub ordering_both : AreMinimalInBoth ordering_format
ordering_both = coded_both _

pub catch_both : AreMinimalInBoth catch
catch_both = choices_both catch_tags (mapped_both one_of_pair (pair_both u32_both u32_both), (mapped_both one_ref_of_pair (pair_both u32_both u32_both), (mapped_both _ u32_both, (mapped_both _ u32_both, tt))))

pub handle_both : AreMinimalInBoth handle
handle_both = choices_both handle_tags (mapped_both on_label_of_pair (pair_both u32_both u32_both), (mapped_both _ u32_both, tt))

pub catch_canonical : EncodesMinimally catch (λ c. c) catch_encoding
catch_canonical = canonical_by (λ c. c) catch_encoding IsWellFormedCatch catch_is catch_encodes catch_both

pub handle_canonical : EncodesMinimally handle (λ h. h) handle_encoding
handle_canonical = canonical_by (λ h. h) handle_encoding IsWellFormedHandle handle_is handle_encodes handle_both

-- ---- block types

-- The encoding of a well-formed block type in each grammar is minimal.
block_encodes_in : (w : Grammar) (b : BlockType) → IsWellFormedBlock b → block_type (minimal_of w) (block_encoding_in w b) b
block_encodes_in builders blocks.Empty h = inl (refl, refl)
block_encodes_in builders (blocks.Result ty) h = block_encodes (blocks.Result ty) h
block_encodes_in builders (blocks.FunctionType index) h = block_encodes (blocks.FunctionType index) h
block_encodes_in admitted blocks.Empty h = inl (refl, refl)
block_encodes_in admitted (blocks.Result ty) h = inr (inl (ty, refl, val_encodes_in admitted ty h))
block_encodes_in admitted (blocks.FunctionType index) h = inr (inr (index, refl, s33_both.same (signed_encoding (pos index)) index (s33_encodes index h)))

pub block_in : (w : Grammar) → EncodesIn w block_type (λ b. b) (block_encoding_in w)
block_in w = record { minimal_in = λ s b h. block_encodes_in w b (block_is (padded_of w) s b h) }
