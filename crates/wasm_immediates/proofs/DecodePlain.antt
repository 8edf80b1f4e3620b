-- This file proves that decoded immediates are well-formed and in normal form.
use Rattle.wasm_base.proofs.Words.{val_type_is, ◌≡◌, ℕ, ◌<◌, ◌%◌, List, Bool, true, false, Option, Some, refl, sym, ap, subst, arith, nat_lt, Mode, when, impossible, optional, AllValues}
use Rattle.wasm_base.proofs.Words.{Grammar, builders, admitted, values_one_of, values_tagged, index_is}
use Rattle.wasm_base.proofs.DecodePlain.{values_by_mode}
use Rattle.wasm_immediates.specs.{IsWellFormedTarget, IsWellFormedBlock, IsWellFormedCatch, IsWellFormedHandle, IsNormalMemory, normal_ordering, normal_order, mem_arg_of, mem_ordering, mem_orderings}
use Rattle.wasm_immediates.specs.{mem_arg_with, after_flags, mem_arg_in, mem_arg, target_of, bit, block_type, catch, catch_tags, handle, handle_tags}
use Rattle.wasm_immediates.specs.declared.memory.MemArgOrdering.{MemArgOrdering}

abbrev IsNormalOrdering : MemArgOrdering → Type 0
IsNormalOrdering o = normal_ordering o ≡ o

mem_ordering_is : AllValues IsNormalOrdering mem_ordering
mem_ordering_is = values_tagged IsNormalOrdering mem_orderings (λ mode s x h. subst IsNormalOrdering (sym h.1) refl, (λ mode s x h. subst IsNormalOrdering (sym h.1) refl, (λ mode s x h. subst IsNormalOrdering (sym h.1) refl, tt)))

target_is : (w : Grammar) (array other : Bool) → AllValues IsWellFormedTarget (target_of w array other)
target_is w false false mode s x h = subst IsWellFormedTarget (sym h.1) (omega arith)
target_is w true false mode s x h = subst IsWellFormedTarget h.1 h.2.range
target_is w false true mode s x h = subst IsWellFormedTarget h.1 h.2.0.range
target_is w true true mode s x h = absurd h

order_is : (flag : Bool) (mode : Mode) (s : List ℕ) (o : Option MemArgOrdering) → optional flag mem_ordering mode s o → normal_order o ≡ o
order_is true mode s o h = subst (λ z. normal_order z ≡ z) h.1 (ap Some (mem_ordering_is mode s h.0 h.2))
order_is false mode s o h = subst (λ z. normal_order z ≡ z) (sym h.1) refl

memory_with : (w : Grammar) (align : ℕ) (ordered array other : Bool) → align < 16 → AllValues IsNormalMemory (mem_arg_with w align ordered array other)
memory_with w align ordered array other l mode s m h =
    let parts = h.2 in
    subst IsNormalMemory h.1 (record {
      plain = record { align = l; target = target_is w array other mode parts.front h.0.0 parts.first; offset = parts.second.second.range };
      normal = ap (λ o. mem_arg_of align (h.0.0, (o, h.0.1.1))) (order_is ordered mode parts.second.front h.0.1.0 parts.second.first);
    })

memory_in : (w : Grammar) → AllValues IsNormalMemory (mem_arg_in w)
memory_in w mode s m h = subst IsNormalMemory h.1 (after h.0.0 mode h.2.back h.0.1 h.2.second)
  where
    after : (f : ℕ) → AllValues IsNormalMemory (after_flags w f)
    after f mode s m h = go (nat_lt f 0x80) h
      where
        go : (low : Bool) → when low (mem_arg_with w (f % 16) (bit 4 f) (bit 5 f) (bit 6 f)) impossible mode s m → IsNormalMemory m
        go true k = memory_with w (f % 16) (bit 4 f) (bit 5 f) (bit 6 f) (omega arith) mode s m k
        go false k = absurd k

pub memory_is : AllValues IsNormalMemory mem_arg
memory_is = values_by_mode IsNormalMemory (memory_in builders) (memory_in builders) (memory_in admitted)

pub block_is : AllValues IsWellFormedBlock block_type
block_is =
    values_one_of IsWellFormedBlock (λ mode s x h. subst IsWellFormedBlock (sym h.1) tt)
    (values_one_of IsWellFormedBlock (λ mode s x h. subst IsWellFormedBlock h.1 (val_type_is mode s h.0 h.2)) (λ mode s x h. subst IsWellFormedBlock h.1 (index_is mode s h.0 h.2)))

pub catch_is : AllValues IsWellFormedCatch catch
catch_is =
    values_tagged IsWellFormedCatch catch_tags (
      λ mode s x h. subst IsWellFormedCatch h.1 (h.2.first.range, h.2.second.range),
      (λ mode s x h. subst IsWellFormedCatch h.1 (h.2.first.range, h.2.second.range), (λ mode s x h. subst IsWellFormedCatch h.1 h.2.range, (λ mode s x h. subst IsWellFormedCatch h.1 h.2.range, tt))),
    )

pub handle_is : AllValues IsWellFormedHandle handle
handle_is = values_tagged IsWellFormedHandle handle_tags (λ mode s x h. subst IsWellFormedHandle h.1 (h.2.first.range, h.2.second.range), (λ mode s x h. subst IsWellFormedHandle h.1 h.2.range, tt))
