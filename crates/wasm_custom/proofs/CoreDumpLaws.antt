-- This file proves that core dumps are unambiguous, and how they are decoded and minimized.
use Rattle.wasm_base.proofs.Words.{◌≡◌, ℕ, List, [], ◌∷◌, ◌++◌, length, true, IsUtf8, refl, sym, ap, subst, arith, length-append, map, ap₂, DecodesBack, ItemLaws, u32, name, pair, vec, fixed, just}
use Rattle.wasm_base.proofs.Words.{prefixed, IsUnsignedInRange, minimal, unsigned_encoding, Mode, Unambiguous, Decodes, Rejects, UnambiguousWhole, size_prefixed_encoding, HasEncodableSize}
use Rattle.wasm_base.proofs.Words.{vec_encoding, name_unambiguous, vec_u32_unambiguous, ascii, mapped_unambiguous, pair_unambiguous, prefixed_unambiguous, whole_from_unique, size_prefixed_unambiguous}
use Rattle.wasm_base.proofs.Words.{u32_unambiguous, pair_encodes, prefixed_encodes, decodes_uniquely, u32_encodes, name_encodes, vec_encodes, map-id, RejectsWhole, mapped_decodes, mapped_rejects}
use Rattle.wasm_base.proofs.Words.{after_whole, SectionLaws, AppendsMinimal, both_grammars, HasEncoding, left_encoded, right_encoded, prefixed_encoded, mapped_encoded, pair_appended, prefixed_appended}
use Rattle.wasm_base.proofs.Words.{mapped_appended}
use Rattle.wasm_custom.specs.{marked_encoding, marked_name, core_name, core_section, SaysProcess, modules_name, Instance, instance_encoding, IsInstance, instance_of, instance, instances_name}
use Rattle.wasm_custom.specs.{module_items, instance_items, core_payload, modules_payload, instances_payload, named_encoding, IsEncodableNamed, CustomLayoutLaws}
use Rattle.wasm_custom.proofs.CustomLaws.{named_encoded, named_encodes, data_encodable, named_appended}
use Rattle.wasm_custom.proofs.DecodeNamed.{named_fills, named_none, named_rejects}
use Rattle.wasm_custom.proofs.EntriesLaws.{counted_layout, entries_laws}

-- ---- names of processes, modules and threads

pub marked_unambiguous : Unambiguous marked_name
marked_unambiguous = prefixed_unambiguous (0x00 ∷ []) name_unambiguous

pub marked_encodes : (n : List ℕ) → IsUtf8 n → HasEncodableSize n → marked_name minimal (marked_encoding n) n
marked_encodes n utf8 encodable = prefixed_encodes (0x00 ∷ []) name (size_prefixed_encoding n) n (name_encodes n utf8 encodable)

-- ---- the process

pub core_whole : UnambiguousWhole core_payload
core_whole = after_whole core_name name_unambiguous (whole_from_unique marked_unambiguous)

pub core_unambiguous : Unambiguous core_section
core_unambiguous = size_prefixed_unambiguous core_whole

-- The name fits if the section does.
marked_encodable : (n content : List ℕ) → content ≡ marked_encoding n → IsEncodableNamed core_name content → HasEncodableSize n
marked_encodable n content e encodable = omega (arith, data_encodable core_name (marked_encoding n) (subst (λ c. IsEncodableNamed core_name c) e encodable), length-append (unsigned_encoding (length n)) n)

pub process_back : (content : List ℕ) → IsEncodableNamed core_name content → DecodesBack core_section (SaysProcess content) (named_encoding core_name content)
process_back content encodable = record {
  for_each = λ n says.
      decodes_uniquely {F = core_section} core_unambiguous
      (named_encodes minimal tt core_name marked_name content n (ascii {bytes = core_name} refl) encodable
      (subst (λ s. marked_name minimal s n) (sym says.1) (marked_encodes n says.0 (marked_encodable n content says.1 encodable))));
}

-- ---- modules

pub module_laws : ItemLaws module_items
module_laws = record { unique = marked_unambiguous; encodes = λ n plain encodable. marked_encodes n plain.0 plain.1 }

pub module_layout : CustomLayoutLaws marked_name modules_name [] (fixed [] (tt {0})) true
module_layout = counted_layout (ascii {bytes = modules_name} refl)

pub modules_section : SectionLaws module_items modules_payload
modules_section = entries_laws module_laws module_layout (λ given plain. plain) (λ given plain. plain)

-- ---- instances

pub instance_unambiguous : Unambiguous instance
instance_unambiguous = mapped_unambiguous instance_of (λ x y e. ap (λ i. (i.module_index, (i.memories, i.globals))) e) (prefixed_unambiguous (0x00 ∷ []) (pair_unambiguous u32_unambiguous (pair_unambiguous vec_u32_unambiguous vec_u32_unambiguous)))

instance_encodes : (i : Instance) → IsInstance i → instance minimal (instance_encoding i) i
instance_encodes i plain =
    let memories = vec_encoding unsigned_encoding i.memories in
    let globals = vec_encoding unsigned_encoding i.globals in
    let lists = pair_encodes (vec u32) (vec u32) memories globals i.memories i.globals (vec_encodes u32 (IsUnsignedInRange 32) unsigned_encoding u32_encodes i.memories plain.memories) (vec_encodes u32 (IsUnsignedInRange 32) unsigned_encoding u32_encodes i.globals plain.globals) in
    let parts : ℕ × (List ℕ × List ℕ) = (i.module_index, (i.memories, i.globals)) in
    let all = pair_encodes u32 (pair (vec u32) (vec u32)) (unsigned_encoding i.module_index) (memories ++ globals) i.module_index (i.memories, i.globals) (u32_encodes i.module_index plain.module_index) lists in
    (parts, refl, prefixed_encodes (0x00 ∷ []) (pair u32 (pair (vec u32) (vec u32))) (unsigned_encoding i.module_index ++ (memories ++ globals)) parts all)

pub instance_laws : ItemLaws instance_items
instance_laws = record { unique = instance_unambiguous; encodes = λ i plain encodable. instance_encodes i plain }

pub instance_layout : CustomLayoutLaws instance instances_name [] (fixed [] (tt {0})) true
instance_layout = counted_layout (ascii {bytes = instances_name} refl)

pub instances_section : SectionLaws instance_items instances_payload
instances_section = entries_laws instance_laws instance_layout (λ given plain. plain) (λ given plain. plain)

-- ---- decoding core dumps

pub process_fills : {m : Mode} (bytes rest encoding : List ℕ) → Decodes (just core_name name) m bytes tt rest → marked_name m rest encoding → core_payload m bytes encoding
process_fills bytes rest encoding h g = named_fills core_name marked_name bytes rest encoding h g

pub process_none : {m : Mode} (bytes : List ℕ) → Rejects (just core_name name) m bytes → RejectsWhole core_payload m bytes
process_none bytes n = named_none core_name marked_name bytes n

pub process_rejects : {m : Mode} (bytes rest : List ℕ) → Decodes (just core_name name) m bytes tt rest → RejectsWhole marked_name m rest → RejectsWhole core_payload m bytes
process_rejects bytes rest h n = named_rejects core_name marked_name bytes rest h n

pub ruleset process_steps = (process_fills, process_none, process_rejects)

pub instance_decodes : {m : Mode} (bytes last : List ℕ) (n : ℕ) (ms gs : List ℕ) → Decodes (prefixed (0x00 ∷ []) (pair u32 (pair (vec u32) (vec u32)))) m bytes (n, (map (λ m. m) ms, map (λ g. g) gs)) last
    → Decodes instance m bytes (record { module_index = n; memories = ms; globals = gs }) last
instance_decodes {m = m} bytes last n ms gs h = mapped_decodes instance_of (subst (λ z. Decodes (prefixed (0x00 ∷ []) (pair u32 (pair (vec u32) (vec u32)))) m bytes (n, z) last) (ap₂ (λ a b. (a, b)) (map-id ms) (map-id gs)) h)

pub instance_none : {m : Mode} (bytes : List ℕ) → Rejects (prefixed (0x00 ∷ []) (pair u32 (pair (vec u32) (vec u32)))) m bytes → Rejects instance m bytes
instance_none bytes n = mapped_rejects instance_of n

pub ruleset instance_steps = (instance_decodes, instance_none)

-- ---- the one minimal encoding of decoded core dumps

pub marked_appended : (n old middle new : List ℕ) → middle ≡ old ++ 0x00 ∷ [] → AppendsMinimal both_grammars name n middle new → AppendsMinimal both_grammars marked_name n old new
marked_appended n old middle new e a = prefixed_appended (0x00 ∷ []) name n old middle new e a

pub process_appended : (n old middle new : List ℕ) → middle ≡ old ++ size_prefixed_encoding core_name → AppendsMinimal both_grammars marked_name n middle new → AppendsMinimal both_grammars core_payload n old new
process_appended n old middle new e a = named_appended core_name marked_name n e a

pub instance_appended : (n : ℕ) (ms gs old front first second new : List ℕ) → front ≡ old ++ 0x00 ∷ [] → AppendsMinimal both_grammars u32 n front first → AppendsMinimal both_grammars (vec u32) (map (λ m. m) ms) first second → AppendsMinimal both_grammars (vec u32) (map (λ g. g) gs) second new
    → AppendsMinimal both_grammars instance (record { module_index = n; memories = ms; globals = gs }) old new
instance_appended n ms gs old front first second new e a b c =
    let lists = pair_appended (vec u32) (vec u32) (subst (λ z. AppendsMinimal both_grammars (vec u32) z first second) (map-id ms) b) (subst (λ z. AppendsMinimal both_grammars (vec u32) z second new) (map-id gs) c) in
    let parts : ℕ × (List ℕ × List ℕ) = (n, (ms, gs)) in
    let all = pair_appended u32 (pair (vec u32) (vec u32)) a lists in
    mapped_appended instance_of (prefixed (0x00 ∷ []) (pair u32 (pair (vec u32) (vec u32)))) parts old new (λ z k. ap (λ i. (i.module_index, (i.memories, i.globals))) k) (prefixed_appended (0x00 ∷ []) (pair u32 (pair (vec u32) (vec u32))) parts old front new e all)

-- ---- names and fields of values that have encodings

pub marked_encoded : (n : List ℕ) → HasEncoding both_grammars marked_name n → HasEncoding both_grammars name n
marked_encoded n h = prefixed_encoded (0x00 ∷ []) name n h

pub process_encoded : (n : List ℕ) → HasEncoding both_grammars core_payload n → HasEncoding both_grammars marked_name n
process_encoded n h = named_encoded core_name marked_name n h

lists_encoded : (n : ℕ) (ms gs : List ℕ) → HasEncoding both_grammars instance (record { module_index = n; memories = ms; globals = gs }) → HasEncoding both_grammars (pair (vec u32) (vec u32)) (ms, gs)
lists_encoded n ms gs h =
    let parts : ℕ × (List ℕ × List ℕ) = (n, (ms, gs)) in
    right_encoded u32 (pair (vec u32) (vec u32)) n (ms, gs)
    (prefixed_encoded (0x00 ∷ []) (pair u32 (pair (vec u32) (vec u32))) parts
    (mapped_encoded instance_of (prefixed (0x00 ∷ []) (pair u32 (pair (vec u32) (vec u32)))) parts (λ z k. ap (λ i. (i.module_index, (i.memories, i.globals))) k) h))

pub memories_encoded : (n : ℕ) (ms gs : List ℕ) → HasEncoding both_grammars instance (record { module_index = n; memories = ms; globals = gs }) → HasEncoding both_grammars (vec u32) (map (λ m. m) ms)
memories_encoded n ms gs h = subst (λ z. HasEncoding both_grammars (vec u32) z) (sym (map-id ms)) (left_encoded (vec u32) (vec u32) ms gs (lists_encoded n ms gs h))

pub globals_encoded : (n : ℕ) (ms gs : List ℕ) → HasEncoding both_grammars instance (record { module_index = n; memories = ms; globals = gs }) → HasEncoding both_grammars (vec u32) (map (λ g. g) gs)
globals_encoded n ms gs h = subst (λ z. HasEncoding both_grammars (vec u32) z) (sym (map-id gs)) (right_encoded (vec u32) (vec u32) ms gs (lists_encoded n ms gs h))
