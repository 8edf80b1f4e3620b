-- This file proves that element segments are unambiguous, and how they are decoded and minimized.
use Rattle.wasm_base.proofs.Words.{◌≡◌, ℕ, ◌+◌, ◌<◌, List, [], ◌∷◌, ◌++◌, length, map, Bool, true, false, cond, Some, None, refl, sym, ap, subst, ◌∙◌, arith, lit<, ◌≢◌, ◌≤◌, ◌/◌, ◌%◌, Option}
use Rattle.wasm_base.proofs.Words.{append-nil, All, flat_map, length-map, map-id, All-head, All-tail, ItemLaws, u32, mapped, pair, fixed, vec, members, numbered, Format, byte, when, is_given}
use Rattle.wasm_base.proofs.Words.{prefixed, IsUnsignedInRange, Mode, minimal, unsigned_encoding, padded, IsOfBuilders, Unambiguous, Decodes, Rejects, vec_encoding, IsEncodableVec, ref_type}
use Rattle.wasm_base.proofs.Words.{ref_encoding, FUNCREF, IsRef, vec_u32_unambiguous, DeterminesTag, mapped_unambiguous, pair_unambiguous, vec_unambiguous, when_unambiguous, fixed_unambiguous}
use Rattle.wasm_base.proofs.Words.{prefixed_unambiguous, tagged_unambiguous, byte_unambiguous, u32_unambiguous, encodes_in, u32_encodes, u32_in, vec_encodes, ref_unambiguous, ref-encodings, pair_in}
use Rattle.wasm_base.proofs.Words.{flag_encodes, numbered_unambiguous, decodes_same, then_decodes, then_rejects_first, then_rejects_second, mapped_decodes, mapped_rejects, tagged_decodes, tagged_none}
use Rattle.wasm_base.proofs.Words.{tagged_rejects, fixed_decodes, SectionLaws, counted_laws_padded, AppendsMinimal, both_grammars, builders_alone, fewer_appended, HasEncoding, left_encoded, right_encoded, prefixed_encoded, tagged_encoded}
use Rattle.wasm_base.proofs.Words.{mapped_encoded, fitting_appended, u32_appended, ref_is, encoding_appended, nothing_appended, pair_appended, prefixed_appended, tagged_appended, mapped_appended}
use Rattle.wasm_base.proofs.GrammarLaws.{u32_canonical}
use Rattle.wasm_base.specs.declared.types.HeapType.{HeapType}
use Rattle.wasm_base.specs.declared.types.RefType.{RefType}
use Rattle.wasm_base.specs.declared.types.HeapType.TheVariants.{Abstract}
use Rattle.wasm_code.proofs.Words.{expression, expression_encoding, expression_unambiguous, expression_encodes}
use Rattle.wasm_immediates.proofs.Words.{where_set, bit, bit_value}
use Rattle.wasm_insn.proofs.Words.{Plain}
use Rattle.wasm_sections.specs.{Stored, IsStoredIn, is_nullable_func, is_funcref, SegmentMode, passive, active, ElementList, functions, expressions, ElementItem, needs_table, settled_segment_mode}
use Rattle.wasm_sections.specs.{settled, ElementFlag, flag_code, has_kind, is_inactive, is_second, are_expressions, flag_of, segment_mode_encoding, elements_encoding, settled_encoding}
use Rattle.wasm_sections.specs.{stored_encoding, element_encoding, IsSegmentModeIn, AreElementsIn, IsSegmentIn, stored_by, segment_mode_of, elements_of, said_by, element_of, in_no_table, in_table}
use Rattle.wasm_sections.specs.{segment_mode, list_of, elements_as, segment_of, element, element_items, IsSegmentMode, HaveOneEncoding}
use Rattle.wasm_sections.specs.Elements.{declared}
use Rattle.wasm_sections.specs.declared.element.ElementSegment.{ElementSegment}
use Rattle.wasm_sections.proofs.ViewedLists.{viewed_encoding}
use Rattle.std.specs.Prelude.{◌==◌}
use Rattle.wasm_sections.proofs.FlagLaws.{weight_is, bit_low}
use Rattle.wasm_sections.proofs.Prefixes.{prefixed_decodes, prefixed_rejects, prefixed_other}
use Rattle.wasm_sections.proofs.ConstantLaws.{stored_included}
use Rattle.wasm_base.specs.declared.types.AbstractHeapType.TheVariants as kinds

-- ---- flags

decode : ℕ → ElementFlag
decode n = record { not_active = bit 0 n; second = bit 1 n; expressions = bit 2 n }

back_of : (a b c : Bool) → decode (flag_code (record { not_active = a; second = b; expressions = c })) ≡ record { not_active = a; second = b; expressions = c }
unfolding decode
back_of true true true = refl
back_of true true false = refl
back_of true false true = refl
back_of true false false = refl
back_of false true true = refl
back_of false true false = refl
back_of false false true = refl
back_of false false false = refl

code_low : (a b c : Bool) → where_set a 1 + where_set b 2 + where_set c 4 < 128
code_low true true true = lit< tt
code_low true true false = lit< tt
code_low true false true = lit< tt
code_low true false false = lit< tt
code_low false true true = lit< tt
code_low false true false = lit< tt
code_low false false true = lit< tt
code_low false false false = lit< tt

-- ---- unambiguous

abbrev table_parts : SegmentMode (List Plain) → ℕ × List Plain
table_parts passive = (0, [])
table_parts declared = (0, [])
table_parts (active None offset) = (0, offset)
table_parts (active (Some table) offset) = (table, offset)

pub segment_mode_unambiguous : (f : ElementFlag) → Unambiguous (segment_mode f)
segment_mode_unambiguous f =
    when_unambiguous f.not_active
    (when_unambiguous f.second (fixed_unambiguous [] declared) (fixed_unambiguous [] passive))
    (when_unambiguous f.second (mapped_unambiguous in_table (λ x y e. ap table_parts e) (pair_unambiguous u32_unambiguous expression_unambiguous)) (mapped_unambiguous in_no_table (λ x y e. ap (λ p. (table_parts p).1) e) expression_unambiguous))

abbrev list_parts : ElementList (List Plain) → RefType × List (List Plain)
list_parts (functions fs) = (FUNCREF, [])
list_parts (expressions r es) = (r, es)

pub elements_unambiguous : (explicit of_expressions : Bool) → Unambiguous (elements_as explicit of_expressions)
elements_unambiguous explicit of_expressions =
    when_unambiguous of_expressions
    (mapped_unambiguous list_of (λ x y e. ap list_parts e) (pair_unambiguous (when_unambiguous explicit ref_unambiguous (fixed_unambiguous [] FUNCREF)) (vec_unambiguous expression_unambiguous)))
    (mapped_unambiguous functions (λ x y e. cc) (prefixed_unambiguous (cond explicit (0x00 ∷ []) []) vec_u32_unambiguous))

inactive_explicit : (f : ElementFlag) (mode : Mode) (s : List ℕ) (p : SegmentMode (List Plain)) → segment_mode f mode s p → f.not_active ≡ is_inactive p
inactive_explicit f mode s p h = go f.not_active f.second h
  where
    go : (a b : Bool) → segment_mode (record { not_active = a; second = b; expressions = f.expressions }) mode s p → a ≡ is_inactive p
    go true true h = sym (ap is_inactive h.1)
    go true false h = sym (ap is_inactive h.1)
    go false true h = ap is_inactive h.1
    go false false h = ap is_inactive h.1

second_explicit : (f : ElementFlag) (mode : Mode) (s : List ℕ) (p : SegmentMode (List Plain)) → segment_mode f mode s p → f.second ≡ is_second p
second_explicit f mode s p h = go f.not_active f.second h
  where
    go : (a b : Bool) → segment_mode (record { not_active = a; second = b; expressions = f.expressions }) mode s p → b ≡ is_second p
    go true true h = sym (ap is_second h.1)
    go true false h = sym (ap is_second h.1)
    go false true h = ap is_second h.1
    go false false h = ap is_second h.1

expressions_explicit : (explicit of_expressions : Bool) (mode : Mode) (s : List ℕ) (e : ElementList (List Plain)) → elements_as explicit of_expressions mode s e → of_expressions ≡ are_expressions e
expressions_explicit explicit true mode s e h = ap are_expressions h.1
expressions_explicit explicit false mode s e h = ap are_expressions h.1

pub flag_explicit : DeterminesTag (λ f. mapped segment_of (pair (segment_mode f) (elements_as (has_kind f) f.expressions))) flag_of
flag_explicit mode f s x h =
    let a = inactive_explicit f mode h.2.front h.0.0 h.2.first in
    let b = second_explicit f mode h.2.front h.0.0 h.2.first in
    let c = expressions_explicit (has_kind f) f.expressions mode h.2.back h.0.1 h.2.second in
    let explicit : f ≡ flag_of (segment_of h.0) = λ i. record { not_active = a i; second = b i; expressions = c i } in
    explicit ∙ ap flag_of h.1

pub element_flag_unambiguous : Unambiguous (numbered flag_code)
element_flag_unambiguous = numbered_unambiguous flag_code decode (λ f. back_of f.not_active f.second f.expressions)

pub element_unambiguous : Unambiguous element
element_unambiguous =
    tagged_unambiguous flag_of flag_explicit element_flag_unambiguous λ f.
    mapped_unambiguous segment_of (λ x y e. ap (λ s. (s.segment_mode, s.elements)) e) (pair_unambiguous (segment_mode_unambiguous f) (elements_unambiguous (has_kind f) f.expressions))

-- ---- encodings

segment_mode_encodes : (mode : Mode) (p : SegmentMode Stored) (of_expressions : Bool) → IsSegmentModeIn mode p → segment_mode (record { not_active = is_inactive p; second = is_second p; expressions = of_expressions }) mode (segment_mode_encoding stored_encoding p) (segment_mode_of p)
segment_mode_encodes mode passive of_expressions plain = (refl, refl)
segment_mode_encodes mode declared of_expressions plain = (refl, refl)
segment_mode_encodes mode (active None offset) of_expressions plain = (offset.instructions, refl, expression_encodes mode offset.bytes offset.instructions plain.1)
segment_mode_encodes mode (active (Some table) offset) of_expressions plain =
    ((table, offset.instructions), refl, pair_in mode u32 expression (unsigned_encoding table) (expression_encoding offset.bytes) table offset.instructions (u32_in mode table plain.0) (expression_encodes mode offset.bytes offset.instructions plain.1))

funcref_is : (nullable : Bool) (heap : HeapType) → is_nullable_func nullable heap ≡ true → record { nullable = nullable; heap_type = heap } ≡ FUNCREF
funcref_is true (Abstract false kinds.Func) e = refl
funcref_is _ _ e = absurd (cc e)

funcref_of : (r : RefType) → cond (is_funcref r) false true ≡ false → r ≡ FUNCREF
funcref_of r e = go (is_funcref r) refl e
  where
    go : (test : Bool) → is_funcref r ≡ test → cond test false true ≡ false → r ≡ FUNCREF
    go true t e = funcref_is r.nullable r.heap_type t
    go false t e = absurd (cc e)

-- The stored expressions encode their instructions, one after another.
each_encodes : (mode : Mode) (es : List Stored) → All (IsStoredIn mode) es → members expression mode (flat_map stored_encoding es) (map (λ e. e.instructions) es)
each_encodes mode [] h = refl
each_encodes mode (e ∷ es) h =
    (stored_encoding e, flat_map stored_encoding es, refl, expression_encodes mode e.bytes e.instructions (All-head (IsStoredIn mode) e es h), each_encodes mode es (All-tail (IsStoredIn mode) e es h))

all_encodes : (mode : Mode) (es : List Stored) → IsEncodableVec (IsStoredIn mode) es → vec expression mode (vec_encoding stored_encoding es) (map (λ e. e.instructions) es)
all_encodes mode es h = record {
  front = unsigned_encoding (length es);
  back = flat_map stored_encoding es;
  joined = refl;
  first = subst (λ n. u32 mode (unsigned_encoding (length es)) n) (sym (length-map es (λ e. e.instructions))) (u32_in mode (length es) (omega (arith, h.count)));
  second = each_encodes mode es h.members;
}

elements_encodes : (mode : Mode) → IsOfBuilders mode → (explicit : Bool) (e : ElementList Stored) → AreElementsIn mode e → (explicit ≡ false → needs_table e ≡ false) → elements_as explicit (are_expressions e) mode (elements_encoding stored_encoding explicit e) (elements_of e)
elements_encodes mode of explicit (functions fs) plain short =
    let kind = cond explicit (0x00 ∷ []) [] in
    let listed = encodes_in {F = vec u32} vec_u32_unambiguous (vec_encodes u32 (IsUnsignedInRange 32) unsigned_encoding u32_encodes fs plain) mode of in
    (fs, refl, ((tt, fs), refl, record { front = kind; back = vec_encoding unsigned_encoding fs; joined = refl; first = (refl, refl); second = listed }))
elements_encodes mode of true (expressions r es) plain short =
    let said = map (λ e. e.instructions) es in
    ((r, said), refl, pair_in mode ref_type (vec expression) (ref_encoding r) (vec_encoding stored_encoding es) r said (encodes_in {F = ref_type} ref_unambiguous (ref-encodings.encodes r plain.0) mode of) (all_encodes mode es plain.1))
elements_encodes mode of false (expressions r es) plain short =
    let said = map (λ e. e.instructions) es in
    ((r, said), refl, pair_in mode (fixed [] FUNCREF) (vec expression) [] (vec_encoding stored_encoding es) r said (refl, funcref_of r (short refl)) (all_encodes mode es plain.1))

settled_encodes : (mode : Mode) → IsOfBuilders mode → (s : ElementItem Stored) → IsSegmentIn mode s → (has_kind (flag_of s) ≡ false → needs_table s.elements ≡ false) → element mode (settled_encoding stored_encoding s) (said_by s)
settled_encodes mode of s plain short =
    let f = flag_of s in
    let explicit = has_kind f in
    let placed = segment_mode_encodes mode s.segment_mode f.expressions plain.segment_mode in
    let listed = elements_encodes mode of explicit s.elements plain.elements short in (
      (f, said_by s),
      refl,
      record {
        front = flag_code f ∷ [];
        back = segment_mode_encoding stored_encoding s.segment_mode ++ elements_encoding stored_encoding explicit s.elements;
        joined = refl;
        first = encodes_in {F = u32} u32_unambiguous (flag_encodes (flag_code f) (code_low f.not_active f.second f.expressions)) mode of;
        second = (
          (segment_mode_of s.segment_mode, elements_of s.elements),
          refl,
          pair_in mode (segment_mode f) (elements_as explicit f.expressions) (segment_mode_encoding stored_encoding s.segment_mode) (elements_encoding stored_encoding explicit s.elements) (segment_mode_of s.segment_mode) (elements_of s.elements) placed listed,
        );
      },
    )

-- ---- normal form

kind_explicit : (needed : Bool) (p : SegmentMode Stored) → cond (is_inactive (settled_segment_mode needed p)) true (is_second (settled_segment_mode needed p)) ≡ false → needed ≡ false
kind_explicit needed passive e = absurd (cc e)
kind_explicit needed declared e = absurd (cc e)
kind_explicit needed (active (Some table) offset) e = absurd (cc e)
kind_explicit true (active None offset) e = absurd (cc e)
kind_explicit false (active None offset) e = refl

settled_segment_mode-plain : (mode : Mode) (needed : Bool) (p : SegmentMode Stored) → IsSegmentModeIn mode p → IsSegmentModeIn mode (settled_segment_mode needed p)
settled_segment_mode-plain mode needed passive plain = plain
settled_segment_mode-plain mode needed declared plain = plain
settled_segment_mode-plain mode needed (active (Some table) offset) plain = plain
settled_segment_mode-plain mode true (active None offset) plain = (omega arith, plain.1)
settled_segment_mode-plain mode false (active None offset) plain = plain

pub element_encodes : (mode : Mode) → IsOfBuilders mode → (s : ElementItem Stored) → IsSegmentIn mode s → element mode (element_encoding s) (element_of s)
element_encodes mode of s plain =
    settled_encodes mode of (settled s) (record { segment_mode = settled_segment_mode-plain mode (needs_table s.elements) s.segment_mode plain.segment_mode; elements = plain.elements }) (kind_explicit (needs_table s.elements) s.segment_mode)

pub element_laws : ItemLaws element_items
element_laws = record { unique = element_unambiguous; encodes = λ s plain encodable. element_encodes minimal tt s plain }

segment_mode_included : (p : SegmentMode Stored) → IsSegmentMode p → IsSegmentModeIn padded p
segment_mode_included passive plain = plain
segment_mode_included declared plain = plain
segment_mode_included (active table offset) plain = (plain.0, stored_included offset plain.1)

elements_included : (e : ElementList Stored) → AreElementsIn minimal e → AreElementsIn padded e
elements_included (functions fs) plain = plain
elements_included (expressions r es) plain = (plain.0, record { count = plain.1.count; members = λ k d l. stored_included _ (plain.1.members k d l) })

pub elements_section : SectionLaws element_items (vec element)
elements_section = counted_laws_padded element_laws (λ s plain. record { segment_mode = segment_mode_included s.segment_mode plain.segment_mode; elements = elements_included s.elements plain.elements }) (λ s plain encodable. element_encodes padded tt s plain)

-- ---- the bytes of a segment's expressions

-- The stored bytes alone determine the encoding of a segment.
pub stored_same : (s : ElementItem Stored) → element_encoding s ≡ settled_encoding expression_encoding (settled (stored_by s))
stored_same s = same s.segment_mode s.elements
  where
    all_same : (es : List Stored) → vec_encoding stored_encoding es ≡ vec_encoding expression_encoding (map (λ e. e.bytes) es)
    all_same es = viewed_encoding expression_encoding (λ bytes. Unit {0}) (λ e. e.bytes) refl

    same : (p : SegmentMode Stored) (e : ElementList Stored) → element_encoding (record { segment_mode = p; elements = e }) ≡ settled_encoding expression_encoding (settled (stored_by (record { segment_mode = p; elements = e })))
    same passive (functions fs) = refl
    same declared (functions fs) = refl
    same (active table offset) (functions fs) = refl
    same passive (expressions r es) = ap (λ v. 5 ∷ (ref_encoding r ++ v)) (all_same es)
    same declared (expressions r es) = ap (λ v. 7 ∷ (ref_encoding r ++ v)) (all_same es)
    same (active table offset) (expressions r es) =
        let s = settled (record { segment_mode = active table offset; elements = expressions r es }) in
        ap (λ v. flag_code (flag_of s) ∷ (segment_mode_encoding stored_encoding s.segment_mode ++ (cond (has_kind (flag_of s)) (ref_encoding r) [] ++ v))) (all_same es)

pub given_element : {A : Type 0} (s : ElementSegment A) (given : ElementItem Stored) → HaveOneEncoding s given
given_element s given = record { same = λ e. ap (λ x. settled_encoding expression_encoding (settled x)) e ∙ sym (stored_same given) }

-- ---- decoding element segments

-- ---- flags

bits_of : (b : ℕ) → b < 8 → b ≡ flag_code (record { not_active = b % 2 == 1; second = b / 2 % 2 == 1; expressions = b / 4 % 2 == 1 })
bits_of b l =
    let p = bit_value (b % 2 == 1) (b % 2) (omega arith) refl in
    let q = bit_value (b / 2 % 2 == 1) (b / 2 % 2) (omega arith) refl in
    let r = bit_value (b / 4 % 2 == 1) (b / 4 % 2) (omega arith) refl in
    omega (arith, l, p, q, r, weight_is (b / 2 % 2 == 1) 2, weight_is (b / 4 % 2 == 1) 4)

pub flag_decodes : {m : Mode} (bytes rest : List ℕ) (b : ℕ) → Decodes u32 m bytes b rest → b < 8 → Decodes (numbered flag_code) m bytes (record { not_active = b % 2 == 1; second = b / 2 % 2 == 1; expressions = b / 4 % 2 == 1 }) rest
flag_decodes {m = m} bytes rest b h l = record { front = h.front; split = h.split; encodes = subst (λ z. u32 m h.front z) (bits_of b l) h.encodes }

pub flag_none : {m : Mode} (bytes : List ℕ) → Rejects u32 m bytes → Rejects (numbered flag_code) m bytes
flag_none bytes n = record { none = λ f rest h. n.none (flag_code f) rest (record { front = h.front; split = h.split; encodes = h.encodes }) }

flag_small : (f : ElementFlag) → flag_code f < 8
flag_small f = omega (arith, bit_low f.not_active, bit_low f.second, bit_low f.expressions, weight_is f.second 2, weight_is f.expressions 4)

pub flag_unknown : {m : Mode} (bytes rest : List ℕ) (b : ℕ) → Decodes u32 m bytes b rest → 8 ≤ b → Rejects (numbered flag_code) m bytes
flag_unknown bytes rest b h l = record {
  none = λ f last g. let same = decodes_same u32_unambiguous h (record { front = g.front; split = g.split; encodes = g.encodes }) in omega (arith, l, same.0, flag_small f);
}

pub ruleset element_flag_steps = (flag_decodes)

-- ---- modes

-- The mode by the bits of the flag that select it.
abbrev segment_mode_at : Bool → Bool → Format (SegmentMode (List Plain))
segment_mode_at a b = when a (when b (fixed [] declared) (fixed [] passive)) (when b (mapped in_table (pair u32 expression)) (mapped in_no_table expression))

placed : {m : Mode} {a b : Bool} (f : ElementFlag) {bytes rest : List ℕ} {x : SegmentMode (List Plain)} → f.not_active ≡ a → f.second ≡ b → Decodes (segment_mode_at a b) m bytes x rest → Decodes (segment_mode f) m bytes x rest
placed {m = m} {a = a} f {bytes = bytes} {rest = rest} {x = x} p q h = subst (λ z. Decodes (segment_mode_at z f.second) m bytes x rest) (sym p) (subst (λ z. Decodes (segment_mode_at a z) m bytes x rest) (sym q) h)

not_placed : {m : Mode} {a b : Bool} (f : ElementFlag) {bytes : List ℕ} → f.not_active ≡ a → f.second ≡ b → Rejects (segment_mode_at a b) m bytes → Rejects (segment_mode f) m bytes
not_placed {m = m} {a = a} f {bytes = bytes} p q n = subst (λ z. Rejects (segment_mode_at z f.second) m bytes) (sym p) (subst (λ z. Rejects (segment_mode_at a z) m bytes) (sym q) n)

pub segment_mode_declared : {m : Mode} (f : ElementFlag) (bytes : List ℕ) → f.not_active ≡ true → f.second ≡ true → Decodes (segment_mode f) m bytes declared bytes
segment_mode_declared f bytes p q = placed f p q (fixed_decodes bytes declared)

pub segment_mode_passive : {m : Mode} (f : ElementFlag) (bytes : List ℕ) → f.not_active ≡ true → f.second ≡ false → Decodes (segment_mode f) m bytes passive bytes
segment_mode_passive f bytes p q = placed f p q (fixed_decodes bytes passive)

pub segment_mode_in_table : {m : Mode} (f : ElementFlag) (bytes rest : List ℕ) (table : ℕ) (is : List Plain) → f.not_active ≡ false → f.second ≡ true → Decodes (pair u32 expression) m bytes (table, is) rest → Decodes (segment_mode f) m bytes (active (Some table) is) rest
segment_mode_in_table f bytes rest table is p q h = placed f p q (mapped_decodes in_table h)

pub segment_mode_no_table : {m : Mode} (f : ElementFlag) (bytes : List ℕ) → f.not_active ≡ false → f.second ≡ true → Rejects (pair u32 expression) m bytes → Rejects (segment_mode f) m bytes
segment_mode_no_table f bytes p q n = not_placed f p q (mapped_rejects in_table n)

pub segment_mode_implicit : {m : Mode} (f : ElementFlag) (bytes rest : List ℕ) (is : List Plain) → f.not_active ≡ false → f.second ≡ false → Decodes expression m bytes is rest → Decodes (segment_mode f) m bytes (active None is) rest
segment_mode_implicit f bytes rest is p q h = placed f p q (mapped_decodes in_no_table h)

pub segment_mode_no_offset : {m : Mode} (f : ElementFlag) (bytes : List ℕ) → f.not_active ≡ false → f.second ≡ false → Rejects expression m bytes → Rejects (segment_mode f) m bytes
segment_mode_no_offset f bytes p q n = not_placed f p q (mapped_rejects in_no_table n)

pub ruleset segment_mode_steps = (segment_mode_declared, segment_mode_passive, segment_mode_in_table, segment_mode_no_table, segment_mode_implicit, segment_mode_no_offset)

-- ---- functions

abbrev kind_before : Bool → List ℕ
kind_before explicit = cond explicit (0x00 ∷ []) []

functions_at : {m : Mode} {a : Bool} (explicit : Bool) {bytes rest : List ℕ} {x : ElementList (List Plain)} → explicit ≡ a → Decodes (elements_as a false) m bytes x rest → Decodes (elements_as explicit false) m bytes x rest
functions_at {m = m} explicit {bytes = bytes} {rest = rest} {x = x} e h = subst (λ z. Decodes (elements_as z false) m bytes x rest) (sym e) h

no_functions_at : {m : Mode} {a : Bool} (explicit : Bool) {bytes : List ℕ} → explicit ≡ a → Rejects (elements_as a false) m bytes → Rejects (elements_as explicit false) m bytes
no_functions_at {m = m} explicit {bytes = bytes} e n = subst (λ z. Rejects (elements_as z false) m bytes) (sym e) n

behind_kind : {m : Mode} {bytes rest : List ℕ} {b : ℕ} → Decodes byte m bytes b rest → b ≡ 0x00 → bytes ≡ 0x00 ∷ rest
behind_kind {rest = rest} h e = h.split ∙ ap (λ z. z ++ rest) h.encodes ∙ ap (λ z. z ∷ rest) e

pub functions_behind : {m : Mode} (explicit : Bool) (bytes rest last : List ℕ) (b : ℕ) (fs : List ℕ) → explicit ≡ true → Decodes byte m bytes b rest → b ≡ 0x00 → Decodes (vec u32) m rest fs last → Decodes (elements_as explicit false) m bytes (functions fs) last
functions_behind explicit bytes rest last b fs p h e g = functions_at explicit p (mapped_decodes functions (prefixed_decodes (0x00 ∷ []) (vec u32) (behind_kind h e) g))

pub functions_read : {m : Mode} (explicit : Bool) (bytes rest last : List ℕ) (b : ℕ) (fs : List ℕ) → explicit ≡ true → Decodes byte m bytes b rest → b ≡ 0x00 → Decodes (vec u32) m rest (map (λ n. n) fs) last → Decodes (elements_as explicit false) m bytes (functions fs) last
functions_read {m = m} explicit bytes rest last b fs p h e g = functions_behind explicit bytes rest last b fs p h e (subst (λ z. Decodes (vec u32) m rest z last) (map-id fs) g)

pub functions_no_kind : {m : Mode} (explicit : Bool) (bytes : List ℕ) → explicit ≡ true → Rejects byte m bytes → Rejects (elements_as explicit false) m bytes
functions_no_kind explicit bytes p n =
    no_functions_at explicit p (mapped_rejects functions (prefixed_other (0x00 ∷ []) (vec u32) (λ rest e. n.none 0x00 rest (record { front = 0x00 ∷ []; split = e; encodes = refl }))))

pub functions_other : {m : Mode} (explicit : Bool) (bytes rest : List ℕ) (b : ℕ) → explicit ≡ true → Decodes byte m bytes b rest → b ≢ 0x00 → Rejects (elements_as explicit false) m bytes
functions_other explicit bytes rest b p h other =
    no_functions_at explicit p (mapped_rejects functions (prefixed_other (0x00 ∷ []) (vec u32) (λ q e. other (decodes_same byte_unambiguous h (record { front = 0x00 ∷ []; split = e; encodes = refl })).0)))

pub functions_none : {m : Mode} (explicit : Bool) (bytes rest : List ℕ) (b : ℕ) → explicit ≡ true → Decodes byte m bytes b rest → b ≡ 0x00 → Rejects (vec u32) m rest → Rejects (elements_as explicit false) m bytes
functions_none explicit bytes rest b p h e n = no_functions_at explicit p (mapped_rejects functions (prefixed_rejects (0x00 ∷ []) (vec u32) (behind_kind h e) n))

pub functions_unique : {m : Mode} (explicit : Bool) (bytes last : List ℕ) (fs : List ℕ) → explicit ≡ false → Decodes (vec u32) m bytes fs last → Decodes (elements_as explicit false) m bytes (functions fs) last
functions_unique explicit bytes last fs p g = functions_at explicit p (mapped_decodes functions (prefixed_decodes [] (vec u32) refl g))

pub functions_implicit : {m : Mode} (explicit : Bool) (bytes last : List ℕ) (fs : List ℕ) → explicit ≡ false → Decodes (vec u32) m bytes (map (λ n. n) fs) last → Decodes (elements_as explicit false) m bytes (functions fs) last
functions_implicit {m = m} explicit bytes last fs p g = functions_unique explicit bytes last fs p (subst (λ z. Decodes (vec u32) m bytes z last) (map-id fs) g)

pub functions_none_implicit : {m : Mode} (explicit : Bool) (bytes : List ℕ) → explicit ≡ false → Rejects (vec u32) m bytes → Rejects (elements_as explicit false) m bytes
functions_none_implicit explicit bytes p n = no_functions_at explicit p (mapped_rejects functions (prefixed_rejects [] (vec u32) refl n))

pub ruleset function_steps = (functions_read, functions_no_kind, functions_other, functions_none, functions_implicit, functions_none_implicit)

-- ---- expressions

abbrev type_at : Bool → Format RefType
type_at explicit = when explicit ref_type (fixed [] FUNCREF)

expressions_at : {m : Mode} {a : Bool} (explicit : Bool) {bytes rest : List ℕ} {x : ElementList (List Plain)} → explicit ≡ a → Decodes (elements_as a true) m bytes x rest → Decodes (elements_as explicit true) m bytes x rest
expressions_at {m = m} explicit {bytes = bytes} {rest = rest} {x = x} e h = subst (λ z. Decodes (elements_as z true) m bytes x rest) (sym e) h

no_expressions_at : {m : Mode} {a : Bool} (explicit : Bool) {bytes : List ℕ} → explicit ≡ a → Rejects (elements_as a true) m bytes → Rejects (elements_as explicit true) m bytes
no_expressions_at {m = m} explicit {bytes = bytes} e n = subst (λ z. Rejects (elements_as z true) m bytes) (sym e) n

pub expressions_read : {m : Mode} (explicit : Bool) (bytes last : List ℕ) (r : RefType) (es : List (List Plain)) → explicit ≡ true → Decodes (pair ref_type (vec expression)) m bytes (r, es) last → Decodes (elements_as explicit true) m bytes (expressions r es) last
expressions_read explicit bytes last r es p h = expressions_at explicit p (mapped_decodes list_of h)

pub expressions_none : {m : Mode} (explicit : Bool) (bytes : List ℕ) → explicit ≡ true → Rejects (pair ref_type (vec expression)) m bytes → Rejects (elements_as explicit true) m bytes
expressions_none explicit bytes p n = no_expressions_at explicit p (mapped_rejects list_of n)

pub expressions_implicit : {m : Mode} (explicit : Bool) (bytes last : List ℕ) (es : List (List Plain)) → explicit ≡ false → Decodes (vec expression) m bytes es last → Decodes (elements_as explicit true) m bytes (expressions FUNCREF es) last
expressions_implicit explicit bytes last es p h = expressions_at explicit p (mapped_decodes list_of (then_decodes (fixed_decodes bytes FUNCREF) h))

pub expressions_none_implicit : {m : Mode} (explicit : Bool) (bytes : List ℕ) → explicit ≡ false → Rejects (vec expression) m bytes → Rejects (elements_as explicit true) m bytes
expressions_none_implicit explicit bytes p n = no_expressions_at explicit p (mapped_rejects list_of (then_rejects_second (fixed_unambiguous [] FUNCREF) (fixed_decodes bytes FUNCREF) n))

pub ruleset expression_steps = (expressions_read)

-- ---- segments

abbrev after_flag : ElementFlag → Format (ElementItem (List Plain))
after_flag f = mapped segment_of (pair (segment_mode f) (elements_as (has_kind f) f.expressions))

pub element_decodes : {m : Mode} (bytes start middle last : List ℕ) (f : ElementFlag) (p : SegmentMode (List Plain)) (x : ElementList (List Plain)) (explicit : Bool) → Decodes (numbered flag_code) m bytes f start → Decodes (segment_mode f) m start p middle → explicit ≡ has_kind f
    → Decodes (elements_as explicit f.expressions) m middle x last → Decodes element m bytes (record { segment_mode = p; elements = x }) last
element_decodes {m = m} bytes start middle last f p x explicit h g e k = tagged_decodes {G = after_flag} h (mapped_decodes segment_of (then_decodes g (subst (λ t. Decodes (elements_as t f.expressions) m middle x last) e k)))

pub element_none : {m : Mode} (bytes : List ℕ) → Rejects (numbered flag_code) m bytes → Rejects element m bytes
element_none bytes n = tagged_none (numbered flag_code) after_flag bytes n

pub element_no_segment_mode : {m : Mode} (bytes start : List ℕ) (f : ElementFlag) → Decodes (numbered flag_code) m bytes f start → Rejects (segment_mode f) m start → Rejects element m bytes
element_no_segment_mode bytes start f h n = tagged_rejects {G = after_flag} element_flag_unambiguous h (mapped_rejects segment_of (then_rejects_first n))

pub element_no_list : {m : Mode} (bytes start middle : List ℕ) (f : ElementFlag) (p : SegmentMode (List Plain)) → Decodes (numbered flag_code) m bytes f start → Decodes (segment_mode f) m start p middle → Rejects (elements_as (has_kind f) f.expressions) m middle → Rejects element m bytes
element_no_list bytes start middle f p h g n = tagged_rejects {G = after_flag} element_flag_unambiguous h (mapped_rejects segment_of (then_rejects_second (segment_mode_unambiguous f) g n))

pub ruleset element_steps = (element_no_list)

-- ---- the one minimal encoding of a decoded segment

pub element_appended : (x : ElementItem (List Plain)) (old flag middle new : List ℕ) → flag ≡ old ++ unsigned_encoding (flag_code (flag_of x)) → AppendsMinimal builders_alone (segment_mode (flag_of x)) x.segment_mode flag middle → AppendsMinimal builders_alone (elements_as (has_kind (flag_of x)) (are_expressions x.elements)) x.elements middle new → AppendsMinimal builders_alone element x old new
element_appended x old flag middle new e a b =
    let f = flag_of x in
    let inside = pair_appended (segment_mode f) (elements_as (has_kind f) f.expressions) a b in
    let rest = mapped_appended segment_of (pair (segment_mode f) (elements_as (has_kind f) f.expressions)) (x.segment_mode, x.elements) flag new (λ z k. ap (λ s. (s.segment_mode, s.elements)) k) inside in
    tagged_appended (numbered flag_code) (λ g. mapped segment_of (pair (segment_mode g) (elements_as (has_kind g) g.expressions))) (λ mode s z h. flag_explicit mode z s x h)
    (encoding_appended (numbered flag_code) f (unsigned_encoding (flag_code f)) old flag (λ w q s h. u32_canonical.minimal_in w s (flag_code f) h) e) rest

-- The segment of this mode and these elements.
abbrev at_segment_mode : SegmentMode (List Plain) → ElementList (List Plain) → ElementItem (List Plain)
at_segment_mode p l = record { segment_mode = p; elements = l }

pub passive_appended : (p : SegmentMode (List Plain)) (l : ElementList (List Plain)) (old : List ℕ) → p ≡ passive → AppendsMinimal builders_alone (segment_mode (flag_of (at_segment_mode p l))) p old old
passive_appended p l old e = subst (λ z. AppendsMinimal builders_alone (segment_mode (flag_of (at_segment_mode z l))) z old old) (sym e) (nothing_appended (segment_mode (flag_of (at_segment_mode passive l))) passive old (λ w q s h. (refl, refl)))

pub declared_appended : (p : SegmentMode (List Plain)) (l : ElementList (List Plain)) (old : List ℕ) → p ≡ declared → AppendsMinimal builders_alone (segment_mode (flag_of (at_segment_mode p l))) p old old
declared_appended p l old e = subst (λ z. AppendsMinimal builders_alone (segment_mode (flag_of (at_segment_mode z l))) z old old) (sym e) (nothing_appended (segment_mode (flag_of (at_segment_mode declared l))) declared old (λ w q s h. (refl, refl)))

-- The flag of an active segment of functions.
abbrev in_any : Bool → ElementFlag
in_any second = record { not_active = false; second = second; expressions = false }

pub no_table_appended : (table : Option ℕ) (offset : List Plain) (old new : List ℕ) → table ≡ None → AppendsMinimal builders_alone expression offset old new → AppendsMinimal builders_alone (segment_mode (in_any (is_given table))) (active table offset) old new
no_table_appended table offset old new e a =
    subst (λ t. AppendsMinimal builders_alone (segment_mode (in_any (is_given t))) (active t offset) old new) (sym e) (mapped_appended in_no_table expression offset old new (λ z k. ap (λ p. (table_parts p).1) k) a)

pub in_table_appended : (given : Option ℕ) (table : ℕ) (offset : List Plain) (old middle new : List ℕ) → given ≡ Some table → middle ≡ old ++ unsigned_encoding table → AppendsMinimal builders_alone expression offset middle new → AppendsMinimal builders_alone (segment_mode (in_any (is_given given))) (active given offset) old new
in_table_appended given table offset old middle new e is a =
    subst (λ t. AppendsMinimal builders_alone (segment_mode (in_any (is_given t))) (active t offset) old new) (sym e)
    (mapped_appended in_table (pair u32 expression) (table, offset) old new (λ z k. ap table_parts k) (pair_appended u32 expression (u32_appended table old middle is) a))

pub functions_explicit_appended : (explicit : Bool) (fs : List ℕ) (old middle new : List ℕ) → explicit ≡ true → middle ≡ old ++ 0x00 ∷ [] → AppendsMinimal both_grammars (vec u32) (map (λ n. n) fs) middle new → AppendsMinimal builders_alone (elements_as explicit false) (functions fs) old new
functions_explicit_appended explicit fs old middle new e is a =
    subst (λ t. AppendsMinimal builders_alone (elements_as t false) (functions fs) old new) (sym e)
    (mapped_appended functions (prefixed (0x00 ∷ []) (vec u32)) fs old new (λ z k. cc k) (prefixed_appended (0x00 ∷ []) (vec u32) fs old middle new is (fewer_appended (λ w q. tt) (subst (λ z. AppendsMinimal both_grammars (vec u32) z middle new) (map-id fs) a))))

pub functions_implicit_appended : (explicit : Bool) (fs : List ℕ) (old new : List ℕ) → explicit ≡ false → AppendsMinimal both_grammars (vec u32) (map (λ n. n) fs) old new → AppendsMinimal builders_alone (elements_as explicit false) (functions fs) old new
functions_implicit_appended explicit fs old new e a =
    subst (λ t. AppendsMinimal builders_alone (elements_as t false) (functions fs) old new) (sym e)
    (mapped_appended functions (prefixed [] (vec u32)) fs old new (λ z k. cc k) (prefixed_appended [] (vec u32) fs old old new (sym (append-nil old)) (fewer_appended (λ w q. tt) (subst (λ z. AppendsMinimal both_grammars (vec u32) z old new) (map-id fs) a))))

typed : (explicit : Bool) (r : RefType) (es : List (List Plain)) (old middle new : List ℕ) → AppendsMinimal builders_alone (when explicit ref_type (fixed [] FUNCREF)) r old middle → AppendsMinimal builders_alone (vec expression) es middle new → AppendsMinimal builders_alone (elements_as explicit true) (expressions r es) old new
typed explicit r es old middle new a b =
    mapped_appended list_of (pair (when explicit ref_type (fixed [] FUNCREF)) (vec expression)) (r, es) old new (λ z k. ap list_parts k) (pair_appended (when explicit ref_type (fixed [] FUNCREF)) (vec expression) a b)

pub expressions_explicit_appended : (explicit : Bool) (r : RefType) (es : List (List Plain)) (old middle new : List ℕ) → explicit ≡ true → middle ≡ old ++ ref_encoding r → AppendsMinimal builders_alone (vec expression) es middle new → AppendsMinimal builders_alone (elements_as explicit true) (expressions r es) old new
expressions_explicit_appended explicit r es old middle new e is a =
    subst (λ t. AppendsMinimal builders_alone (elements_as t true) (expressions r es) old new) (sym e) (typed true r es old middle new (fitting_appended ref_type IsRef ref_encoding r old middle ref-encodings ref_is is) a)

pub expressions_implicit_appended : (explicit : Bool) (r : RefType) (es : List (List Plain)) (old new : List ℕ) → explicit ≡ false → AppendsMinimal builders_alone (vec expression) es old new → AppendsMinimal builders_alone (elements_as explicit true) (expressions r es) old new
expressions_implicit_appended explicit r es old new e a =
    subst (λ t. AppendsMinimal builders_alone (elements_as t true) (expressions r es) old new) (sym e) (typed false r es old old new (nothing_appended (fixed [] FUNCREF) r old (λ w q s h. (refl, h.1))) a)

-- ---- fields of a segment that has an encoding

parts_encoded : (x : ElementItem (List Plain)) → HasEncoding builders_alone element x → HasEncoding builders_alone (pair (segment_mode (flag_of x)) (elements_as (has_kind (flag_of x)) (are_expressions x.elements))) (x.segment_mode, x.elements)
parts_encoded x h =
    let f = flag_of x in
    mapped_encoded segment_of (pair (segment_mode f) (elements_as (has_kind f) f.expressions)) (x.segment_mode, x.elements) (λ z k. ap (λ s. (s.segment_mode, s.elements)) k)
    (tagged_encoded (numbered flag_code) after_flag f x (λ mode s z k. flag_explicit mode z s x k) h)

pub segment_mode_encoded : (x : ElementItem (List Plain)) → HasEncoding builders_alone element x → HasEncoding builders_alone (segment_mode (flag_of x)) x.segment_mode
segment_mode_encoded x h = left_encoded (segment_mode (flag_of x)) (elements_as (has_kind (flag_of x)) (are_expressions x.elements)) x.segment_mode x.elements (parts_encoded x h)

pub elements_encoded : (x : ElementItem (List Plain)) → HasEncoding builders_alone element x → HasEncoding builders_alone (elements_as (has_kind (flag_of x)) (are_expressions x.elements)) x.elements
elements_encoded x h = right_encoded (segment_mode (flag_of x)) (elements_as (has_kind (flag_of x)) (are_expressions x.elements)) x.segment_mode x.elements (parts_encoded x h)

pub offset_encoded : (table : Option ℕ) (offset : List Plain) → HasEncoding builders_alone (segment_mode (in_any (is_given table))) (active table offset) → HasEncoding builders_alone expression offset
offset_encoded None offset h = mapped_encoded in_no_table expression offset (λ z k. ap (λ p. (table_parts p).1) k) h
offset_encoded (Some table) offset h = right_encoded u32 expression table offset (mapped_encoded in_table (pair u32 expression) (table, offset) (λ z k. ap table_parts k) h)

pub functions_encoded : (explicit : Bool) (fs : List ℕ) → HasEncoding builders_alone (elements_as explicit false) (functions fs) → HasEncoding both_grammars (vec u32) (map (λ n. n) fs)
functions_encoded explicit fs h =
    let is = prefixed_encoded (cond explicit (0x00 ∷ []) []) (vec u32) fs (mapped_encoded functions (prefixed (cond explicit (0x00 ∷ []) []) (vec u32)) fs (λ z k. cc k) h) in
    subst (λ z. HasEncoding both_grammars (vec u32) z) (sym (map-id fs)) (record { grammar = is.grammar; included = tt; bytes = is.bytes; decoded = is.decoded })

pub expressions_encoded : (explicit : Bool) (r : RefType) (es : List (List Plain)) → HasEncoding builders_alone (elements_as explicit true) (expressions r es) → HasEncoding builders_alone (vec expression) es
expressions_encoded explicit r es h =
    right_encoded (when explicit ref_type (fixed [] FUNCREF)) (vec expression) r es
    (mapped_encoded list_of (pair (when explicit ref_type (fixed [] FUNCREF)) (vec expression)) (r, es) (λ z k. ap list_parts k) h)
