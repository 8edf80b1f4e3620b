-- This file proves that global types and globals are unambiguous, and how they are decoded and
-- minimized.
use Rattle.wasm_base.proofs.Words.{◌≡◌, ℕ, Bool, true, false, [], ◌∷◌, refl, ap, ◌<◌, ◌≤◌, ◌/◌, ◌%◌, List, arith, subst, ◌++◌, ItemLaws, coded, byte, pair, vec, Mode, minimal, padded, IsOfBuilders}
use Rattle.wasm_base.proofs.Words.{Unambiguous, Decodes, Rejects, val_type, val_encoding, coded_unambiguous, mapped_unambiguous, pair_unambiguous, AllValues, val_unambiguous, val-encodings, pair_in}
use Rattle.wasm_base.proofs.Words.{pair_encodes, encodes_in, mapped_decodes, mapped_rejects, code_decodes, code_none, code_unknown, SectionLaws, counted_laws_padded, val_type_is, fitting_appended}
use Rattle.wasm_base.proofs.Words.{pair_appended, mapped_appended, AppendsMinimal, builders_alone, HasEncoding, right_encoded, mapped_encoded}
use Rattle.wasm_base.specs.declared.types.ValType.{ValType}
use Rattle.wasm_code.proofs.Words.{expression, expression_encoding, expression_unambiguous, expression_encodes}
use Rattle.wasm_immediates.proofs.Words.{bit, bit_value}
use Rattle.wasm_sections.specs.{GlobalFlags, global_code, global_flags, global_encoding, IsGlobal, global_of, global_type, GivenGlobal, global_item_encoding, IsGivenGlobalIn, global_item_of}
use Rattle.wasm_sections.specs.{global_from, global_item, global_items}
use Rattle.wasm_sections.specs.declared.global.GlobalType.{GlobalType}
use Rattle.std.specs.Prelude.{◌==◌}
use Rattle.wasm_insn.proofs.Words.{Plain}
use Rattle.wasm_sections.proofs.FlagLaws.{weight_is, bit_low}
use Rattle.wasm_sections.proofs.ConstantLaws.{stored_included}

decode : ℕ → GlobalFlags
decode n = record { mutable = bit 0 n; shared = bit 1 n }

back_of : (mutable shared : Bool) → decode (global_code (record { mutable = mutable; shared = shared })) ≡ record { mutable = mutable; shared = shared }
unfolding decode
back_of true true = refl
back_of true false = refl
back_of false true = refl
back_of false false = refl

pub global_flags_unambiguous : Unambiguous (coded global_code)
global_flags_unambiguous = coded_unambiguous global_code decode (λ f. back_of f.mutable f.shared)

pub global_unambiguous : Unambiguous global_type
global_unambiguous =
    mapped_unambiguous global_of (λ x y e. ap (λ g. (g.val_type, global_flags g)) e)
    (pair_unambiguous val_unambiguous global_flags_unambiguous)

pub global_encodes : (g : GlobalType) → IsGlobal g → global_type minimal (global_encoding g) g
global_encodes g plain =
    ((g.val_type, global_flags g), refl, pair_encodes val_type (coded global_code) (val_encoding g.val_type) (global_code (global_flags g) ∷ []) g.val_type (global_flags g) (val-encodings.encodes g.val_type plain) refl)

-- ---- globals

pub global_item_unambiguous : Unambiguous global_item
global_item_unambiguous = mapped_unambiguous global_from (λ x y e. ap (λ i. (i.global_type, i.init)) e) (pair_unambiguous global_unambiguous expression_unambiguous)

pub global_item_encodes : (mode : Mode) → IsOfBuilders mode → (g : GivenGlobal) → IsGivenGlobalIn mode g → global_item mode (global_item_encoding g) (global_item_of g)
global_item_encodes mode of g plain =
    let typed = encodes_in {F = global_type} global_unambiguous (global_encodes g.global_type plain.global_type) mode of in
    let init = expression_encodes mode g.init.bytes g.init.instructions plain.init in
    ((g.global_type, g.init.instructions), refl, pair_in mode global_type expression (global_encoding g.global_type) (expression_encoding g.init.bytes) g.global_type g.init.instructions typed init)

pub global_laws : ItemLaws global_items
global_laws = record { unique = global_item_unambiguous; encodes = λ g plain encodable. global_item_encodes minimal tt g plain }

pub globals_section : SectionLaws global_items (vec global_item)
globals_section = counted_laws_padded global_laws (λ g plain. record { global_type = plain.global_type; init = stored_included g.init plain.init }) (λ g plain encodable. global_item_encodes padded tt g plain)

-- ---- decoding globals

bits_of : (b : ℕ) → b < 4 → b ≡ global_code (record { mutable = b % 2 == 1; shared = b / 2 % 2 == 1 })
bits_of b l =
    let p = bit_value (b % 2 == 1) (b % 2) (omega arith) refl in
    let q = bit_value (b / 2 % 2 == 1) (b / 2 % 2) (omega arith) refl in
    omega (arith, l, p, q, weight_is (b / 2 % 2 == 1) 0x02)

pub flags_read : {m : Mode} (bytes rest : List ℕ) (b : ℕ) → Decodes byte m bytes b rest → b < 4 → Decodes (coded global_code) m bytes (record { mutable = b % 2 == 1; shared = b / 2 % 2 == 1 }) rest
flags_read bytes rest b h l = code_decodes global_code bytes rest b _ h (bits_of b l)

pub flags_none : {m : Mode} (bytes : List ℕ) → Rejects byte m bytes → Rejects (coded global_code) m bytes
flags_none = code_none global_code

flags_small : (f : GlobalFlags) → global_code f < 4
flags_small f = omega (arith, bit_low f.mutable, bit_low f.shared, weight_is f.shared 0x02)

pub flags_unknown : {m : Mode} (bytes rest : List ℕ) (b : ℕ) → Decodes byte m bytes b rest → 4 ≤ b → Rejects (coded global_code) m bytes
flags_unknown bytes rest b h l = code_unknown global_code bytes rest b h (λ f e. omega (arith, l, e, flags_small f))

pub ruleset flag_steps = (flags_read)

pub type_decodes : {m : Mode} (bytes rest : List ℕ) (v : ValType) (f : GlobalFlags) → Decodes (pair val_type (coded global_code)) m bytes (v, f) rest → Decodes global_type m bytes (record { val_type = v; mutable = f.mutable; shared = f.shared }) rest
type_decodes bytes rest v f h = mapped_decodes global_of h

pub type_none : {m : Mode} (bytes : List ℕ) → Rejects (pair val_type (coded global_code)) m bytes → Rejects global_type m bytes
type_none bytes n = mapped_rejects global_of n

pub ruleset type_steps = (type_decodes)

pub item_decodes : {m : Mode} (bytes rest : List ℕ) (g : GlobalType) (is : List Plain) → Decodes (pair global_type expression) m bytes (g, is) rest → Decodes global_item m bytes (record { global_type = g; init = is }) rest
item_decodes bytes rest g is h = mapped_decodes global_from h

pub item_none : {m : Mode} (bytes : List ℕ) → Rejects (pair global_type expression) m bytes → Rejects global_item m bytes
item_none bytes n = mapped_rejects global_from n

pub ruleset item_steps = (item_decodes)

-- ---- decoded globals are well-formed

pub global_is : AllValues IsGlobal global_type
global_is mode s g h = subst IsGlobal h.1 (val_type_is mode h.2.front h.0.0 h.2.first)

-- ---- the one minimal encoding of a decoded global

pub global_appended : (g : GlobalType) (init : List Plain) (old middle new : List ℕ) → middle ≡ old ++ global_encoding g → AppendsMinimal builders_alone expression init middle new → AppendsMinimal builders_alone global_item (global_from (g, init)) old new
global_appended g init old middle new e a =
    let first = fitting_appended global_type IsGlobal global_encoding g old middle (record { encodes = global_encodes }) global_is e in
    mapped_appended global_from (pair global_type expression) (g, init) old new (λ z k. ap (λ i. (i.global_type, i.init)) k) (pair_appended global_type expression first a)

pub init_encoded : (g : GlobalType) (init : List Plain) → HasEncoding builders_alone global_item (global_from (g, init)) → HasEncoding builders_alone expression init
init_encoded g init h =
    right_encoded global_type expression g init (mapped_encoded global_from (pair global_type expression) (g, init) (λ z k. ap (λ i. (i.global_type, i.init)) k) h)
