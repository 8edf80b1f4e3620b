-- This file proves that symbols are unambiguous, and how they are decoded and minimized.
use Rattle.wasm_base.proofs.Words.{◌≡◌, ℕ, ◌^◌, ◌<◌, List, [], ◌++◌, Bool, Option, None, refl, ap, subst, ◌∙◌, ◌≢◌, ◌∷◌, true, false, Some, arith, Format, u32, byte, name, pair, tagged, mapped}
use Rattle.wasm_base.proofs.Words.{optional, is_given, prefixed, IsEncodableName, minimal, unsigned_encoding, Mode, padded, Grammar, builders, admitted, is_admitted}
use Rattle.wasm_base.proofs.Words.{padded_of, Unambiguous, Decodes, Rejects, size_prefixed_encoding, optional_encoding, name_unambiguous, mapped_unambiguous, pair_unambiguous, byte_unambiguous}
use Rattle.wasm_base.proofs.Words.{tagged_unambiguous, optional_unambiguous, choice_of, AllValues, AllDetermine, IsIncludedIn, u32_unambiguous, pair_encodes, optional_encodes, tagged_encodes}
use Rattle.wasm_base.proofs.Words.{u32_encodes, u32_in, name_encodes, then_decodes, then_rejects_first, then_rejects_second, mapped_decodes, mapped_rejects, tagged_decodes, tagged_none}
use Rattle.wasm_base.proofs.Words.{tagged_rejects, no_choice, AppendsMinimal, both_grammars, HasEncoding, left_encoded, right_encoded, tagged_encoded, prefixed_encoded, mapped_encoded}
use Rattle.wasm_base.proofs.Words.{nothing_appended, pair_appended, tagged_appended, mapped_appended, prefixed_appended}
use Rattle.wasm_base.proofs.Words.{canonical_appended}
use Rattle.wasm_base.specs.Minimal.{EncodesMinimally}
use Rattle.wasm_base.proofs.GrammarLaws.{canonical_by, mapped_both, pair_both, u32_both}
use Rattle.wasm_custom.specs.{kind_code, Symbol, indexed, of_data, of_section, has_name, has_definition, definition_encoding, symbol_encoding, IsDefinition, IsBuiltKind, IsFullSymbol, IsGivenSymbol}
use Rattle.wasm_custom.specs.{IsSymbol, IsObjectSymbol, definition, definition_of, indexed_of, data_of, indexed_symbol, data_symbol, section_symbol, symbol_tags, built_symbol, full_symbol_tags}
use Rattle.wasm_custom.specs.{full_symbol, symbol}
use Rattle.wasm_custom.specs.declared.symbols.DataSymbolDefinition.{DataSymbolDefinition}
use Rattle.wasm_custom.specs.declared.symbols.SymbolKind.{SymbolKind}
use Rattle.wasm_custom.specs.declared.symbols.SymbolKind.TheVariants.{Function, Global, Tag, Table}
use Rattle.wasm_custom.proofs.WiderLaws.{no_other, both_is, both_is_not, tagged_included, wider_unambiguous, tag_is, tag_is_not, tag_none, tag_rejects, IsAfterTag, in_each, in_standard, known_appended, known_encoded}

-- ---- unambiguous

pub definition_unambiguous : Unambiguous definition
definition_unambiguous = mapped_unambiguous definition_of (λ x y e. ap (λ d. (d.index, (d.offset, d.size))) e) (pair_unambiguous u32_unambiguous (pair_unambiguous u32_unambiguous u32_unambiguous))

abbrev flags_of : Symbol → ℕ
flags_of (indexed kind flags index n) = flags
flags_of (of_data flags n d) = flags
flags_of (of_section flags index) = flags

abbrev pub code_of : Symbol → ℕ
code_of (indexed kind flags index n) = kind_code kind
code_of (of_data flags n d) = 0x01
code_of (of_section flags index) = 0x03

abbrev indexed_parts : Symbol → ℕ × Option (List ℕ)
indexed_parts (indexed kind flags index n) = (index, n)
indexed_parts (of_data flags n d) = (0, None)
indexed_parts (of_section flags index) = (0, None)

abbrev data_parts : Symbol → List ℕ × Option DataSymbolDefinition
data_parts (indexed kind flags index n) = ([], None)
data_parts (of_data flags n d) = (n, d)
data_parts (of_section flags index) = ([], None)

abbrev section_index : Symbol → ℕ
section_index (indexed kind flags index n) = 0
section_index (of_data flags n d) = 0
section_index (of_section flags index) = index

indexed_unambiguous : (kind : SymbolKind) → Unambiguous (indexed_symbol kind)
indexed_unambiguous kind = tagged_unambiguous flags_of (λ mode flags s x h. ap flags_of h.1) u32_unambiguous (λ flags. mapped_unambiguous (indexed_of kind flags) (λ x y e. ap indexed_parts e) (pair_unambiguous u32_unambiguous (optional_unambiguous (has_name flags) name_unambiguous)))

data_unambiguous : Unambiguous data_symbol
data_unambiguous = tagged_unambiguous flags_of (λ mode flags s x h. ap flags_of h.1) u32_unambiguous (λ flags. mapped_unambiguous (data_of flags) (λ x y e. ap data_parts e) (pair_unambiguous name_unambiguous (optional_unambiguous (has_definition flags) definition_unambiguous)))

section_unambiguous : Unambiguous section_symbol
section_unambiguous = tagged_unambiguous flags_of (λ mode flags s x h. ap flags_of h.1) u32_unambiguous (λ flags. mapped_unambiguous (of_section flags) (λ x y e. ap section_index e) u32_unambiguous)

-- The byte of its kind is determined by a symbol of the builders' grammar.
built_kinds : AllDetermine code_of symbol_tags
built_kinds = (λ mode s x h. ap code_of (h.2.second.1 ∙ h.1), (λ mode s x h. ap code_of (h.2.second.1 ∙ h.1), (λ mode s x h. ap code_of (h.2.second.1 ∙ h.1), (λ mode s x h. ap code_of (h.2.second.1 ∙ h.1), tt))))

-- The byte of its kind is determined by a symbol of any kind.
full_kinds : AllDetermine code_of full_symbol_tags
full_kinds = (
  λ mode s x h. ap code_of (h.2.second.1 ∙ h.1),
  (λ mode s x h. ap code_of (h.2.second.1 ∙ h.1), (λ mode s x h. ap code_of (h.2.second.1 ∙ h.1), (λ mode s x h. ap code_of (h.2.second.1 ∙ h.1), (λ mode s x h. ap code_of (h.2.second.1 ∙ h.1), (λ mode s x h. ap code_of (h.2.second.1 ∙ h.1), tt))))),
)

pub built_symbol_unambiguous : Unambiguous built_symbol
built_symbol_unambiguous = choice_of byte code_of symbol_tags byte_unambiguous (indexed_unambiguous Function, (data_unambiguous, (indexed_unambiguous Global, (indexed_unambiguous Table, tt)))) built_kinds

pub full_symbol_unambiguous : Unambiguous full_symbol
full_symbol_unambiguous =
    choice_of byte code_of full_symbol_tags byte_unambiguous
    (indexed_unambiguous Function, (data_unambiguous, (indexed_unambiguous Global, (section_unambiguous, (indexed_unambiguous Tag, (indexed_unambiguous Table, tt)))))) full_kinds

pub built_is_full : (m : Mode) → IsIncludedIn (built_symbol m) (full_symbol m)
built_is_full m = tagged_included symbol_tags full_symbol_tags no_other m (λ s x h. h, (λ s x h. h, (λ s x h. h, (λ s x h. h, tt))))

pub symbol_unambiguous : Unambiguous symbol
symbol_unambiguous = wider_unambiguous built_symbol full_symbol built_symbol_unambiguous full_symbol_unambiguous (built_is_full padded)

-- ---- encodings

-- An optional field that is there exactly if its flag is set.
as_flagged : {X : Type 0} (F : Format X) (encoding : X → List ℕ) (flag : Bool) (part : Option X) → is_given part ≡ flag → optional (is_given part) F minimal (optional_encoding encoding part) part → optional flag F minimal (optional_encoding encoding part) part
as_flagged F encoding flag part e h = subst (λ given. optional given F minimal (optional_encoding encoding part) part) e h

pub definition_encodes : (d : DataSymbolDefinition) → IsDefinition d → definition minimal (definition_encoding d) d
definition_encodes d plain =
    let last = pair_encodes u32 u32 (unsigned_encoding d.offset) (unsigned_encoding d.size) d.offset d.size (u32_encodes d.offset plain.offset) (u32_encodes d.size plain.size) in
    ((d.index, (d.offset, d.size)), refl, pair_encodes u32 (pair u32 u32) (unsigned_encoding d.index) (unsigned_encoding d.offset ++ unsigned_encoding d.size) d.index (d.offset, d.size) (u32_encodes d.index plain.index) last)

-- Flags, then the fields that they select.
flagged : {X : Type 0} (G : ℕ → Format X) (flags : ℕ) (back : List ℕ) (x : X) → flags < 2 ^ 32 → G flags minimal back x → tagged u32 G minimal (unsigned_encoding flags ++ back) x
flagged G flags back x range h = ((flags, x), refl, record { front = unsigned_encoding flags; back = back; joined = refl; first = u32_encodes flags range; second = h })

indexed_encodes : (kind : SymbolKind) (flags index : ℕ) (n : Option (List ℕ)) → IsObjectSymbol (indexed kind flags index n) → indexed_symbol kind minimal (unsigned_encoding flags ++ (unsigned_encoding index ++ optional_encoding size_prefixed_encoding n)) (indexed kind flags index n)
indexed_encodes kind flags index n plain =
    let named = as_flagged name size_prefixed_encoding (has_name flags) n plain.1 (optional_encodes name IsEncodableName size_prefixed_encoding (λ x h. name_encodes x h.0 h.1) n plain.0.2) in
    flagged (λ flags. mapped (indexed_of kind flags) (pair u32 (optional (has_name flags) name))) flags (unsigned_encoding index ++ optional_encoding size_prefixed_encoding n) (indexed kind flags index n) plain.0.0
    ((index, n), refl, pair_encodes u32 (optional (has_name flags) name) (unsigned_encoding index) (optional_encoding size_prefixed_encoding n) index n (u32_encodes index plain.0.1) named)

data_encodes : (flags : ℕ) (n : List ℕ) (d : Option DataSymbolDefinition) → IsObjectSymbol (of_data flags n d) → data_symbol minimal (unsigned_encoding flags ++ (size_prefixed_encoding n ++ optional_encoding definition_encoding d)) (of_data flags n d)
data_encodes flags n d plain =
    let defined = as_flagged definition definition_encoding (has_definition flags) d plain.1 (optional_encodes definition IsDefinition definition_encoding definition_encodes d plain.0.2) in
    flagged (λ flags. mapped (data_of flags) (pair name (optional (has_definition flags) definition))) flags (size_prefixed_encoding n ++ optional_encoding definition_encoding d) (of_data flags n d) plain.0.0
    ((n, d), refl, pair_encodes name (optional (has_definition flags) definition) (size_prefixed_encoding n) (optional_encoding definition_encoding d) n d (name_encodes n plain.0.1.0 plain.0.1.1) defined)

section_encodes : (flags index : ℕ) → IsObjectSymbol (of_section flags index) → section_symbol minimal (unsigned_encoding flags ++ unsigned_encoding index) (of_section flags index)
section_encodes flags index plain = flagged (λ flags. mapped (of_section flags) u32) flags (unsigned_encoding index) (of_section flags index) plain.0.0 (index, refl, u32_encodes index plain.0.1)

-- A symbol with an index is one of a `SymbolTable` if its kind is one of the builders' grammar.
pub indexed_given : (kind : SymbolKind) (flags index : ℕ) (n : Option (List ℕ)) → IsBuiltKind kind → IsFullSymbol (indexed kind flags index n) → IsGivenSymbol (indexed kind flags index n)
indexed_given Function flags index n of full = full
indexed_given Global flags index n of full = full
indexed_given Tag flags index n of full = of
indexed_given Table flags index n of full = full

pub symbol_encodes : (x : Symbol) → IsSymbol x → built_symbol minimal (symbol_encoding x) x
symbol_encodes (indexed Function flags index n) plain = tagged_encodes minimal 0x00 _ (indexed Function flags index n) (indexed_encodes Function flags index n plain)
symbol_encodes (indexed Global flags index n) plain = tagged_encodes minimal 0x02 _ (indexed Global flags index n) (indexed_encodes Global flags index n plain)
symbol_encodes (indexed Tag flags index n) plain = absurd plain.0
symbol_encodes (indexed Table flags index n) plain = tagged_encodes minimal 0x05 _ (indexed Table flags index n) (indexed_encodes Table flags index n plain)
symbol_encodes (of_data flags n d) plain = tagged_encodes minimal 0x01 _ (of_data flags n d) (data_encodes flags n d plain)
symbol_encodes (of_section flags index) plain = absurd plain.0

pub full_symbol_encodes : (x : Symbol) → IsObjectSymbol x → full_symbol minimal (symbol_encoding x) x
full_symbol_encodes (indexed Function flags index n) plain = tagged_encodes minimal 0x00 _ (indexed Function flags index n) (indexed_encodes Function flags index n plain)
full_symbol_encodes (indexed Global flags index n) plain = tagged_encodes minimal 0x02 _ (indexed Global flags index n) (indexed_encodes Global flags index n plain)
full_symbol_encodes (indexed Tag flags index n) plain = tagged_encodes minimal 0x04 _ (indexed Tag flags index n) (indexed_encodes Tag flags index n plain)
full_symbol_encodes (indexed Table flags index n) plain = tagged_encodes minimal 0x05 _ (indexed Table flags index n) (indexed_encodes Table flags index n plain)
full_symbol_encodes (of_data flags n d) plain = tagged_encodes minimal 0x01 _ (of_data flags n d) (data_encodes flags n d plain)
full_symbol_encodes (of_section flags index) plain = tagged_encodes minimal 0x03 _ (of_section flags index) (section_encodes flags index plain)

-- ---- decoding symbols

-- ---- symbols with an index

abbrev after_flags : SymbolKind → ℕ → Format Symbol
after_flags kind flags = mapped (indexed_of kind flags) (pair u32 (optional (has_name flags) name))

pub indexed_decodes : {m : Mode} (kind : SymbolKind) (bytes rest next last : List ℕ) (flags index : ℕ) (n : Option (List ℕ)) → Decodes u32 m bytes flags rest → Decodes u32 m rest index next → Decodes (optional (has_name flags) name) m next n last
    → Decodes (indexed_symbol kind) m bytes (indexed kind flags index n) last
indexed_decodes kind bytes rest next last flags index n h g k = tagged_decodes {G = after_flags kind} h (mapped_decodes (indexed_of kind flags) (then_decodes g k))

pub indexed_none : {m : Mode} (kind : SymbolKind) (bytes : List ℕ) → Rejects u32 m bytes → Rejects (indexed_symbol kind) m bytes
indexed_none kind bytes n = tagged_none u32 (after_flags kind) bytes n

pub indexed_no_index : {m : Mode} (kind : SymbolKind) (bytes rest : List ℕ) (flags : ℕ) → Decodes u32 m bytes flags rest → Rejects u32 m rest → Rejects (indexed_symbol kind) m bytes
indexed_no_index kind bytes rest flags h n = tagged_rejects {G = after_flags kind} u32_unambiguous h (mapped_rejects (indexed_of kind flags) (then_rejects_first n))

pub indexed_no_name : {m : Mode} (kind : SymbolKind) (bytes rest next : List ℕ) (flags index : ℕ) → Decodes u32 m bytes flags rest → Decodes u32 m rest index next → Rejects (optional (has_name flags) name) m next → Rejects (indexed_symbol kind) m bytes
indexed_no_name kind bytes rest next flags index h g n = tagged_rejects {G = after_flags kind} u32_unambiguous h (mapped_rejects (indexed_of kind flags) (then_rejects_second u32_unambiguous g n))

-- ---- data

pub definition_decodes : {m : Mode} (bytes last : List ℕ) (index offset size : ℕ) → Decodes (pair u32 (pair u32 u32)) m bytes (index, (offset, size)) last → Decodes definition m bytes (record { index = index; offset = offset; size = size }) last
definition_decodes bytes last index offset size h = mapped_decodes definition_of h

pub definition_none : {m : Mode} (bytes : List ℕ) → Rejects (pair u32 (pair u32 u32)) m bytes → Rejects definition m bytes
definition_none bytes n = mapped_rejects definition_of n

abbrev given : ℕ → Format Symbol
given flags = mapped (data_of flags) (pair name (optional (has_definition flags) definition))

pub data_decodes : {m : Mode} (bytes rest next last : List ℕ) (flags : ℕ) (n : List ℕ) (d : Option DataSymbolDefinition) → Decodes u32 m bytes flags rest → Decodes name m rest n next → Decodes (optional (has_definition flags) definition) m next d last
    → Decodes data_symbol m bytes (of_data flags n d) last
data_decodes bytes rest next last flags n d h g k = tagged_decodes {G = given} h (mapped_decodes (data_of flags) (then_decodes g k))

pub data_none : {m : Mode} (bytes : List ℕ) → Rejects u32 m bytes → Rejects data_symbol m bytes
data_none bytes n = tagged_none u32 given bytes n

pub data_no_name : {m : Mode} (bytes rest : List ℕ) (flags : ℕ) → Decodes u32 m bytes flags rest → Rejects name m rest → Rejects data_symbol m bytes
data_no_name bytes rest flags h n = tagged_rejects {G = given} u32_unambiguous h (mapped_rejects (data_of flags) (then_rejects_first n))

pub data_no_definition : {m : Mode} (bytes rest next : List ℕ) (flags : ℕ) (n : List ℕ) → Decodes u32 m bytes flags rest → Decodes name m rest n next → Rejects (optional (has_definition flags) definition) m next → Rejects data_symbol m bytes
data_no_definition bytes rest next flags n h g none = tagged_rejects {G = given} u32_unambiguous h (mapped_rejects (data_of flags) (then_rejects_second name_unambiguous g none))

pub ruleset data_steps = (data_decodes, data_no_definition)

-- ---- sections

abbrev indexed_section : ℕ → Format Symbol
indexed_section flags = mapped (of_section flags) u32

pub section_decodes : {m : Mode} (bytes rest last : List ℕ) (flags index : ℕ) → Decodes u32 m bytes flags rest → Decodes u32 m rest index last → Decodes section_symbol m bytes (of_section flags index) last
section_decodes bytes rest last flags index h g = tagged_decodes {G = indexed_section} h (mapped_decodes (of_section flags) g)

pub section_none : {m : Mode} (bytes : List ℕ) → Rejects u32 m bytes → Rejects section_symbol m bytes
section_none bytes n = tagged_none u32 indexed_section bytes n

pub section_no_index : {m : Mode} (bytes rest : List ℕ) (flags : ℕ) → Decodes u32 m bytes flags rest → Rejects u32 m rest → Rejects section_symbol m bytes
section_no_index bytes rest flags h n = tagged_rejects {G = indexed_section} u32_unambiguous h (mapped_rejects (of_section flags) n)

pub ruleset section_steps = (section_decodes, section_no_index)

-- ---- kinds

pub symbol_none : (w : Grammar) (bytes : List ℕ) → Rejects byte (padded_of w) bytes → Rejects symbol (padded_of w) bytes
symbol_none w bytes n = tag_none symbol_tags full_symbol_tags no_other w bytes n

module _ (w : Grammar) (bytes rest : List ℕ) (b : ℕ) (h : Decodes byte (padded_of w) bytes b rest) where
  pub function_decodes : (last : List ℕ) (x : Symbol) → b ≡ 0x00 → Decodes (indexed_symbol Function) (padded_of w) rest x last → Decodes symbol (padded_of w) bytes x last
  function_decodes last x e g = both_is symbol_tags full_symbol_tags no_other 0x00 (indexed_symbol Function) refl refl w h e g

  pub function_none : b ≡ 0x00 → Rejects (indexed_symbol Function) (padded_of w) rest → Rejects symbol (padded_of w) bytes
  function_none e n = both_is_not symbol_tags full_symbol_tags no_other 0x00 (indexed_symbol Function) refl refl w h e n

  pub of_data_decodes : (last : List ℕ) (x : Symbol) → b ≡ 0x01 → Decodes data_symbol (padded_of w) rest x last → Decodes symbol (padded_of w) bytes x last
  of_data_decodes last x e g = both_is symbol_tags full_symbol_tags no_other 0x01 data_symbol refl refl w h e g

  pub of_data_none : b ≡ 0x01 → Rejects data_symbol (padded_of w) rest → Rejects symbol (padded_of w) bytes
  of_data_none e n = both_is_not symbol_tags full_symbol_tags no_other 0x01 data_symbol refl refl w h e n

  pub global_decodes : (last : List ℕ) (x : Symbol) → b ≡ 0x02 → Decodes (indexed_symbol Global) (padded_of w) rest x last → Decodes symbol (padded_of w) bytes x last
  global_decodes last x e g = both_is symbol_tags full_symbol_tags no_other 0x02 (indexed_symbol Global) refl refl w h e g

  pub global_none : b ≡ 0x02 → Rejects (indexed_symbol Global) (padded_of w) rest → Rejects symbol (padded_of w) bytes
  global_none e n = both_is_not symbol_tags full_symbol_tags no_other 0x02 (indexed_symbol Global) refl refl w h e n

  pub table_decodes : (last : List ℕ) (x : Symbol) → b ≡ 0x05 → Decodes (indexed_symbol Table) (padded_of w) rest x last → Decodes symbol (padded_of w) bytes x last
  table_decodes last x e g = both_is symbol_tags full_symbol_tags no_other 0x05 (indexed_symbol Table) refl refl w h e g

  pub table_none : b ≡ 0x05 → Rejects (indexed_symbol Table) (padded_of w) rest → Rejects symbol (padded_of w) bytes
  table_none e n = both_is_not symbol_tags full_symbol_tags no_other 0x05 (indexed_symbol Table) refl refl w h e n

-- The kinds of the standard's grammar alone.
pub of_section_decodes : (w : Grammar) (bytes rest : List ℕ) (b : ℕ) → Decodes byte (padded_of w) bytes b rest → (last : List ℕ) (x : Symbol) → is_admitted w ≡ true → b ≡ 0x03 → Decodes section_symbol (padded_of w) rest x last → Decodes symbol (padded_of w) bytes x last
of_section_decodes builders bytes rest b h last x f e g = absurd (cc f)
of_section_decodes admitted bytes rest b h last x f e g = tag_is symbol_tags full_symbol_tags no_other admitted 0x03 h e g

pub of_section_none : (w : Grammar) (bytes rest : List ℕ) (b : ℕ) → Decodes byte (padded_of w) bytes b rest → is_admitted w ≡ true → b ≡ 0x03 → Rejects section_symbol (padded_of w) rest → Rejects symbol (padded_of w) bytes
of_section_none builders bytes rest b h f e n = absurd (cc f)
of_section_none admitted bytes rest b h f e n = tag_is_not symbol_tags full_symbol_tags no_other admitted 0x03 h e n

pub tag_symbol_decodes : (w : Grammar) (bytes rest : List ℕ) (b : ℕ) → Decodes byte (padded_of w) bytes b rest → (last : List ℕ) (x : Symbol) → is_admitted w ≡ true → b ≡ 0x04 → Decodes (indexed_symbol Tag) (padded_of w) rest x last → Decodes symbol (padded_of w) bytes x last
tag_symbol_decodes builders bytes rest b h last x f e g = absurd (cc f)
tag_symbol_decodes admitted bytes rest b h last x f e g = tag_is symbol_tags full_symbol_tags no_other admitted 0x04 h e g

pub tag_symbol_none : (w : Grammar) (bytes rest : List ℕ) (b : ℕ) → Decodes byte (padded_of w) bytes b rest → is_admitted w ≡ true → b ≡ 0x04 → Rejects (indexed_symbol Tag) (padded_of w) rest → Rejects symbol (padded_of w) bytes
tag_symbol_none builders bytes rest b h f e n = absurd (cc f)
tag_symbol_none admitted bytes rest b h f e n = tag_is_not symbol_tags full_symbol_tags no_other admitted 0x04 h e n

pub symbol_unknown : (w : Grammar) (bytes rest : List ℕ) (b : ℕ) → Decodes byte (padded_of w) bytes b rest → b ≢ 0x00 → b ≢ 0x01 → b ≢ 0x02 → (is_admitted w ≡ true → b ≢ 0x03) → (is_admitted w ≡ true → b ≢ 0x04) → b ≢ 0x05 → Rejects symbol (padded_of w) bytes
symbol_unknown builders bytes rest b h p q r s t u = tag_rejects symbol_tags full_symbol_tags no_other builders h (no_choice symbol_tags b rest (p, (q, (r, (u, tt)))))
symbol_unknown admitted bytes rest b h p q r s t u = tag_rejects symbol_tags full_symbol_tags no_other admitted h (no_choice full_symbol_tags b rest (p, (q, (r, (s refl, (t refl, (u, tt)))))))

pub section_of_builders : (w : Grammar) (bytes rest : List ℕ) (b : ℕ) → Decodes byte (padded_of w) bytes b rest → is_admitted w ≡ false → b ≡ 0x03 → Rejects symbol (padded_of w) bytes
section_of_builders w bytes rest b h f e = symbol_unknown w bytes rest b h (omega (arith, e)) (omega (arith, e)) (omega (arith, e)) (λ t. absurd (cc (f, t))) (λ t. absurd (cc (f, t))) (omega (arith, e))

pub tag_of_builders : (w : Grammar) (bytes rest : List ℕ) (b : ℕ) → Decodes byte (padded_of w) bytes b rest → is_admitted w ≡ false → b ≡ 0x04 → Rejects symbol (padded_of w) bytes
tag_of_builders w bytes rest b h f e = symbol_unknown w bytes rest b h (omega (arith, e)) (omega (arith, e)) (omega (arith, e)) (λ t. absurd (cc (f, t))) (λ t. absurd (cc (f, t))) (omega (arith, e))

-- ---- the one minimal encoding of decoded symbols

-- ---- fields that flags select

module _ {X : Type 0} (F : Format X) (old new : List ℕ) where
  some_appended : (flag : Bool) (x : X) → AppendsMinimal both_grammars F x old new → AppendsMinimal both_grammars (optional flag F) (Some x) old new
  some_appended true x a = mapped_appended Some F x old new (λ z k. cc k) a
  some_appended false x a = record { encoding = a.encoding; appended = a.appended; encodes = λ w q s h. absurd (cc (h.1)) }

none_appended : {X : Type 0} (F : Format X) (flag : Bool) (old : List ℕ) → AppendsMinimal both_grammars (optional flag F) None old old
none_appended F true old = nothing_appended (optional true F) None old (λ w q s h. absurd (cc (h.1)))
none_appended F false old = nothing_appended (optional false F) None old (λ w q s h. (refl, refl))

pub name_appended : (flags : ℕ) (n old new : List ℕ) → AppendsMinimal both_grammars name n old new → AppendsMinimal both_grammars (optional (has_name flags) name) (Some n) old new
name_appended flags n old new a = some_appended name old new (has_name flags) n a

pub no_name_appended : (flags : ℕ) (old : List ℕ) → AppendsMinimal both_grammars (optional (has_name flags) name) None old old
no_name_appended flags old = none_appended name (has_name flags) old

definition_is : AllValues IsDefinition definition
definition_is mode s x h = subst IsDefinition h.1 (record { index = h.2.first.range; offset = h.2.second.first.range; size = h.2.second.second.range })

definition_canonical : EncodesMinimally definition (λ d. d) definition_encoding
definition_canonical = canonical_by (λ d. d) definition_encoding IsDefinition definition_is definition_encodes (mapped_both definition_of (pair_both u32_both (pair_both u32_both u32_both)))

pub definition_appended : (flags : ℕ) (d : DataSymbolDefinition) (old new : List ℕ) → new ≡ old ++ definition_encoding d → AppendsMinimal both_grammars (optional (has_definition flags) definition) (Some d) old new
definition_appended flags d old new e = some_appended definition old new (has_definition flags) d (canonical_appended definition (λ d. d) definition_encoding d old new definition_canonical e)

pub no_definition_appended : (flags : ℕ) (old : List ℕ) → AppendsMinimal both_grammars (optional (has_definition flags) definition) None old old
no_definition_appended flags old = none_appended definition (has_definition flags) old

-- ---- symbols

behind : (kind : SymbolKind) (flags index : ℕ) (n : Option (List ℕ)) (old first second new : List ℕ) → AppendsMinimal both_grammars u32 flags old first → AppendsMinimal both_grammars u32 index first second → AppendsMinimal both_grammars (optional (has_name flags) name) n second new
    → AppendsMinimal both_grammars (indexed_symbol kind) (indexed kind flags index n) old new
behind kind flags index n old first second new a b c =
    let parts = pair_appended u32 (optional (has_name flags) name) b c in
    tagged_appended u32 (λ f. mapped (indexed_of kind f) (pair u32 (optional (has_name f) name))) (λ mode s f h. ap flags_of h.1) a
    (mapped_appended (indexed_of kind flags) (pair u32 (optional (has_name flags) name)) (index, n) first new (λ z k. ap indexed_parts k) parts)

pub indexed_appended : (kind : SymbolKind) (flags index : ℕ) (n : Option (List ℕ)) (old front first second new : List ℕ) → front ≡ old ++ kind_code kind ∷ [] → AppendsMinimal both_grammars u32 flags front first → AppendsMinimal both_grammars u32 index first second
    → AppendsMinimal both_grammars (optional (has_name flags) name) n second new → AppendsMinimal both_grammars (prefixed (kind_code kind ∷ []) (indexed_symbol kind)) (indexed kind flags index n) old new
indexed_appended kind flags index n old front first second new e a b c = prefixed_appended (kind_code kind ∷ []) (indexed_symbol kind) (indexed kind flags index n) old front new e (behind kind flags index n front first second new a b c)

pub data_appended : (flags : ℕ) (n : List ℕ) (d : Option DataSymbolDefinition) (old front first second new : List ℕ) → front ≡ old ++ 0x01 ∷ [] → AppendsMinimal both_grammars u32 flags front first → AppendsMinimal both_grammars name n first second
    → AppendsMinimal both_grammars (optional (has_definition flags) definition) d second new → AppendsMinimal both_grammars (prefixed (0x01 ∷ []) data_symbol) (of_data flags n d) old new
data_appended flags n d old front first second new e a b c =
    let parts = pair_appended name (optional (has_definition flags) definition) b c in
    prefixed_appended (0x01 ∷ []) data_symbol (of_data flags n d) old front new e
    (tagged_appended u32 given (λ mode s f h. ap flags_of h.1) a
    (mapped_appended (data_of flags) (pair name (optional (has_definition flags) definition)) (n, d) first new (λ z k. ap data_parts k) parts))

pub section_appended : (flags index : ℕ) (old front middle new : List ℕ) → front ≡ old ++ 0x03 ∷ [] → AppendsMinimal both_grammars u32 flags front middle → AppendsMinimal both_grammars u32 index middle new → AppendsMinimal both_grammars (prefixed (0x03 ∷ []) section_symbol) (of_section flags index) old new
section_appended flags index old front middle new e a b =
    prefixed_appended (0x03 ∷ []) section_symbol (of_section flags index) old front new e
    (tagged_appended u32 indexed_section (λ mode s f h. ap flags_of h.1) a (mapped_appended (of_section flags) u32 index middle new (λ z k. ap section_index k) b))

-- In each grammar that has an encoding of the symbol, `F` is the format after the byte of its kind.
abbrev IsKnown : Symbol → Format Symbol → Type 1
IsKnown x F = IsAfterTag symbol_tags full_symbol_tags no_other code_of built_kinds full_kinds (λ b mode s x h. absurd h) x F

module _ (x : Symbol) (F : Format Symbol) (known : IsKnown x F) where
  known_short : {old new : List ℕ} → AppendsMinimal both_grammars (prefixed (code_of x ∷ []) F) x old new → AppendsMinimal both_grammars symbol x old new
  known_short a = known_appended symbol_tags full_symbol_tags no_other code_of built_kinds full_kinds (λ b mode s x h. absurd h) x F known a

  known_content : HasEncoding both_grammars symbol x → HasEncoding both_grammars (prefixed (code_of x ∷ []) F) x
  known_content h = known_encoded symbol_tags full_symbol_tags no_other code_of built_kinds full_kinds (λ b mode s x h. absurd h) x F known h

indexed_known : (kind : SymbolKind) (flags index : ℕ) (n : Option (List ℕ)) → IsKnown (indexed kind flags index n) (indexed_symbol kind)
indexed_known Function flags index n = in_each symbol_tags full_symbol_tags no_other code_of built_kinds full_kinds (λ b mode s x h. absurd h) (indexed Function flags index n) (indexed_symbol Function) refl refl
indexed_known Global flags index n = in_each symbol_tags full_symbol_tags no_other code_of built_kinds full_kinds (λ b mode s x h. absurd h) (indexed Global flags index n) (indexed_symbol Global) refl refl
indexed_known Tag flags index n = in_standard symbol_tags full_symbol_tags no_other code_of built_kinds full_kinds (λ b mode s x h. absurd h) (indexed Tag flags index n) (indexed_symbol Tag) refl refl
indexed_known Table flags index n = in_each symbol_tags full_symbol_tags no_other code_of built_kinds full_kinds (λ b mode s x h. absurd h) (indexed Table flags index n) (indexed_symbol Table) refl refl

data_known : (flags : ℕ) (n : List ℕ) (d : Option DataSymbolDefinition) → IsKnown (of_data flags n d) data_symbol
data_known flags n d = in_each symbol_tags full_symbol_tags no_other code_of built_kinds full_kinds (λ b mode s x h. absurd h) (of_data flags n d) data_symbol refl refl

section_known : (flags index : ℕ) → IsKnown (of_section flags index) section_symbol
section_known flags index = in_standard symbol_tags full_symbol_tags no_other code_of built_kinds full_kinds (λ b mode s x h. absurd h) (of_section flags index) section_symbol refl refl

-- The bytes that a call appends for a symbol of a kind are the minimal encoding of the symbol.
pub indexed_short : (kind : SymbolKind) (flags index : ℕ) (n : Option (List ℕ)) (old new : List ℕ) → AppendsMinimal both_grammars (prefixed (kind_code kind ∷ []) (indexed_symbol kind)) (indexed kind flags index n) old new → AppendsMinimal both_grammars symbol (indexed kind flags index n) old new
indexed_short kind flags index n old new a = known_short (indexed kind flags index n) (indexed_symbol kind) (indexed_known kind flags index n) a

pub data_short : (flags : ℕ) (n : List ℕ) (d : Option DataSymbolDefinition) (old new : List ℕ) → AppendsMinimal both_grammars (prefixed (0x01 ∷ []) data_symbol) (of_data flags n d) old new → AppendsMinimal both_grammars symbol (of_data flags n d) old new
data_short flags n d old new a = known_short (of_data flags n d) data_symbol (data_known flags n d) a

pub section_short : (flags index : ℕ) (old new : List ℕ) → AppendsMinimal both_grammars (prefixed (0x03 ∷ []) section_symbol) (of_section flags index) old new → AppendsMinimal both_grammars symbol (of_section flags index) old new
section_short flags index old new a = known_short (of_section flags index) section_symbol (section_known flags index) a

-- ---- fields of a symbol that has an encoding

some_encoded : {X : Type 0} (F : Format X) (flag : Bool) (x : X) → HasEncoding both_grammars (optional flag F) (Some x) → HasEncoding both_grammars F x
some_encoded F true x h = mapped_encoded Some F x (λ z k. cc k) h
some_encoded F false x h = absurd (cc (h.decoded.1))

pub name_encoded : (flags : ℕ) (n : List ℕ) → HasEncoding both_grammars (optional (has_name flags) name) (Some n) → HasEncoding both_grammars name n
name_encoded flags n h = some_encoded name (has_name flags) n h

behind_encoded : (kind : SymbolKind) (flags index : ℕ) (n : Option (List ℕ)) → HasEncoding both_grammars (indexed_symbol kind) (indexed kind flags index n) → HasEncoding both_grammars (optional (has_name flags) name) n
behind_encoded kind flags index n h =
    right_encoded u32 (optional (has_name flags) name) index n
    (mapped_encoded (indexed_of kind flags) (pair u32 (optional (has_name flags) name)) (index, n) (λ z k. ap indexed_parts k)
    (tagged_encoded u32 (λ f. mapped (indexed_of kind f) (pair u32 (optional (has_name f) name))) flags (indexed kind flags index n) (λ mode s f k. ap flags_of k.1) h))

pub indexed_encoded : (kind : SymbolKind) (flags index : ℕ) (n : Option (List ℕ)) → HasEncoding both_grammars (prefixed (kind_code kind ∷ []) (indexed_symbol kind)) (indexed kind flags index n) → HasEncoding both_grammars (optional (has_name flags) name) n
indexed_encoded kind flags index n h = behind_encoded kind flags index n (prefixed_encoded (kind_code kind ∷ []) (indexed_symbol kind) (indexed kind flags index n) h)

data_parts_encoded : (flags : ℕ) (n : List ℕ) (d : Option DataSymbolDefinition) → HasEncoding both_grammars (prefixed (0x01 ∷ []) data_symbol) (of_data flags n d) → HasEncoding both_grammars (pair name (optional (has_definition flags) definition)) (n, d)
data_parts_encoded flags n d h =
    mapped_encoded (data_of flags) (pair name (optional (has_definition flags) definition)) (n, d) (λ z k. ap data_parts k)
    (tagged_encoded u32 given flags (of_data flags n d) (λ mode s f k. ap flags_of k.1) (prefixed_encoded (0x01 ∷ []) data_symbol (of_data flags n d) h))

pub number_encoded : (n : ℕ) → n < 2 ^ 32 → HasEncoding both_grammars u32 n
number_encoded n h = record { grammar = builders; included = tt; bytes = unsigned_encoding n; decoded = u32_in padded n h }

-- A symbol that has an encoding has one of its kind.
pub indexed_kind_encoded : (kind : SymbolKind) (flags index : ℕ) (n : Option (List ℕ)) → HasEncoding both_grammars symbol (indexed kind flags index n) → HasEncoding both_grammars (prefixed (kind_code kind ∷ []) (indexed_symbol kind)) (indexed kind flags index n)
indexed_kind_encoded kind flags index n h = known_content (indexed kind flags index n) (indexed_symbol kind) (indexed_known kind flags index n) h

pub data_kind_encoded : (flags : ℕ) (n : List ℕ) (d : Option DataSymbolDefinition) → HasEncoding both_grammars symbol (of_data flags n d) → HasEncoding both_grammars (prefixed (0x01 ∷ []) data_symbol) (of_data flags n d)
data_kind_encoded flags n d h = known_content (of_data flags n d) data_symbol (data_known flags n d) h

pub ruleset short_steps = (indexed_short, data_short, section_short, indexed_kind_encoded, data_kind_encoded)

pub data_name_encoded : (flags : ℕ) (n : List ℕ) (d : Option DataSymbolDefinition) → HasEncoding both_grammars (prefixed (0x01 ∷ []) data_symbol) (of_data flags n d) → HasEncoding both_grammars name n
data_name_encoded flags n d h = left_encoded name (optional (has_definition flags) definition) n d (data_parts_encoded flags n d h)

pub data_definition_encoded : (flags : ℕ) (n : List ℕ) (d : Option DataSymbolDefinition) → HasEncoding both_grammars (prefixed (0x01 ∷ []) data_symbol) (of_data flags n d) → HasEncoding both_grammars (optional (has_definition flags) definition) d
data_definition_encoded flags n d h = right_encoded name (optional (has_definition flags) definition) n d (data_parts_encoded flags n d h)
