-- This file proves that table types and tables are unambiguous, and how they are decoded and
-- minimized.
use Rattle.wasm_base.proofs.Words.{IsRefByte, begins_weaker, ref_begins, ◌≡◌, ℕ, ◌^◌, ◌<◌, List, [], ◌∷◌, ◌++◌, Bool, true, false, Option, Some, None, refl, ap, ◌∙◌, arith, inl, inr, ◌≢◌, sym, subst}
use Rattle.wasm_base.proofs.Words.{IfSome, ItemLaws, u64, impossible, mapped, pair, optional, when, prefixed, is_given, Format, byte, vec, Mode, minimal, unsigned_encoding, padded, IsOfBuilders}
use Rattle.wasm_base.proofs.Words.{Unambiguous, BeginsWith, Decodes, Rejects, optional_encoding, ref_type, ref_encoding, u64_unambiguous, DeterminesTag, tagged_unambiguous, mapped_unambiguous}
use Rattle.wasm_base.proofs.Words.{when_unambiguous, impossible_unambiguous, pair_unambiguous, optional_unambiguous, prefixed_unambiguous, one_of_unambiguous, begins_then, begins_mapped, begins_fixed}
use Rattle.wasm_base.proofs.Words.{none_in_common, values_mapped, AllValues, encodes_in, u64_encodes, ref_unambiguous, ref-encodings, pair_in, pair_encodes, optional_encodes, optional_determines}
use Rattle.wasm_base.proofs.Words.{mapped_decodes, mapped_rejects, one_of_rejects, one_of_left, one_of_right, not_begun, no_bytes, SectionLaws, counted_laws_padded, ref_is, fitting_appended}
use Rattle.wasm_base.proofs.Words.{pair_appended, prefixed_appended, mapped_appended, AppendsMinimal, Grammar, Includes, IsMinimalEncoding, builders_alone, padded_of, HasEncoding, right_encoded, prefixed_encoded, mapped_encoded}
use Rattle.wasm_code.proofs.Words.{expression, expression_encoding, expression_unambiguous, expression_encodes}
use Rattle.wasm_insn.proofs.Words.{Plain}
use Rattle.wasm_sections.specs.{Stored, IsStoredIn, IsStored, IsStoredPadded, flags_code, table_flags, table_encoding, IsTable, Limits, limits_of, after_limits_flags, limits, table_of, table_type}
use Rattle.wasm_sections.specs.{before_init, table_init_encoding, init_of, without_init, with_init, table_item, table_items}
use Rattle.wasm_sections.specs.Flags.{Flags}
use Rattle.wasm_sections.specs.declared.table.TableType.{TableType}
use Rattle.wasm_sections.proofs.FlagLaws.{flags_unambiguous}
use Rattle.wasm_sections.proofs.Prefixes.{prefixed_decodes, prefixed_rejects, prefixed_other}
use Rattle.wasm_sections.proofs.ConstantLaws.{stored_included}
use Rattle.wasm_sections.proofs.DecodeLimits.{optional_is, u64_is}

abbrev limits_flags : Limits → Flags
limits_flags l = record { has_maximum = is_given l.maximum; shared = l.shared; is_64 = l.table64; has_page_size = false }

flags_determine : DeterminesTag after_limits_flags limits_flags
flags_determine mode f s l h = go f.has_page_size refl h
  where
    go : (page : Bool) → f.has_page_size ≡ page → when page impossible (mapped (limits_of f) (pair u64 (optional f.has_maximum u64))) mode s l → f ≡ limits_flags l
    go true e g = absurd g
    go false e g =
        let maximum = optional_determines u64 f.has_maximum mode g.2.back g.0.1 g.2.second in
        let explicit : f ≡ limits_flags (limits_of f g.0) = λ i. record { has_maximum = maximum i; shared = f.shared; is_64 = f.is_64; has_page_size = e i } in
        explicit ∙ ap limits_flags g.1

pub limits_unambiguous : Unambiguous limits
limits_unambiguous =
    tagged_unambiguous limits_flags flags_determine flags_unambiguous λ f.
    when_unambiguous f.has_page_size impossible_unambiguous
    (mapped_unambiguous (limits_of f) (λ x y e. ap (λ l. (l.minimum, l.maximum)) e) (pair_unambiguous u64_unambiguous (optional_unambiguous f.has_maximum u64_unambiguous)))

abbrev limits_in : TableType → Limits
limits_in t = record { table64 = t.table64; shared = t.shared; minimum = t.minimum; maximum = t.maximum }

pub table_unambiguous : Unambiguous table_type
table_unambiguous = mapped_unambiguous table_of (λ x y e. ap (λ t. (t.element_type, limits_in t)) e) (pair_unambiguous ref_unambiguous limits_unambiguous)

pub table_encodes : (t : TableType) → IsTable t → table_type minimal (table_encoding t) t
table_encodes t plain =
    let maximum = optional_encodes u64 (λ n. n < 2 ^ 64) unsigned_encoding u64_encodes t.maximum plain.maximum in
    let numbers = pair_encodes u64 (optional (is_given t.maximum) u64) (unsigned_encoding t.minimum) (optional_encoding unsigned_encoding t.maximum) t.minimum t.maximum (u64_encodes t.minimum plain.minimum) maximum in
    let back = unsigned_encoding t.minimum ++ optional_encoding unsigned_encoding t.maximum in
    let limited : limits minimal (flags_code (table_flags t) ∷ back) (limits_in t) =
    ((table_flags t, limits_in t), refl, record { front = flags_code (table_flags t) ∷ []; back = back; joined = refl; first = refl; second = ((t.minimum, t.maximum), refl, numbers) }) in
    ((t.element_type, limits_in t), refl, pair_encodes ref_type limits (ref_encoding t.element_type) (flags_code (table_flags t) ∷ back) t.element_type (limits_in t) (ref-encodings.encodes t.element_type plain.element_type) limited)

-- ---- tables

-- The first byte of a table type, which is not that before a table with an initial value.
abbrev pub IsTypeByte : ℕ → Type 0
IsTypeByte b = 0x40 < b

pub type_begins : BeginsWith IsTypeByte table_type
type_begins =
    begins_mapped IsTypeByte table_of (begins_then IsTypeByte (begins_weaker IsRefByte IsTypeByte (λ b p. omega (arith, p.0)) ref_begins))

abbrev pub IsInitByte : ℕ → Type 0
IsInitByte b = b ≡ 0x40

pub init_begins : BeginsWith IsInitByte (mapped with_init (prefixed before_init (pair table_type expression)))
init_begins = begins_mapped IsInitByte with_init (begins_mapped IsInitByte (λ p. p.1) (begins_then IsInitByte (begins_fixed IsInitByte 0x40 (0x00 ∷ []) (tt {0}) refl)))

-- The instructions of an initial value.
abbrev instructions_in : Option (List Plain) → List Plain
instructions_in None = []
instructions_in (Some is) = is

pub table_item_unambiguous : Unambiguous table_item
table_item_unambiguous =
    one_of_unambiguous IsTypeByte IsInitByte (λ b p q. omega (arith, p, q)) type_item_begins init_begins
    (none_in_common (λ i. is_given i.init ≡ false) (λ i. is_given i.init ≡ true) (λ i p q. absurd (cc (p, q)))
    (values_mapped (λ i. is_given i.init ≡ false) without_init table_type (λ t. refl)) (values_mapped (λ i. is_given i.init ≡ true) with_init (prefixed before_init (pair table_type expression)) (λ p. refl)))
    (mapped_unambiguous without_init (λ x y e. ap (λ i. i.table_type) e) table_unambiguous)
    (mapped_unambiguous with_init (λ x y e. ap (λ i. (i.table_type, instructions_in i.init)) e) (prefixed_unambiguous before_init (pair_unambiguous table_unambiguous expression_unambiguous)))
  where
    type_item_begins : BeginsWith IsTypeByte (mapped without_init table_type)
    type_item_begins = begins_mapped IsTypeByte without_init type_begins

pub init_encodes : (mode : Mode) → IsOfBuilders mode → (t : TableType) (init : Option Stored) → IsTable t → IfSome init (IsStoredIn mode) → table_item mode (table_init_encoding t init) (record { table_type = t; init = init_of init })
init_encodes mode of t None plain stored = inl (t, refl, encodes_in {F = table_type} table_unambiguous (table_encodes t plain) mode of)
init_encodes mode of t (Some e) plain stored =
    let typed = encodes_in {F = table_type} table_unambiguous (table_encodes t plain) mode of in
    let parts = pair_in mode table_type expression (table_encoding t) (expression_encoding e.bytes) t e.instructions typed (expression_encodes mode e.bytes e.instructions stored) in
    inr ((t, e.instructions), refl, ((tt, (t, e.instructions)), refl, record { front = before_init; back = table_encoding t ++ expression_encoding e.bytes; joined = refl; first = (refl, refl); second = parts }))

pub table_laws : ItemLaws table_items
table_laws = record { unique = table_item_unambiguous; encodes = λ t plain encodable. init_encodes minimal tt t.table_type t.init plain.table_type plain.init }

init_included : (init : Option Stored) → IfSome init IsStored → IfSome init IsStoredPadded
init_included None plain = plain
init_included (Some e) plain = stored_included e plain

pub tables_section : SectionLaws table_items (vec table_item)
tables_section = counted_laws_padded table_laws (λ t plain. record { table_type = plain.table_type; init = init_included t.init plain.init }) (λ t plain encodable. init_encodes padded tt t.table_type t.init plain.table_type plain.init)

-- ---- decoding tables

abbrev typed : Format (TableType × List Plain)
typed = pair table_type expression

-- A table without an initial value.
pub table_decodes : {m : Mode} (bytes last : List ℕ) (t : TableType) → Decodes table_type m bytes t last → Decodes table_item m bytes (record { table_type = t; init = None }) last
table_decodes bytes last t h = one_of_left (mapped with_init (prefixed before_init typed)) (mapped_decodes without_init h)

pub table_none : {m : Mode} (bytes : List ℕ) → Rejects byte m bytes → Rejects table_item m bytes
table_none bytes n =
    one_of_rejects (no_bytes IsTypeByte (mapped without_init table_type) (begins_mapped IsTypeByte without_init type_begins) n)
    (no_bytes IsInitByte (mapped with_init (prefixed before_init typed)) init_begins n)

pub table_no_type : {m : Mode} (bytes rest : List ℕ) (b : ℕ) → Decodes byte m bytes b rest → b ≢ 0x40 → Rejects table_type m bytes → Rejects table_item m bytes
table_no_type bytes rest b h other n = one_of_rejects (mapped_rejects without_init n) (not_begun IsInitByte (mapped with_init (prefixed before_init typed)) init_begins h other)

-- A table with an initial value, after two bytes.
two_bytes : {m : Mode} (bytes rest after : List ℕ) (b c : ℕ) → Decodes byte m bytes b rest → b ≡ 0x40 → Decodes byte m rest c after → c ≡ 0x00 → bytes ≡ before_init ++ after
two_bytes bytes rest after b c h e g f =
    h.split ∙ ap (λ z. z ++ rest) h.encodes ∙ ap (λ z. b ∷ z) (g.split ∙ ap (λ z. z ++ after) g.encodes) ∙ ap (λ z. z ∷ c ∷ after) e ∙ ap (λ z. 0x40 ∷ z ∷ after) f

with_rejects : {m : Mode} (bytes rest : List ℕ) (b : ℕ) → Decodes byte m bytes b rest → b ≡ 0x40 → Rejects (prefixed before_init typed) m bytes → Rejects table_item m bytes
with_rejects bytes rest b h e n =
    one_of_rejects (not_begun IsTypeByte (mapped without_init table_type) (begins_mapped IsTypeByte without_init type_begins) h (λ l. omega (arith, l, e))) (mapped_rejects with_init n)

pub table_with : {m : Mode} (bytes rest after last : List ℕ) (b c : ℕ) (t : TableType) (is : List Plain) → Decodes byte m bytes b rest → b ≡ 0x40 → Decodes byte m rest c after → c ≡ 0x00 → Decodes typed m after (t, is) last
    → Decodes table_item m bytes (record { table_type = t; init = Some is }) last
table_with bytes rest after last b c t is h e g f k =
    one_of_right (mapped without_init table_type) (mapped_decodes with_init (prefixed_decodes before_init typed (two_bytes bytes rest after b c h e g f) k))

pub table_no_second : {m : Mode} (bytes rest : List ℕ) (b : ℕ) → Decodes byte m bytes b rest → b ≡ 0x40 → Rejects byte m rest → Rejects table_item m bytes
table_no_second {m = m} bytes rest b h e n = with_rejects bytes rest b h e (prefixed_other before_init typed none)
  where
    none : (q : List ℕ) → bytes ≡ before_init ++ q → ⊥
    none q s =
        let second : Decodes byte m rest 0x00 q = record { front = 0x00 ∷ []; split = tail (sym (h.split ∙ ap (λ z. z ++ rest) h.encodes) ∙ s); encodes = refl } in
        n.none 0x00 q second
      where
        tail : b ∷ rest ≡ 0x40 ∷ 0x00 ∷ q → rest ≡ 0x00 ∷ q
        tail e = cc e

pub table_other : {m : Mode} (bytes rest after : List ℕ) (b c : ℕ) → Decodes byte m bytes b rest → b ≡ 0x40 → Decodes byte m rest c after → c ≢ 0x00 → Rejects table_item m bytes
table_other bytes rest after b c h e g other = with_rejects bytes rest b h e (prefixed_other before_init typed none)
  where
    second : (q : List ℕ) → b ∷ c ∷ after ≡ 0x40 ∷ 0x00 ∷ q → c ≡ 0x00
    second q e = cc e

    none : (q : List ℕ) → bytes ≡ before_init ++ q → ⊥
    none q s = other (second q (sym (h.split ∙ ap (λ z. z ++ rest) h.encodes ∙ ap (λ z. b ∷ z) (g.split ∙ ap (λ z. z ++ after) g.encodes)) ∙ s))

pub table_no_with : {m : Mode} (bytes rest after : List ℕ) (b c : ℕ) → Decodes byte m bytes b rest → b ≡ 0x40 → Decodes byte m rest c after → c ≡ 0x00 → Rejects typed m after → Rejects table_item m bytes
table_no_with bytes rest after b c h e g f n = with_rejects bytes rest b h e (prefixed_rejects before_init typed (two_bytes bytes rest after b c h e g f) n)

pub ruleset table_steps = (table_other)

-- ---- decoded tables are well-formed

-- The numbers of the limits are in range.
pub record AreLimits (l : Limits) : Type 0 where
  pub minimum : l.minimum < 2 ^ 64
  pub maximum : IfSome l.maximum (λ n. n < 2 ^ 64)

limits_are : AllValues AreLimits limits
limits_are mode s l h = subst AreLimits h.1 (after h.0.0 h.2.back h.0.1 h.2.second)
  where
    after : (f : Flags) (s : List ℕ) (l : Limits) → after_limits_flags f mode s l → AreLimits l
    after f s l h = go f.has_page_size h
      where
        go : (page : Bool) → when page impossible (mapped (limits_of f) (pair u64 (optional f.has_maximum u64))) mode s l → AreLimits l
        go true k = absurd k
        go false k = subst AreLimits k.1 (record { minimum = k.2.first.range; maximum = optional_is (λ n. n < 2 ^ 64) u64 u64_is f.has_maximum mode k.2.back k.0.1 k.2.second })

pub table_is : AllValues IsTable table_type
table_is mode s t h = let l = limits_are mode h.2.back h.0.1 h.2.second in subst IsTable h.1 (record { element_type = ref_is mode h.2.front h.0.0 h.2.first; minimum = l.minimum; maximum = l.maximum })

-- ---- the one minimal encoding of a decoded table

-- The instructions of an initial value.
abbrev first_value : Option (List Plain) → List Plain
first_value None = []
first_value (Some is) = is

type_appended : (t : TableType) (old new : List ℕ) → new ≡ old ++ table_encoding t → AppendsMinimal builders_alone table_type t old new
type_appended t old new e = fitting_appended table_type IsTable table_encoding t old new (record { encodes = table_encodes }) table_is e

pub table_appended : (t : TableType) (old new : List ℕ) → new ≡ old ++ table_encoding t → AppendsMinimal builders_alone table_item (without_init t) old new
table_appended t old new e =
    let a = type_appended t old new e in
    record { encoding = a.encoding; appended = a.appended; encodes = encodes a }
  where
    encodes : (a : AppendsMinimal builders_alone table_type t old new) → IsMinimalEncoding builders_alone table_item (without_init t) a.encoding
    encodes a w q s (inl h) = inl (t, refl, a.encodes w q s (subst (λ z. table_type (padded_of w) s z) (ap (λ i. i.table_type) h.1) h.2))
    encodes a w q s (inr h) = absurd (cc (ap (λ i. i.init) h.1))

pub table_init_appended : (t : TableType) (init : List Plain) (old front middle new : List ℕ) → front ≡ old ++ before_init → middle ≡ front ++ table_encoding t → AppendsMinimal builders_alone expression init middle new → AppendsMinimal builders_alone table_item (with_init (t, init)) old new
table_init_appended t init old front middle new b e a =
    let both = prefixed_appended before_init (pair table_type expression) (t, init) old front new b (pair_appended table_type expression (type_appended t front middle e) a) in
    let is = mapped_appended with_init (prefixed before_init (pair table_type expression)) (t, init) old new (λ z k. ap (λ i. (i.table_type, first_value i.init)) k) both in
    record { encoding = is.encoding; appended = is.appended; encodes = encodes is }
  where
    encodes : (is : AppendsMinimal builders_alone (mapped with_init (prefixed before_init (pair table_type expression))) (with_init (t, init)) old new) → IsMinimalEncoding builders_alone table_item (with_init (t, init)) is.encoding
    encodes is w q s (inl h) = absurd (cc (ap (λ i. i.init) h.1))
    encodes is w q s (inr h) = inr (is.encodes w q s h)

pub table_init_encoded : (t : TableType) (init : List Plain) → HasEncoding builders_alone table_item (with_init (t, init)) → HasEncoding builders_alone expression init
table_init_encoded t init h = go h.grammar h.included h.bytes h.decoded
  where
    go : (w : Grammar) → Includes builders_alone w → (s : List ℕ) → table_item (padded_of w) s (with_init (t, init)) → HasEncoding builders_alone expression init
    go w q s (inl k) = absurd (cc (ap (λ i. i.init) k.1))
    go w q s (inr k) =
        right_encoded table_type expression t init
        (prefixed_encoded before_init (pair table_type expression) (t, init)
        (mapped_encoded with_init (prefixed before_init (pair table_type expression)) (t, init) (λ z e. ap (λ i. (i.table_type, first_value i.init)) e) (record { grammar = w; included = q; bytes = s; decoded = k })))
