-- This file proves what `covered` makes of a module, and why it fails.
use Rattle.wasm_base.proofs.Words.{◌≡◌, ◌≢◌, ◌⊎◌, ℕ, zero, suc, ◌+◌, ◌<◌, ◌^◌, List, [], ◌∷◌, ◌++◌, length, map, replicate, if◌then◌else◌, flat_map, flat_map-append}
use Rattle.wasm_base.proofs.Words.{Bool, true, false, ◌||◌, ◌==◌, Option, Some, None, Result, Ok, Err, OnOk, inl, inr, ⊤, refl, sym, ap, ap₂, subst, ◌∙◌, arith, add-one, append_assoc, append-nil}
use Rattle.wasm_base.proofs.Words.{map-append, length-append, length-map, eq-eqb, ne_eqb, AllByRecursion, AllZip, Format, minimal, padded, standard, Rejects, RejectsWhole, any_section, header, members}
use Rattle.wasm_base.proofs.Words.{size_prefixed, u32, unsigned_encoding, vec, wasm_module, IsEncodableSection, joined, decodes_same, name_unambiguous, u32_in, vec_of_pieces, Kind, ContainsItems, entry_encoding, SectionLaws}
use Rattle.wasm_base.proofs.Words.{content_encodable, entries_encodes, ascii, codes, IsUtf8, HasEncodableSize, size_prefixed_encoding}
use Rattle.std.proofs.Common.{IfErr, IsErrAnd, decimal}
use Rattle.std.proofs.lemmas.Bool.{or_parts}
use Rattle.std.proofs.lemmas.Fmt.{IsAscii-decimal}
use Rattle.std.proofs.lemmas.Str.{IsUtf8-append}
use Rattle.std.specs.declared.alloc.Global.{Global}
use Rattle.wasm_base.proofs.Std.{IsUtf8-from_ascii}
use Rattle.wasm_base.proofs.ModuleLaws.{module_whole, section_unambiguous}
use Rattle.wasm_base.specs.declared.refused.Refused.{Refused}
use Rattle.wasm_code.proofs.Words.{Body, body, normal_encodes, normal_row}
use Rattle.wasm_code.proofs.ExpressionLaws.{members_join, members_one}
use Rattle.wasm_insn.proofs.Words.{Plain, instruction, table, lists_whole, instruction_encoding, IsWellFormedInstruction}
use Rattle.wasm_insn.specs.Sink.{appended}
use Rattle.wasm_insn.specs.declared.instruction.Instruction.{Instruction}
use Rattle.wasm_reader.proofs.DecodeOutlines.{All-append, joined_more, no_module, one_section, sections_encodes, sections_read}
use Rattle.wasm_reader.specs.Iterating.{GivesError, GivesSection, Iterating, ahead}
use Rattle.wasm_reader.specs.Kinds.{Bodies, Globals}
use Rattle.wasm_reader.specs.Outlines.{HasSections, IsNameOf, kind_at}
use Rattle.wasm_reader.specs.Shortening.{contains_offsets}
use Rattle.wasm_reader.specs.Words.{Contents, content, number_in, Located, IsSection, Section, bytes_of, section_kind_of}
use Rattle.wasm_reader.specs.declared.read_error.ReadError.{ReadError}
use Rattle.wasm_remap.proofs.CountedImports.{imported_join}
use Rattle.wasm_remap.proofs.InsertLaws.{gains_members}
use Rattle.wasm_remap.specs.Begun.{GainsCode, InsertsCode}
use Rattle.wasm_remap.specs.Errors.{ExplainsCode, ExplainsInsert, HasFirst, HasSection}
use Rattle.wasm_remap.specs.Imported.{imported}
use Rattle.wasm_remap.specs.Inserted.{GainsMembers, InsertsSection, between, is_number}
use Rattle.wasm_remap.specs.Places.{IsFound, copied}
use Rattle.wasm_remap.specs.declared.indexed.RemapError.{RemapError}
use Rattle.wasm_remap.specs.declared.indexed.RemapError.TheVariants as edits
use Rattle.wasm_remap.specs.declared.insert.Position.TheVariants.{Last}
use Rattle.wasm_remap.specs.declared.shift.IndexTooLarge.{IndexTooLarge}
use Rattle.wasm_remap.specs.declared.spaces.IndexSpace.TheVariants as spaces
use Rattle.wasm_sections.proofs.Words.{adds_export, export, exports_section, global_item, import_format}
use Rattle.wasm_sections.specs.Exports.{ContainsExports}
use Rattle.wasm_sections.specs.Words.{ExportItem, GlobalItem, ImportItem}
use Rattle.wasm_sections.specs.declared.export.ExportKind.TheVariants as exported
use Rattle.examples.specs.Coverage.{IsCovered, counter, counter_export, counting, first_counter, counter_exports, names_counter, has_counter, payloads_of, DecodeTo, Items, HasItems, HoldsNoOffsets, IsCoverable, GainsAtEnd}
use Rattle.examples.specs.Coverage.{IsUnfit, IsMemory, IsErrorOf, IsAt, Explains, AreNumbers, HasNumbers, IsSum, ImportsNumbers, HasDecoding, ExplainsSection}
use Rattle.examples.specs.declared.coverage.CoverageError.{CoverageError}
use Rattle.examples.specs.declared.coverage.CoverageError.TheVariants as errors
use Rattle.examples.specs.declared.coverage.numbers.Numbers.{Numbers}

-- ---- results

-- What follows from the error of a call that is passed on.
pub passed_on : {T E : Type 0} {P Q : E → Type 0} (r : Result T E) → IsErrAnd r P → ((e : E) → P e → Q e) → IfErr r Q
passed_on (Ok x) h f = elim h [ ]
passed_on (Err e) h f = f e h

-- ---- counters

pub exports_push : (n function index f i : ℕ) → f ≡ function + n → i ≡ index + n → counter_exports function index n ++ counter_export f i ∷ [] ≡ counter_exports function index (n + 1)
exports_push n function index f i e d = ap₂ (λ a b. counter_exports function index n ++ counter_export a b ∷ []) e d ∙ ap (counter_exports function index) (sym (add-one n))

pub exports_long : (n function index : ℕ) → length (counter_exports function index n) ≡ n
exports_long zero function index = refl
exports_long (suc n) function index = omega (arith, length-append (counter_exports function index n) (counter_export (function + n) (index + n) ∷ []), exports_long n function index)

-- The section gains the export of a counter.
pub adds_counter : {old new : List (List ℕ)} {items : List ExportItem} (function index : ℕ) (text : List ℕ) → ContainsExports old items → text ≡ codes "coverage." ++ decimal function → new ≡ old ++ (size_prefixed_encoding text ++ (3 ∷ [] ++ unsigned_encoding index)) ∷ []
    → HasEncodableSize text → function < 2 ^ 32 → index < 2 ^ 32 → ContainsExports new (items ++ counter_export function index ∷ [])
adds_counter {new = new} {items = items} function index text before is e size small fits =
    let utf8 = IsUtf8-append (codes "coverage.") (decimal function) (ascii refl) (IsUtf8-from_ascii (decimal function) (IsAscii-decimal function (omega arith))) in
    let exports = λ (t : List ℕ). ContainsExports new (items ++ record { name = t; kind = exported.Global; index = index } ∷ []) in
    subst exports is (adds_export before (record { name = text; kind = exported.Global; index = index }) e size (subst IsUtf8 (sym is) utf8) fits)

-- ---- instructions

pub gains_nothing : {old new : List ℕ} → new ≡ old → GainsCode [] old new
gains_nothing {old = old} e = record { encoding = []; added = e ∙ sym (append-nil old); encodes = refl }

-- The bytes gain one more instruction.
pub gains_instruction : {code : List Plain} {old between new : List ℕ} (i : Instruction Global) → GainsCode code old between → new ≡ between ++ instruction_encoding i → IsWellFormedInstruction i → GainsCode (code ++ normal_row i ∷ []) old new
gains_instruction {code = code} {old = old} i h e plain =
    let one = members_one (instruction table) minimal (instruction_encoding i) (normal_row i) (normal_encodes i plain) in
    let included = lists_whole.encodings.included in
    let last = included padded standard tt (instruction_encoding i) (normal_row i ∷ []) (included minimal padded tt (instruction_encoding i) (normal_row i ∷ []) one) in
    record {
      encoding = h.encoding ++ instruction_encoding i;
      added = e ∙ ap (λ s. s ++ instruction_encoding i) h.added ∙ append_assoc old h.encoding (instruction_encoding i);
      encodes = members_join (instruction table) standard h.encoding (instruction_encoding i) code (normal_row i ∷ []) h.encodes last;
    }

pub gains_last : {code : List Plain} {old between last new : List ℕ} (i : Instruction Global) (r : Result (Unit {0}) Refused) → GainsCode code old between → last ≡ appended r between (instruction_encoding i) → new ≡ last → IsWellFormedInstruction i → OnOk r (GainsCode (code ++ normal_row i ∷ []) old new)
gains_last i (Ok u) h e same plain = gains_instruction i h (same ∙ e) plain
gains_last i (Err f) h e same plain = tt

-- An equal counter.
pub counts_at : (old new : List ℕ) {index sum : ℕ} (r : Result (Unit {0}) Refused) → index ≡ sum → OnOk r (GainsCode (counting index) old new) → OnOk r (GainsCode (counting sum) old new)
counts_at old new r e h = subst (λ i. OnOk r (GainsCode (counting i) old new)) e h

-- ---- names of exports

or_join : (a b c : Bool) → a || (b || c) ≡ (a || b) || c
or_join true b c = refl
or_join false b c = refl

names_join : (xs ys : List ExportItem) → has_counter (xs ++ ys) ≡ has_counter xs || has_counter ys
names_join [] ys = refl
names_join (x ∷ xs) ys = ap (λ b. names_counter x || b) (names_join xs ys) ∙ or_join (names_counter x) (has_counter xs) (has_counter ys)

names_split : (xs ys : List ExportItem) → has_counter (xs ++ ys) ≡ false → (has_counter xs ≡ false) × (has_counter ys ≡ false)
names_split xs ys h = or_parts (has_counter xs) (has_counter ys) (sym (names_join xs ys) ∙ h)

-- ---- items

if_join : (b : Bool) (p : List ℕ) (xs ys : List (List ℕ)) → (if b then p ∷ (xs ++ ys) else (xs ++ ys)) ≡ (if b then p ∷ xs else xs) ++ ys
if_join true p xs ys = refl
if_join false p xs ys = refl

payloads_join : (id : ℕ) (xs ys : List (ℕ × List ℕ)) → payloads_of id (xs ++ ys) ≡ payloads_of id xs ++ payloads_of id ys
payloads_join id [] ys = refl
payloads_join id (s ∷ xs) ys = ap (λ z. if s.0 == id then s.1 ∷ z else z) (payloads_join id xs ys) ∙ if_join (s.0 == id) s.1 (payloads_of id xs) (payloads_of id ys)

decode_join : {X : Type 0} (F : Format X) (ps qs : List (List ℕ)) (xs ys : List X) → DecodeTo F ps xs → DecodeTo F qs ys → DecodeTo F (ps ++ qs) (xs ++ ys)
decode_join F [] qs xs ys h g = subst (λ z. DecodeTo F qs (z ++ ys)) (sym h) g
decode_join F (p ∷ ps) qs xs ys h g = (h.0, h.1 ++ ys, ap (λ z. z ++ ys) h.2 ∙ append_assoc h.0 h.1 ys, h.3, decode_join F ps qs h.1 ys h.4 g)

-- The items of some sections and of others.
sections_join : {X : Type 0} (F : Format X) (id : ℕ) (ss ts : List (ℕ × List ℕ)) (xs ys : List X) → DecodeTo F (payloads_of id ss) xs → DecodeTo F (payloads_of id ts) ys → DecodeTo F (payloads_of id (ss ++ ts)) (xs ++ ys)
sections_join F id ss ts xs ys h g = subst (λ ps. DecodeTo F ps (xs ++ ys)) (sym (payloads_join id ss ts)) (decode_join F (payloads_of id ss) (payloads_of id ts) xs ys h g)

-- The numbers of a module of some sections and of others.
numbers_join : {a b c : Numbers} (ss ts : List (ℕ × List ℕ)) → AreNumbers ss a → AreNumbers ts b → IsSum a b c → AreNumbers (ss ++ ts) c
numbers_join ss ts a b s =
    let x = a.items in
    let y = b.items in
    record {
      items = record { imports = x.imports ++ y.imports; globals = x.globals ++ y.globals; exports = x.exports ++ y.exports; bodies = x.bodies ++ y.bodies };
      has_items = record {
        imports = sections_join import_format 2 ss ts x.imports y.imports a.has_items.imports b.has_items.imports;
        globals = sections_join global_item 6 ss ts x.globals y.globals a.has_items.globals b.has_items.globals;
        exports = sections_join export 7 ss ts x.exports y.exports a.has_items.exports b.has_items.exports;
        bodies = sections_join (size_prefixed body) 10 ss ts x.bodies y.bodies a.has_items.bodies b.has_items.bodies;
      };
      no_offsets = All-append HoldsNoOffsets ss ts a.no_offsets b.no_offsets;
      new_names = names_join x.exports y.exports ∙ ap₂ (λ p q. p || q) a.new_names b.new_names;
      function = omega (arith, s.function, a.function, b.function, imported_join spaces.Functions x.imports y.imports);
      counter = omega (arith, s.counter, a.counter, b.counter, imported_join spaces.Globals x.imports y.imports, length-append x.globals y.globals);
      bodies = omega (arith, s.bodies, a.bodies, b.bodies, length-append x.bodies y.bodies);
    }

-- What all members have, one of them has.
at_member : {X : Type 0} (P : X → Type 0) (before : List X) (x : X) (after : List X) → AllByRecursion P (before ++ x ∷ after) → P x
at_member P [] x after h = h.0
at_member P (y ∷ before) x after h = at_member P before x after h.1

-- Each section of the id decodes to some of the items. They have what the items have, if that holds
-- of each part of a list.
each_decodes : {X : Type 0} (F : Format X) (Q : List X → Type 0) → ((xs ys : List X) → Q (xs ++ ys) → Q xs × Q ys) → (id : ℕ) (ss : List (ℕ × List ℕ)) (items : List X) → DecodeTo F (payloads_of id ss) items → Q items
    → AllByRecursion (λ s. s.0 ≡ id → (xs : List X) × vec F standard s.1 xs × Q xs) ss
each_decodes F Q split id [] items h q = tt
each_decodes {X} F Q split id (s ∷ ss) items h q = go (s.0 == id) refl h (λ xs g p. each_decodes F Q split id ss xs g p)
  where
    Has : ℕ × List ℕ → Type 0
    Has t = t.0 ≡ id → (xs : List X) × vec F standard t.1 xs × Q xs

    differ : false ≡ true → ⊥
    differ e = cc e

    go : (b : Bool) → (s.0 == id) ≡ b → DecodeTo F (if b then s.1 ∷ payloads_of id ss else payloads_of id ss) items → ((xs : List X) → DecodeTo F (payloads_of id ss) xs → Q xs → AllByRecursion Has ss) → Has s × AllByRecursion Has ss
    go true e h more =
        let parts = split h.0 h.1 (subst Q h.2 q) in
        (λ same. (h.0, h.3, parts.0), more h.1 h.4 parts.1)
    go false e h more = (λ same. absurd (differ (sym e ∙ eq-eqb s.0 id same)), more items h q)

-- The same of one of the sections.
decoded_at : {X : Type 0} (F : Format X) (Q : List X → Type 0) → ((xs ys : List X) → Q (xs ++ ys) → Q xs × Q ys) → (id : ℕ) {ss : List (ℕ × List ℕ)} (items : List X) → DecodeTo F (payloads_of id ss) items → Q items
    → (before : List (ℕ × List ℕ)) (s : ℕ × List ℕ) (after : List (ℕ × List ℕ)) → ss ≡ before ++ s ∷ after → s.0 ≡ id → (xs : List X) × vec F standard s.1 xs × Q xs
decoded_at {X} F Q split id {ss = ss} items h q before s after e =
    let Has = λ (t : ℕ × List ℕ). t.0 ≡ id → (xs : List X) × vec F standard t.1 xs × Q xs in
    at_member Has before s after (subst (AllByRecursion Has) e (each_decodes F Q split id ss items h q))

-- Each section of a module that decodes does.
decoding_at : {ss : List (ℕ × List ℕ)} {items : Items} (before : List (ℕ × List ℕ)) (s : ℕ × List ℕ) (after : List (ℕ × List ℕ)) → ss ≡ before ++ s ∷ after → HasItems ss items → HasDecoding s
decoding_at {ss = ss} {items = items} before s after e h =
    record { imports = at import_format 2 items.imports h.imports; globals = at global_item 6 items.globals h.globals; exports = at export 7 items.exports h.exports; bodies = at (size_prefixed body) 10 items.bodies h.bodies }
  where
    at : {X : Type 0} (F : Format X) (id : ℕ) (xs : List X) → DecodeTo F (payloads_of id ss) xs → s.0 ≡ id → (ys : List X) × vec F standard s.1 ys
    at F id xs d same =
        let found = decoded_at F (λ ys. ⊤) (λ ys zs q. (tt, tt)) id xs d tt before s after e same in
        (found.0, found.1)

-- ---- one section

-- A section whose id is not 0 has no name, so the id determines its kind.
pub content_at : {s : Section} (x : Contents) (k : ℕ) → IsSection s → s.id ≡ suc k → content (section_kind_of s) standard s.payload x → content (kind_at (suc k) None) standard s.payload x
content_at {s = s} x k is e h = go s.name is.named h
  where
    go : (n : Option (List ℕ)) → IsNameOf s.id s.payload n → content (kind_at s.id n) standard s.payload x → content (kind_at (suc k) None) standard s.payload x
    go None h = subst (λ i. content (kind_at i None) standard s.payload x) e
    go (Some n) h = absurd (cc (e, h.0))

pub rejected_at : {s : Section} {X : Type 0} (F : Format X) (say : X → Contents) (k : ℕ) → IsSection s → s.id ≡ suc k → ((x : X) → F standard s.payload x → content (kind_at (suc k) None) standard s.payload (say x)) → RejectsWhole (content (section_kind_of s)) standard s.payload → (x : X) → F standard s.payload x → ⊥
rejected_at {s = s} F say k is e into n x h = go s.name is.named n
  where
    go : (m : Option (List ℕ)) → IsNameOf s.id s.payload m → RejectsWhole (content (kind_at s.id m)) standard s.payload → ⊥
    go None named n = n.none (say x) (subst (λ i. content (kind_at i None) standard s.payload (say x)) (sym e) (into x h))
    go (Some m) named n = absurd (cc (e, named.0))

-- The items of a section of this id, and of another one.
of_this : {X : Type 0} (F : Format X) (id : ℕ) (s : ℕ × List ℕ) (xs : List X) → s.0 ≡ id → vec F standard s.1 xs → DecodeTo F (payloads_of id (s ∷ [])) xs
of_this F id s xs e h = subst (λ b. DecodeTo F (if b then s.1 ∷ [] else []) xs) (sym (eq-eqb s.0 id e)) (xs, [], sym (append-nil xs), h, refl)

of_other : {X : Type 0} (F : Format X) (id : ℕ) (s : ℕ × List ℕ) → s.0 ≢ id → DecodeTo F (payloads_of id (s ∷ [])) []
of_other F id s n = subst (λ b. DecodeTo F (if b then s.1 ∷ [] else []) []) (sym (ne_eqb s.0 id n)) refl

-- A section whose name says so holds no offsets.
holds_none : (s : Section) → IsSection s → contains_offsets s.name ≡ false → HoldsNoOffsets (copied s)
holds_none s is free n rest e d = go s.name is.named free
  where
    go : (m : Option (List ℕ)) → IsNameOf s.id s.payload m → contains_offsets m ≡ false → contains_offsets (Some n) ≡ false
    go None h f = absurd ((h e).none n rest d)
    go (Some m) h f = ap (λ z. contains_offsets (Some z)) (decodes_same name_unambiguous d h.2).0 ∙ f

pub no_numbers : (f c b : ℕ) → f ≡ 0 → c ≡ 0 → b ≡ 0 → AreNumbers [] (record { function = f; counter = c; bodies = b })
no_numbers f c b e g h = record {
  items = record { imports = []; globals = []; exports = []; bodies = [] };
  has_items = record { imports = refl; globals = refl; exports = refl; bodies = refl };
  no_offsets = tt;
  new_names = refl;
  function = e;
  counter = g;
  bodies = h;
}

module _ (s : Section) (is : IsSection s) (free : contains_offsets s.name ≡ false) where
  abbrev row : ℕ × List ℕ
  row = copied s

  abbrev Of : {X : Type 0} → Format X → ℕ → List X → Type 0
  Of F id xs = DecodeTo F (payloads_of id (row ∷ [])) xs

  alone : {n : Numbers} (i : List ImportItem) (g : List GlobalItem) (e : List ExportItem) (b : List Body) → Of import_format 2 i → Of global_item 6 g → Of export 7 e → Of (size_prefixed body) 10 b
      → has_counter e ≡ false → n.function ≡ imported spaces.Functions i → n.counter ≡ imported spaces.Globals i + length g → n.bodies ≡ length b → AreNumbers (row ∷ []) n
  alone i g e b imports globals exports bodies new function counter number =
      record {
        items = record { imports = i; globals = g; exports = e; bodies = b };
        has_items = record { imports = imports; globals = globals; exports = exports; bodies = bodies };
        no_offsets = (holds_none s is free, tt);
        new_names = new;
        function = function;
        counter = counter;
        bodies = number;
      }

  not : {X : Type 0} (F : Format X) (id k : ℕ) → s.id ≡ k → k ≢ id → Of F id []
  not F id k e n = of_other F id row (λ z. n (sym e ∙ z))

  pub imports_numbers : {n : Numbers} → s.id ≡ 2 → ImportsNumbers s.payload n → AreNumbers (row ∷ []) n
  imports_numbers e h =
      alone h.imports [] [] [] (of_this import_format 2 row h.imports e h.decodes) (not global_item 6 2 e (λ z. omega (arith, z))) (not export 7 2 e (λ z. omega (arith, z))) (not (size_prefixed body) 10 2 e (λ z. omega (arith, z)))
      refl h.function (omega (arith, h.counter)) h.bodies

  pub globals_numbers : (n : ℕ) (x : Contents) → s.id ≡ 6 → content (section_kind_of s) standard s.payload x → number_in x ≡ Some n → AreNumbers (row ∷ []) (record { function = 0; counter = n; bodies = 0 })
  globals_numbers n x e h counted =
      let items : (xs : List GlobalItem) × (Globals xs ≡ x) × vec global_item standard s.payload xs = content_at x 5 is e h in
      let long : Some (length items.0) ≡ Some n = ap number_in items.1 ∙ counted in
      let same : length items.0 ≡ n = cc long in
      alone [] items.0 [] [] (not import_format 2 6 e (λ z. omega (arith, z))) (of_this global_item 6 row items.0 e items.2) (not export 7 6 e (λ z. omega (arith, z))) (not (size_prefixed body) 10 6 e (λ z. omega (arith, z)))
      refl refl (omega (arith, same)) refl

  pub exports_numbers : (xs : List ExportItem) → s.id ≡ 7 → vec export standard s.payload xs → has_counter xs ≡ false → AreNumbers (row ∷ []) (record { function = 0; counter = 0; bodies = 0 })
  exports_numbers xs e h new =
      alone [] [] xs [] (not import_format 2 7 e (λ z. omega (arith, z))) (not global_item 6 7 e (λ z. omega (arith, z))) (of_this export 7 row xs e h) (not (size_prefixed body) 10 7 e (λ z. omega (arith, z))) new refl refl refl

  pub bodies_numbers : (n : ℕ) (x : Contents) → s.id ≡ 10 → content (section_kind_of s) standard s.payload x → number_in x ≡ Some n → AreNumbers (row ∷ []) (record { function = 0; counter = 0; bodies = n })
  bodies_numbers n x e h counted =
      let items : (xs : List Body) × (Bodies xs ≡ x) × vec (size_prefixed body) standard s.payload xs = content_at x 9 is e h in
      let long : Some (length items.0) ≡ Some n = ap number_in items.1 ∙ counted in
      alone [] [] [] items.0 (not import_format 2 10 e (λ z. omega (arith, z))) (not global_item 6 10 e (λ z. omega (arith, z))) (not export 7 10 e (λ z. omega (arith, z))) (of_this (size_prefixed body) 10 row items.0 e items.2) refl refl refl (cc long)

  pub other_numbers : s.id ≢ 2 → s.id ≢ 6 → s.id ≢ 7 → s.id ≢ 10 → AreNumbers (row ∷ []) (record { function = 0; counter = 0; bodies = 0 })
  other_numbers a b c d = alone [] [] [] [] (of_other import_format 2 row a) (of_other global_item 6 row b) (of_other export 7 row c) (of_other (size_prefixed body) 10 row d) refl refl refl refl

-- ---- modules

-- A section at the front of the bytes is the first one.
rows_next : (s : Section) (rest : List ℕ) (ss : List (ℕ × List ℕ)) → IsSection s → members any_section padded (bytes_of s ++ rest) ss → (others : List (ℕ × List ℕ)) × (ss ≡ copied s ∷ others) × members any_section padded rest others
rows_next s rest [] is h = absurd (cc h)
rows_next s rest (r ∷ ss) is h =
    let same = section_unambiguous.unique padded (bytes_of s) h.0 rest h.1 (copied s) r (one_section s is) h.3 h.2 in
    (ss, ap (λ x. x ∷ ss) (sym same.0), subst (λ z. members any_section padded z ss) (sym same.2) h.4)

rows_begin : (before : List Section) (rest : List ℕ) (ss : List (ℕ × List ℕ)) → AllByRecursion IsSection before → members any_section padded (flat_map bytes_of before ++ rest) ss → (others : List (ℕ × List ℕ)) × (ss ≡ map copied before ++ others) × members any_section padded rest others
rows_begin [] rest ss each h = (ss, refl, h)
rows_begin (s ∷ before) rest ss each h =
    let first = rows_next s (flat_map bytes_of before ++ rest) ss each.0 (subst (λ z. members any_section padded z ss) (append_assoc (bytes_of s) (flat_map bytes_of before) rest) h) in
    let more = rows_begin before rest first.0 each.1 first.2 in
    (more.0, first.1 ∙ ap (λ z. copied s ∷ z) more.1, more.2)

same_rest : (a b : List ℕ) → header ++ a ≡ header ++ b → a ≡ b
same_rest a b e = cc e

-- A section at an offset of a module is one of its sections.
rows_at : {bytes : List ℕ} {s : Section} {ss : List (ℕ × List ℕ)} (has : HasSection bytes s) → wasm_module padded bytes ss → (others : List (ℕ × List ℕ)) × (ss ≡ map copied has.before ++ copied s ∷ others)
rows_at {s = s} {ss = ss} has h =
    let t = h.2 in
    let rest = bytes_of s ++ has.after in
    let same = same_rest _ t.back (sym has.joined ∙ t.joined ∙ ap (λ z. z ++ t.back) t.first.0) in
    let found = rows_begin has.before rest ss has.each (subst (λ z. members any_section padded z ss) (sym same) (subst (λ z. members any_section padded t.back z) h.1 t.second)) in
    let next = rows_next s has.after found.0 has.is_section found.2 in
    (next.0, found.1 ∙ ap (λ z. map copied has.before ++ z) next.1)

module_read : {bytes : List ℕ} {ss : List Section} → HasSections bytes ss → wasm_module padded bytes (map copied ss)
module_read {ss = ss} h = ((tt, map copied ss), refl, record { front = header; back = flat_map bytes_of ss; joined = h.joined; first = (refl, refl); second = sections_encodes ss h.each })

-- The iterator has returned some sections, whose numbers these are.
pub record HasRead (bytes : List ℕ) (it : Iterating) (n : Numbers) : Type 0 where
  pub sections : List Section
  pub joined : bytes ≡ header ++ (flat_map bytes_of sections ++ ahead it)
  pub each : AllByRecursion IsSection sections
  pub offset : it.offset ≡ length header + length (flat_map bytes_of sections)
  pub numbers : AreNumbers (map copied sections) n

pub read_none : {bytes : List ℕ} {it : Iterating} {n : Numbers} → bytes ≡ header ++ ahead it → it.offset ≡ length header → AreNumbers [] n → HasRead bytes it n
read_none e offset n = record { sections = []; joined = e; each = tt; offset = omega (arith, offset); numbers = n }

module _ {bytes : List ℕ} {old new : Iterating} {s : Located} {a : Numbers} (h : HasRead bytes old a) (g : GivesSection old s new) where
  pub read_more : {b c : Numbers} → AreNumbers (copied s.section ∷ []) b → IsSum a b c → HasRead bytes new c
  read_more {c = c} b sums =
      let all = h.sections ++ s.section ∷ [] in
      let bytes_are : flat_map bytes_of all ≡ flat_map bytes_of h.sections ++ (bytes_of s.section ++ []) = flat_map-append bytes_of h.sections (s.section ∷ []) in
      let long : length (flat_map bytes_of all) ≡ length (flat_map bytes_of h.sections) + length (bytes_of s.section) =
      ap length (bytes_are ∙ ap (λ z. flat_map bytes_of h.sections ++ z) (append-nil (bytes_of s.section))) ∙ length-append (flat_map bytes_of h.sections) (bytes_of s.section) in
      record {
        sections = all;
        joined = h.joined ∙ ap (λ z. header ++ z) (joined_more bytes_of _ (ahead old) (ahead new) h.sections s.section refl g.split);
        each = All-append IsSection h.sections (s.section ∷ []) h.each (g.is_section, tt);
        offset = omega (arith, g.after, g.offset, h.offset, long);
        numbers = subst (λ l. AreNumbers l c) (sym (map-append copied h.sections (s.section ∷ []))) (numbers_join (map copied h.sections) (copied s.section ∷ []) h.numbers b sums);
      }

  abbrev at_section : IsAt s.offset bytes s.section
  at_section = record {
    has = record { before = h.sections; after = ahead new; joined = h.joined ∙ ap (λ z. header ++ (flat_map bytes_of h.sections ++ z)) g.split; each = h.each; is_section = g.is_section };
    at = g.offset ∙ h.offset;
  }

  -- Why the section is not covered is why the module is not.
  pub explained : (e : CoverageError) → ExplainsSection s e → Explains bytes e
  explained (errors.Read e) x = λ n d.
      let at = rows_at at_section.has d.read in
      x n (decoding_at (map copied h.sections) (copied s.section) at.0 at.1 d.has_items)
  explained (errors.Offsets offset) x = (s.section, subst (λ o. IsAt o bytes s.section) (sym x.0) at_section, x.1)
  explained (errors.Taken offset) x = (s.section, subst (λ o. IsAt o bytes s.section) (sym x.0) at_section, x.1)
  explained errors.TooLong x = absurd x

pub malformed : {bytes : List ℕ} {old new : Iterating} {e : ReadError} {a : Numbers} → HasRead bytes old a → GivesError old e new → Explains bytes (errors.Read e)
malformed {bytes = bytes} {old = old} h g = λ n d. (no_module bytes _ (ahead old) _ h.joined (sections_read _ (ahead old) h.sections h.each refl) g.more (g.none n)).none d.sections d.read

pub all_read : {bytes : List ℕ} {it : Iterating} {n : Numbers} → length bytes < 2 ^ 28 → HasRead bytes it n → ahead it ≡ [] → HasNumbers bytes n
all_read short h e =
    let joined = h.joined ∙ ap (λ z. header ++ (flat_map bytes_of h.sections ++ z)) e ∙ ap (λ z. header ++ z) (append-nil (flat_map bytes_of h.sections)) in
    record { short = short; sections = map copied h.sections; read = module_read (record { joined = joined; each = h.each }); numbers = h.numbers }

abbrev pub coverable : {bytes : List ℕ} {n : Numbers} → HasNumbers bytes n → IsCoverable bytes
coverable h = record { short = h.short; decodable = record { sections = h.sections; read = h.read; items = h.numbers.items; has_items = h.numbers.has_items }; no_offsets = h.numbers.no_offsets; new_names = h.numbers.new_names }

pub is_covered : {bytes with_globals with_exports new : List ℕ} {n : Numbers} → HasNumbers bytes n → GainsAtEnd 6 global_item (replicate n.bodies counter) bytes with_globals → GainsAtEnd 7 export (counter_exports n.function n.counter n.bodies) with_globals with_exports
    → InsertsCode (λ i. counting (n.counter + i)) with_exports new → IsCovered bytes new
is_covered {bytes = bytes} {with_globals = with_globals} {with_exports = with_exports} {new = new} {n = n} h globals exports bodies =
    let k = h.numbers in
    let Exports = λ (f c m : ℕ). GainsAtEnd 7 export (counter_exports f c m) with_globals with_exports in
    record {
      old = coverable h;
      with_globals = with_globals;
      globals = subst (λ m. GainsAtEnd 6 global_item (replicate m counter) bytes with_globals) k.bodies globals;
      with_exports = with_exports;
      exports = subst (λ f. Exports f (first_counter k.items) (length k.items.bodies)) k.function (subst (λ c. Exports n.function c (length k.items.bodies)) k.counter (subst (Exports n.function n.counter) k.bodies exports));
      bodies = subst (λ c. InsertsCode (λ i. counting (c + i)) with_exports new) k.counter bodies;
    }

-- ---- a module that cannot be covered

holds_some : (s : Section) → IsSection s → contains_offsets s.name ≡ true → HoldsNoOffsets (copied s) → ⊥
holds_some s is some none = go s.name is.named some
  where
    differ : false ≡ true → ⊥
    differ e = cc e

    go : (m : Option (List ℕ)) → IsNameOf s.id s.payload m → contains_offsets m ≡ true → ⊥
    go None h f = differ f
    go (Some n) h f = differ (sym (none n h.1 h.0 h.2) ∙ f)

-- Such an error says that the module cannot be covered.
pub not_coverable : {bytes : List ℕ} (e : CoverageError) → Explains bytes e → IsUnfit e → IsCoverable bytes → ⊥
not_coverable (errors.Read e) x u c = u
not_coverable (errors.Offsets offset) x u c =
    let has = x.1.has in
    let at = rows_at has c.decodable.read in
    holds_some x.0 has.is_section x.2 (at_member HoldsNoOffsets (map copied has.before) (copied x.0) at.0 (subst (AllByRecursion HoldsNoOffsets) at.1 c.no_offsets))
not_coverable (errors.Taken offset) x u c =
    let has = x.1.has in
    let at = rows_at has c.decodable.read in
    let d = c.decodable in
    let taken = x.2 in
    let free = decoded_at export (λ xs. has_counter xs ≡ false) names_split 7 d.items.exports d.has_items.exports c.new_names (map copied has.before) (copied x.0) at.0 at.1 taken.0 in
    let same = exports_section.whole.whole standard x.0.payload free.0 taken.1 free.1 taken.2 in
    let both : false ≡ true = sym free.2 ∙ ap has_counter same ∙ taken.3 in
    absurd (cc both)
not_coverable errors.TooLong x u c = omega (arith, x, c.short)

-- A failed allocation explains nothing.
pub memory_explained : (bytes : List ℕ) (e : CoverageError) → IsMemory e → Explains bytes e
memory_explained bytes (errors.Read e) h = λ n. absurd (n h)
memory_explained bytes e h = absurd h

pub memory_fits : {P : Type 0} (e : CoverageError) → IsMemory e → IsUnfit e → P
memory_fits (errors.Read e) h u = absurd u
memory_fits e h u = absurd h

pub edit_fits : {P : Type 0} (edit : RemapError IndexTooLarge) (e : CoverageError) → IsErrorOf edit e → IsUnfit e → P
edit_fits (edits.Read fault) e h u = absurd (subst IsUnfit h u)
edit_fits edit e h u = memory_fits e h u

-- ---- inserted sections

-- The payload of a builder that contains these items.
contained_payload : {Record Item : Type 0} {kind : Kind Record Item} → SectionLaws kind (vec kind.format) → (pieces : List (List ℕ)) (items : List Item) → IsEncodableSection pieces → ContainsItems kind pieces items → vec kind.format standard (unsigned_encoding (length pieces) ++ joined pieces) items
contained_payload {kind = kind} laws pieces items fits c =
    let held = map (entry_encoding kind.encoding) c.entries in
    let fit = subst IsEncodableSection c.held fits in
    let payload = λ (ps : List (List ℕ)). unsigned_encoding (length ps) ++ joined ps in
    let encodes = vec_of_pieces minimal kind.format held items fit.count (entries_encodes kind laws.items c.entries items (content_encodable held fit) c.meant) in
    let included = laws.whole.encodings.included in
    subst (λ ps. vec kind.format standard (payload ps) items) (sym c.held) (included padded standard tt (payload held) items (included minimal padded tt (payload held) items encodes))

pub gains_at_end : {Record Item : Type 0} {kind : Kind Record Item} → SectionLaws kind (vec kind.format) → (id : ℕ) (pieces : List (List ℕ)) (items : List Item) {bytes new : List ℕ} → is_number id ≡ false → IsEncodableSection pieces → ContainsItems kind pieces items
    → InsertsSection Last id (unsigned_encoding (length pieces) ++ joined pieces) bytes new → GainsAtEnd id kind.format items bytes new
gains_at_end {kind = kind} laws id pieces items plain fits contains inserts =
    let decodes = contained_payload laws pieces items fits contains in
    record { payload = unsigned_encoding (length pieces) ++ joined pieces; decodes = decodes; inserts = inserts; gains = gains_members kind.format Last id items plain decodes inserts }

-- ---- errors of edits

-- The bytes are a module, and the payload of each section of this id has the property.
pub record Each (id : ℕ) (P : List ℕ → Type 0) (bytes : List ℕ) : Type 0 where
  pub sections : List (ℕ × List ℕ)
  pub read : wasm_module padded bytes sections
  pub each : AllByRecursion (λ s. s.0 ≡ id → P s.1) sections

both_parts : {X : Type 0} (P : X → Type 0) (xs ys : List X) → AllByRecursion P (xs ++ ys) → AllByRecursion P xs × AllByRecursion P ys
both_parts P [] ys h = (tt, h)
both_parts P (x ∷ xs) ys h =
    let parts = both_parts P xs ys h.1 in
    ((h.0, parts.0), parts.1)

module _ {id : ℕ} {P : List ℕ → Type 0} {bytes : List ℕ} (h : Each id P bytes) where
  abbrev Has : ℕ × List ℕ → Type 0
  Has s = s.0 ≡ id → P s.1

  -- The same, of other lists of the module's sections.
  each_split : {olds : List Section} (before after : List Section) → HasSections bytes olds → olds ≡ before ++ after → AllByRecursion Has (map copied before) × AllByRecursion Has (map copied after)
  each_split {olds = olds} before after has e =
      let same : h.sections ≡ map copied before ++ map copied after = module_whole.whole padded bytes h.sections (map copied olds) h.read (module_read has) ∙ ap (map copied) e ∙ map-append copied before after in
      both_parts Has (map copied before) (map copied after) (subst (AllByRecursion Has) same h.each)

  -- The first section of the id has it.
  first_has : {Q : Section → Type 0} (first : HasFirst id bytes Q) → P first.section.payload
  first_has first = (each_split first.before (first.section ∷ first.after) first.has first.found.split).1.0 first.found.is

  -- It stays when a section of another id gains members.
  pub each_stays : {X : Type 0} {F : Format X} {xs : List X} {other : ℕ} {new : List ℕ} → other ≢ id → GainsMembers Last other F xs bytes new → Each id P new
  each_stays {other = other} differs g =
      let parts = go g.members in
      record {
        sections = between g.before other g.payload g.after;
        read = module_whole.encodings.included minimal padded tt _ _ g.decodes.encodes;
        each = All-append Has (map copied g.before) ((other, g.payload) ∷ map copied g.after) parts.0 (λ e. absurd (differs e), parts.1);
      }
    where
      go : {M : Section → Type 0} {N O : Type 0} → ((section : Section) × IsFound other g.before section g.after g.olds × M section) ⊎ ((g.olds ≡ g.before ++ g.after) × N × O) → AllByRecursion Has (map copied g.before) × AllByRecursion Has (map copied g.after)
      go (inl m) =
          let parts = each_split g.before (m.0 ∷ g.after) g.has m.1.split in
          (parts.0, parts.1.1)
      go (inr m) = each_split g.before g.after g.has m.0

abbrev pub IsDecoded : {X : Type 0} → Format X → List ℕ → Type 0
IsDecoded {X} F payload = (xs : List X) × vec F standard payload xs × ⊤

pub each_item : {X : Type 0} {bytes : List ℕ} (F : Format X) (id : ℕ) (ss : List (ℕ × List ℕ)) (items : List X) → wasm_module padded bytes ss → DecodeTo F (payloads_of id ss) items → Each id (IsDecoded F) bytes
each_item F id ss items read h = record { sections = ss; read = read; each = each_decodes F (λ xs. ⊤) (λ xs ys q. (tt, tt)) id ss items h tt }

-- A vector begins with its count.
no_count : {X : Type 0} {F : Format X} {payload : List ℕ} {xs : List X} → vec F standard payload xs → Rejects u32 standard payload → ⊥
no_count {xs = xs} h n = n.none (length xs) h.back (record { front = h.front; split = h.joined; encodes = h.first })

zip_long : {X Y : Type 0} (R : X → Y → Type 0) (xs : List X) (ys : List Y) → AllZip R xs ys → length xs ≡ length ys
zip_long R [] [] h = refl
zip_long R [] (y ∷ ys) h = absurd h
zip_long R (x ∷ xs) [] h = absurd h
zip_long R (x ∷ xs) (y ∷ ys) h = ap suc (zip_long R xs ys h.1)

-- The payload of a builder begins with a count.
counted : {Record Item : Type 0} {kind : Kind Record Item} (pieces : List (List ℕ)) (items : List Item) → ContainsItems kind pieces items → length items < 2 ^ 32 → Rejects u32 standard (unsigned_encoding (length pieces) ++ joined pieces) → ⊥
counted {kind = kind} pieces items c few n =
    let long : length pieces ≡ length items = ap length c.held ∙ length-map c.entries (entry_encoding kind.encoding) ∙ zip_long _ c.entries items c.meant in
    n.none (length pieces) (joined pieces) (record { front = unsigned_encoding (length pieces); split = refl; encodes = u32_in standard (length pieces) (omega (arith, few, long)) })

-- Where all sections decode, an edit fails only if an allocation does.
pub insert_explained : {Record Item X : Type 0} {kind : Kind Record Item} {F : Format X} (Encodable : Type 0) {bytes : List ℕ} (original : List ℕ) (id : ℕ) (pieces : List (List ℕ)) (items : List Item) (edit : RemapError IndexTooLarge) (e : CoverageError)
    → Each id (IsDecoded F) bytes → ContainsItems kind pieces items → length items < 2 ^ 32 → ExplainsInsert Last id Encodable (unsigned_encoding (length pieces) ++ joined pieces) bytes edit → IsErrorOf edit e → Explains original e
insert_explained Encodable original id pieces items (edits.Read fault) e each contains few (inl none) is = absurd (none.none each.sections each.read)
insert_explained Encodable original id pieces items (edits.Read fault) e each contains few (inr first) is = absurd (go first.property)
  where
    go : Rejects u32 standard (unsigned_encoding (length pieces) ++ joined pieces) ⊎ Rejects u32 standard first.section.payload → ⊥
    go (inl n) = counted pieces items contains few n
    go (inr n) = no_count (first_has each first).1 n
insert_explained Encodable original id pieces items (edits.Refused refused) e each contains few h is = memory_explained original e is
insert_explained Encodable original id pieces items (edits.Index error) e each contains few h is = absurd h
insert_explained Encodable original id pieces items (edits.Offsets offset) e each contains few h is = absurd h

pub code_explained : {bytes : List ℕ} (original : List ℕ) (edit : RemapError IndexTooLarge) (e : CoverageError) → Each 10 (IsDecoded (size_prefixed body)) bytes → ExplainsCode bytes edit → IsErrorOf edit e → Explains original e
code_explained original (edits.Read fault) e each (inl none) is = absurd (none.none each.sections each.read)
code_explained original (edits.Read fault) e each (inr first) is =
    let decoded = first_has each first in
    absurd (first.property.none decoded.0 decoded.1)
code_explained original (edits.Refused refused) e each h is = memory_explained original e is
code_explained original (edits.Index error) e each h is = absurd h
code_explained original (edits.Offsets offset) e each h is = absurd h
