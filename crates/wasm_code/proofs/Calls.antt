-- This file proves the effect of each call on functions, expressions and code sections: lemmas that
-- a caller's proof cites.
use Rattle.wasm_base.proofs.Words.{◌≡◌, ℕ, ◌^◌, ◌<◌, ◌≤◌, List, [], ◌∷◌, ◌++◌, length, map, ℤ, Result, Ok, Err, refl, sym, ap, subst, ◌∙◌, append-nil, map-append, All-nil, All-cons}
use Rattle.wasm_base.proofs.Words.{array_into_iter_items, array_steps, array_steps_back, Count, Drains, EveryRun, ItemsAre, ItemsAreReversed, All, AllByRecursion, AllZip, OnOk, Appends}
use Rattle.wasm_base.proofs.Words.{DecodesOneMore, AddsEach, u32, s32, any_bytes, size_prefixed, vec, members, such, SectionDecoding, DecodesSections, GainsDecoding, GainsDecodingPadded, Mode}
use Rattle.wasm_base.proofs.Words.{minimal, padded, SectionPayload, IsEncodableSection, section_encoding, section_sized, longest, IsEncodableVec, size_prefixed_encoding, HasEncodableSize}
use Rattle.wasm_base.proofs.Words.{gains_section, gains_section_padded, array_items}
use Rattle.std.specs.declared.alloc.Global.{Global}
use Rattle.std.specs.declared.vec.Vec.{Vec}
use Rattle.wasm_base.specs.declared.refused.Refused.{Refused}
use Rattle.wasm_base.specs.declared.types.ValType.{ValType}
use Rattle.std.specs.declared.array.IntoIter.{IntoIter}
use Rattle.wasm_insn.specs.declared.instruction.Instruction.{Instruction}
use Rattle.wasm_insn.proofs.Words.{Plain, instruction as instruction_format, br_table_encoding, WritesLabels, table, instruction_encoding, IsWellFormedInstruction, signed32, br_table_encodes}
use Rattle.wasm_insn.proofs.Words.{byte_encodes, one_argument, byte_shape}
use Rattle.wasm_insn.specs.declared.instruction.Instruction.TheVariants.{I32Const}
use Rattle.wasm_insn.specs.declared.op.Shape.TheVariants.{C32}
use Rattle.wasm_base.specs.Stores.{pieces_model}
use Rattle.wasm_code.specs.{Run, IsRun, IsRuns, expand, Body, body as body_format, IsWellFormedBody, IsPaddedBody, and_then, Grows, HasLocals, BeginsWithRuns, BeginsWithTypes, code_section}
use Rattle.wasm_code.specs.{ContainsBodies, EncodesBodiesIn, EncodesBodies, EncodesBodiesPadded, DecodesCode, raw_code_decoding, code_decoding, padded_code_decoding, IsNoEnd, StoresInstructions}
use Rattle.wasm_code.specs.{StoresPadded, Stores, normal_row, ContainsMoreBodies, GrowsByEncoding, GrowsByLabels, br_table_row, ContainsMoreBodiesPadded, GrowsPadded, GrowsByEncodingPadded}
use Rattle.wasm_code.specs.{StoresMorePadded}
use Rattle.wasm_code.proofs.BodyLaws.{body_whole, grows, grows_by, body_included, grows_padded, grows_by_instruction}
use Rattle.wasm_code.proofs.CodeLaws.{raw_code-payload, code_section-payload}
use Rattle.wasm_code.proofs.ExpressionLaws.{members_one, members_join, stores_included, expression_encodes}
use Rattle.wasm_insn.specs.declared.part.Part.TheVariants as parts

-- ---- functions

pub all_of : {X : Type 0} (P : X → Type 0) (xs : List X) → AllByRecursion P xs → All P xs
all_of P [] h = All-nil P
all_of P (x ∷ xs) h = All-cons P x xs h.0 (all_of P xs h.1)

-- A raw body of known runs.
pub known_runs : {runs given : List Run} {bytes : List ℕ} → HasLocals given bytes → given ≡ runs → length given ≤ longest → AllByRecursion IsRun runs → IsWellFormedBody bytes (record { runs = runs; code = [] })
known_runs {runs = runs} {bytes = bytes} locals e count are =
    subst (λ rs. IsWellFormedBody bytes (record { runs = rs; code = [] })) e
    (locals.plain count (subst (λ rs. All IsRun rs) (sym e) (all_of IsRun runs are)))

-- The iterator of an array has exactly its elements, and yields them in order.
abbrev becomes : {X : Type 0} {n : ℕ} → List X → IntoIter X n → Type 0
becomes {X = X} {n = n} items it =
    (array_into_iter_items it ≡ items) × (length (array_into_iter_items it) ≡ n) × EveryRun (array_steps {A = X} {n = n}) (λ p. ItemsAre p (array_into_iter_items p.from))
    × EveryRun (array_steps_back {A = X} {n = n}) (λ p. ItemsAreReversed p (array_into_iter_items p.from))

-- A new function whose runs are the elements of an array.
pub new_function : {n : ℕ} {remaining : IntoIter Run n → Count} {runs : List Run} {bytes : List ℕ} → BeginsWithRuns becomes array_steps remaining runs (Ok bytes) → AllByRecursion IsRun runs
    → IsWellFormedBody bytes (record { runs = runs; code = [] })
new_function made are =
    let given = made.ok in
    known_runs given.5 (array_items given.0 given.1 given.3 ∙ given.2.0) given.4 are

-- A new function whose local types are the elements of an array and have these runs.
pub new_function_of_types : {n : ℕ} {types : List ValType} {bytes : List ℕ} → BeginsWithTypes (becomes {n = n}) array_steps types (Ok bytes) → (runs : List Run) → IsRuns runs → expand runs ≡ types → AllByRecursion IsRun runs
    → IsWellFormedBody bytes (record { runs = runs; code = [] })
new_function_of_types made runs are_runs expanded are =
    let given = made.ok in
    let same = array_items given.0 given.1 given.3 ∙ given.2.0 in
    known_runs given.7 (sym (given.5.only runs are_runs (expanded ∙ sym same))) given.6.count are

-- The body gains an instruction.
pub adds_instruction : {A : Type 0} {i : Instruction A} {old new : List ℕ} {x : Body} → IsWellFormedBody old x → Grows i old new → IsWellFormedInstruction i → IsWellFormedBody new (and_then x (normal_row i ∷ []))
adds_instruction {x = x} body grown plain = grown.plain plain x body

-- A sink borrows a body and returns it unchanged.
pub lent : {old new : List ℕ} {x : Body} → IsWellFormedBody old x → new ≡ old → IsWellFormedBody new x
lent {x = x} body same = subst (λ s. IsWellFormedBody s x) (sym same) body

-- The body gains an instruction that a named call of a sink encodes.
pub writes_instruction : {old new : List ℕ} {x : Body} → IsWellFormedBody old x → (i : Instruction Global) → new ≡ old ++ instruction_encoding i → IsWellFormedInstruction i → IsWellFormedBody new (and_then x (normal_row i ∷ []))
writes_instruction {old = old} {new = new} {x = x} body i e plain = (grows i old new e).plain plain x body

labels_written : {old new ls : List ℕ} {default : ℕ} {x : Body} → IsWellFormedBody old x → new ≡ old ++ br_table_encoding ls default → IsEncodableVec (λ n. n < 2 ^ 32) ls → default < 2 ^ 32
    → IsWellFormedBody new (and_then x (br_table_row ls default ∷ []))
labels_written {old = old} {new = new} {ls = ls} {default = default} {x = x} body e encodable range =
    (grows_by (br_table_encoding ls default) old new e).plain x (br_table_row ls default ∷ []) body
    (members_one (instruction_format table) minimal (br_table_encoding ls default) (br_table_row ls default) (br_table_encodes ls default encodable range))

-- The body gains `br_table`, whose labels are the elements of an array.
pub writes_labels : {n : ℕ} {remaining : IntoIter ℕ n → Count} {ls : List ℕ} {default : ℕ} {old new : List ℕ} {x : Body} → IsWellFormedBody old x
    → WritesLabels becomes array_steps remaining ls default old new (Ok (tt {0})) → AllByRecursion (λ l. l < 2 ^ 32) ls → default < 2 ^ 32 → IsWellFormedBody new (and_then x (br_table_row ls default ∷ []))
writes_labels {ls = ls} {default = default} {old = old} {new = new} {x = x} body wrote are range =
    let given = wrote.ok in
    let same = array_items given.0 given.1 given.3 ∙ given.2.0 in
    labels_written body (subst (λ l. new ≡ old ++ br_table_encoding l default) same given.5)
    (record { count = subst (λ l. length l ≤ longest) same given.4; members = all_of (λ l. l < 2 ^ 32) ls are }) range

-- ---- constant expressions

-- An expression of one instruction.
pub one_constant : {i : Instruction Global} {bytes : List ℕ} → Stores i [] bytes → IsWellFormedInstruction i → StoresInstructions bytes (normal_row i ∷ [])
one_constant stored plain = stored.plain plain [] refl

-- The expression gains an instruction.
pub adds_constant : {i : Instruction Global} {old new : List ℕ} → (is : List Plain) → StoresInstructions old is → Stores i old new → IsWellFormedInstruction i → StoresInstructions new (is ++ normal_row i ∷ [])
adds_constant is before stored plain = stored.plain plain is before

-- ---- the code section

-- A new code section holds no bodies.
pub new_code : {entries : List (List ℕ)} → entries ≡ [] → EncodesBodies entries []
new_code e = record { raw = []; held = e; encodes = tt }

zip_join : {X Y : Type 0} (R : X → Y → Type 0) (xs more : List X) (ys others : List Y) → AllZip R xs ys → AllZip R more others → AllZip R (xs ++ more) (ys ++ others)
zip_join R [] more [] others h g = g
zip_join R [] more (y ∷ ys) others h g = absurd h
zip_join R (x ∷ xs) more [] others h g = absurd h
zip_join R (x ∷ xs) more (y ∷ ys) others h g = (h.0, zip_join R xs more ys others h.1 g)

all_bodies : (mode : Mode) (entries : List (List ℕ)) (bodies : List Body) (raw : List (List ℕ)) (xs : List Body) → EncodesBodiesIn mode entries bodies → AllZip (body_format mode) raw xs
    → EncodesBodiesIn mode (entries ++ map size_prefixed_encoding raw) (bodies ++ xs)
all_bodies mode entries bodies raw xs before encodes = record {
  raw = before.raw ++ raw;
  held = ap (λ es. es ++ map size_prefixed_encoding raw) before.held ∙ sym (map-append size_prefixed_encoding before.raw raw);
  encodes = zip_join (body_format mode) before.raw raw bodies xs before.encodes encodes;
}

each_encodes : (raw : List (List ℕ)) (xs : List Body) → AllZip IsWellFormedBody raw xs → AllZip (body_format minimal) raw xs
each_encodes [] [] h = tt
each_encodes [] (x ∷ xs) h = absurd h
each_encodes (bytes ∷ raw) [] h = absurd h
each_encodes (bytes ∷ raw) (x ∷ xs) h = (h.0.encodes, each_encodes raw xs h.1)

each_encodes_padded : (raw : List (List ℕ)) (xs : List Body) → AllZip IsPaddedBody raw xs → AllZip (body_format padded) raw xs
each_encodes_padded [] [] h = tt
each_encodes_padded [] (x ∷ xs) h = absurd h
each_encodes_padded (bytes ∷ raw) [] h = absurd h
each_encodes_padded (bytes ∷ raw) (x ∷ xs) h = (h.0.encodes, each_encodes_padded raw xs h.1)

-- The code section gains a function.
pub adds_body : {old new : List (List ℕ)} {raw : List ℕ} {bodies : List Body} {x : Body} → EncodesBodies old bodies → new ≡ old ++ size_prefixed_encoding raw ∷ [] → IsWellFormedBody raw x → EncodesBodies new (bodies ++ x ∷ [])
adds_body {old = old} {new = new} {raw = raw} {bodies = bodies} {x = x} before e encodes =
    subst (λ es. EncodesBodies es (bodies ++ x ∷ [])) (sym e) (all_bodies minimal old bodies (raw ∷ []) (x ∷ []) before (encodes.encodes, tt))

-- The code section gains all functions of a list.
pub adds_bodies : {old new raw : List (List ℕ)} {bodies : List Body} → EncodesBodies old bodies → AddsEach size_prefixed_encoding HasEncodableSize raw old new → (xs : List Body) → AllZip IsWellFormedBody raw xs → EncodesBodies new (bodies ++ xs)
adds_bodies {old = old} {raw = raw} {bodies = bodies} before added xs encodes =
    subst (λ es. EncodesBodies es (bodies ++ xs)) (sym added.is) (all_bodies minimal old bodies raw xs before (each_encodes raw xs encodes))

-- The module gains a code section of these bodies.
pub gains_code : {decodings : List SectionDecoding} {id : ℕ} {old new : List ℕ} {entries : List (List ℕ)} {bodies : List Body} → DecodesSections decodings old → DecodesOneMore (SectionPayload entries) id old new
    → IsEncodableSection entries → DecodesCode pieces_model.holds entries (section_encoding entries) → EncodesBodies entries bodies → DecodesSections (decodings ++ (id, (code_decoding bodies).1) ∷ []) new
gains_code {entries = entries} {bodies = bodies} before more encodable decodes encodes =
    gains_section {F = vec (size_prefixed body_format)} before more code_section-payload (section_encoding entries) _ refl (section_sized entries _ encodable refl) bodies (decodes.bodies.for_each bodies encodes)

-- The module gains a code section of these raw bodies, whether they encode bodies or not.
pub gains_raw_code : {decodings : List SectionDecoding} {id : ℕ} {old new : List ℕ} {entries : List (List ℕ)} → DecodesSections decodings old → DecodesOneMore (SectionPayload entries) id old new
    → IsEncodableSection entries → DecodesCode pieces_model.holds entries (section_encoding entries) → (raw : List (List ℕ)) → ContainsBodies entries raw → DecodesSections (decodings ++ (id, (raw_code_decoding raw).1) ∷ []) new
gains_raw_code {entries = entries} before more encodable decodes raw held =
    gains_section {F = vec (size_prefixed any_bytes)} before more raw_code-payload (section_encoding entries) _ refl (section_sized entries _ encodable refl) raw (decodes.raw.for_each raw held)

-- A buffer gains a code section.
pub encodes_code : {A : Type 0} {encodable : Type 0} {entries : List (List ℕ)} {old new : Vec ℕ A} {result : Result (Unit {0}) Refused} {bodies : List Body} → Appends (section_encoding entries) encodable old new result
    → OnOk result (DecodesCode pieces_model.holds entries (section_encoding entries)) → EncodesBodies entries bodies → OnOk result (GainsDecoding code_section bodies old.items new.items)
encodes_code {entries = entries} {result = Ok u} {bodies = bodies} appends decodes encodes =
    record { encoding = section_encoding entries; added = appends.ok; unique = decodes.bodies.for_each bodies encodes }
encodes_code {result = Err e} appends decodes encodes = tt

-- ---- constant expressions, instructions and bodies with padded LEB128

-- A minimal encoding of a body is a possibly padded one.
pub included_body : {bytes : List ℕ} {x : Body} → IsWellFormedBody bytes x → IsPaddedBody bytes x
included_body {bytes = bytes} {x = x} plain = body_included bytes x plain

pub included_constant : (bytes : List ℕ) (is : List Plain) → StoresInstructions bytes is → StoresPadded bytes is
included_constant bytes is plain = stores_included bytes is plain

-- An expression of raw bytes that are the elements of an array.
pub raw_constant : {n : ℕ} {elements stored : List ℕ} → (it : IntoIter ℕ n) × (xs : List ℕ) × becomes {n = n} elements it × Drains array_steps it xs × (stored ≡ xs) → (is : List Plain) → StoresPadded elements is → StoresPadded stored is
raw_constant given is encodes = subst (λ bytes. StoresPadded bytes is) (sym (given.4 ∙ array_items given.0 given.1 given.3 ∙ given.2.0)) encodes

-- The instruction `i32.const` with a possibly padded number.
pub padded_i32_const : (bytes : List ℕ) (v : ℤ) → s32 padded bytes v → StoresPadded (0x41 ∷ bytes) (normal_row {A = Global} (I32Const v) ∷ [])
padded_i32_const bytes v padded_of =
    members_one (such IsNoEnd (instruction_format table)) padded (0x41 ∷ bytes) (normal_row {A = Global} (I32Const v))
    (byte_encodes padded 0x41 bytes C32 (signed32 v ∷ []) refl (byte_shape 0x41) (one_argument padded parts.Signed32 bytes (signed32 v) (v, refl, padded_of)), refl)

-- A raw body without runs: only their count, which may be padded.
pub without_runs : {count : List ℕ} → u32 padded count 0 → IsPaddedBody count (record { runs = []; code = [] })
without_runs {count = count} none =
    record { encodes = (([], []), refl, record { front = count; back = []; joined = sym (append-nil count); first = record { front = count; back = []; joined = sym (append-nil count); first = none; second = refl }; second = refl }) }

-- The body gains an instruction.
pub adds_instruction_padded : {A : Type 0} {old new : List ℕ} {x : Body} → IsPaddedBody old x → (i : Instruction A) → new ≡ old ++ instruction_encoding i → IsWellFormedInstruction i → IsPaddedBody new (and_then x (normal_row i ∷ []))
adds_instruction_padded {old = old} {x = x} body i e plain = subst (λ s. IsPaddedBody s (and_then x (normal_row i ∷ []))) (sym e) (grows_by_instruction i old x plain body)

-- The body gains the instructions that raw bytes encode.
pub adds_instructions_padded : {old new : List ℕ} {x : Body} → IsPaddedBody old x → (more : List ℕ) (is : List Plain) → new ≡ old ++ more → members (instruction_format table) padded more is → IsPaddedBody new (and_then x is)
adds_instructions_padded {old = old} {x = x} body more is e encodes = subst (λ s. IsPaddedBody s (and_then x is)) (sym e) (grows_padded old more x is body encodes)

-- ---- the code section, with padded LEB128

-- A code section holds, padded, all that it holds in minimal encodings.
pub encodes_padded : {entries : List (List ℕ)} {bodies : List Body} → EncodesBodies entries bodies → EncodesBodiesPadded entries bodies
encodes_padded {bodies = bodies} before = record { raw = before.raw; held = before.held; encodes = each_included before.raw bodies before.encodes }
  where
    each_included : (raw : List (List ℕ)) (xs : List Body) → AllZip (body_format minimal) raw xs → AllZip (body_format padded) raw xs
    each_included [] [] h = tt
    each_included [] (x ∷ xs) h = absurd h
    each_included (bytes ∷ raw) [] h = absurd h
    each_included (bytes ∷ raw) (x ∷ xs) h = (body_whole.encodings.included minimal padded tt bytes x h.0, each_included raw xs h.1)

-- The code section gains a body, of raw bytes or of a function.
pub adds_body_padded : {old new : List (List ℕ)} {raw : List ℕ} {bodies : List Body} {x : Body} → EncodesBodiesPadded old bodies → new ≡ old ++ size_prefixed_encoding raw ∷ [] → IsPaddedBody raw x → EncodesBodiesPadded new (bodies ++ x ∷ [])
adds_body_padded {old = old} {new = new} {raw = raw} {bodies = bodies} {x = x} before e encodes =
    subst (λ es. EncodesBodiesPadded es (bodies ++ x ∷ [])) (sym e) (all_bodies padded old bodies (raw ∷ []) (x ∷ []) before (encodes.encodes, tt))

-- The code section gains all functions of a list.
pub adds_bodies_padded : {old new raw : List (List ℕ)} {bodies : List Body} → EncodesBodiesPadded old bodies → AddsEach size_prefixed_encoding HasEncodableSize raw old new → (xs : List Body) → AllZip IsPaddedBody raw xs → EncodesBodiesPadded new (bodies ++ xs)
adds_bodies_padded {old = old} {raw = raw} {bodies = bodies} before added xs encodes =
    subst (λ es. EncodesBodiesPadded es (bodies ++ xs)) (sym added.is) (all_bodies padded old bodies raw xs before (each_encodes_padded raw xs encodes))

-- The module gains a code section of these bodies.
pub gains_code_padded : {decodings : List SectionDecoding} {id : ℕ} {old new : List ℕ} {entries : List (List ℕ)} {bodies : List Body} → DecodesSections decodings old → DecodesOneMore (SectionPayload entries) id old new
    → IsEncodableSection entries → DecodesCode pieces_model.holds entries (section_encoding entries) → EncodesBodiesPadded entries bodies → DecodesSections (decodings ++ (id, (padded_code_decoding bodies).1) ∷ []) new
gains_code_padded {entries = entries} {bodies = bodies} before more encodable decodes encodes =
    gains_section_padded {F = vec (size_prefixed body_format)} before more (section_encoding entries) _ refl (section_sized entries _ encodable refl) bodies (decodes.padded.for_each bodies encodes)

-- A buffer gains a code section.
pub encodes_code_padded : {A : Type 0} {encodable : Type 0} {entries : List (List ℕ)} {old new : Vec ℕ A} {result : Result (Unit {0}) Refused} {bodies : List Body} → Appends (section_encoding entries) encodable old new result
    → OnOk result (DecodesCode pieces_model.holds entries (section_encoding entries)) → EncodesBodiesPadded entries bodies → OnOk result (GainsDecodingPadded code_section bodies old.items new.items)
encodes_code_padded {entries = entries} {result = Ok u} {bodies = bodies} appends decodes encodes =
    record { encoding = section_encoding entries; added = appends.ok; unique = decodes.padded.for_each bodies encodes }
encodes_code_padded {result = Err e} appends decodes encodes = tt

-- ---- laws

pub contains_more : ContainsMoreBodies
contains_more = record {
  none = record { raw = []; held = refl; encodes = tt };
  given = λ entries bodies raw x before encodes. all_bodies minimal entries bodies (raw ∷ []) (x ∷ []) before (encodes.encodes, tt);
  all = λ entries bodies raw xs before encodes. all_bodies minimal entries bodies raw xs before (each_encodes raw xs encodes);
}

pub grows_by_encoding : {A : Type 0} (i : Instruction A) → GrowsByEncoding i
grows_by_encoding i = record { grows = λ old. grows i old (old ++ instruction_encoding i) refl }

pub grows_by_labels : GrowsByLabels
grows_by_labels = record { grows = λ ls default old x encodable range body. labels_written body refl encodable range }

pub ruleset calls = (contains_more, grows_by_encoding, grows_by_labels)

pub contains_more_padded : ContainsMoreBodiesPadded
contains_more_padded = record {
  none = record { raw = []; held = refl; encodes = tt };
  held = λ entries bodies before. encodes_padded before;
  given = λ entries bodies raw x before encodes. all_bodies padded entries bodies (raw ∷ []) (x ∷ []) before (encodes.encodes, tt);
  all = λ entries bodies raw xs before encodes. all_bodies padded entries bodies raw xs before (each_encodes_padded raw xs encodes);
}

pub body_grows_padded : GrowsPadded
body_grows_padded = record { plain = body_included; raw = grows_padded }

pub grows_by_encoding_padded : {A : Type 0} (i : Instruction A) → GrowsByEncodingPadded i
grows_by_encoding_padded i = record { grows = grows_by_instruction i }

pub stores_more_padded : StoresMorePadded
stores_more_padded = record { plain = stores_included; more = members_join (such IsNoEnd (instruction_format table)) padded; encodes = expression_encodes padded }

pub ruleset padded_calls = (contains_more_padded, body_grows_padded, grows_by_encoding_padded, stores_more_padded)
