-- This file proves modules into which an import, a global and a call are inserted.
use Rattle.wasm_base.proofs.Words.{◌≡◌, ℕ, List, [], ◌∷◌, ◌++◌, length, Result, Ok, Err, OnOk, refl, sym, ap, subst, ◌∙◌, arith, ascii, minimal, padded, standard, members, vec, vec_of_pieces, AllZip, Format, IsEncodableSection, joined, unsigned_encoding}
use Rattle.std.specs.Prelude.{IfOk}
use Rattle.std.specs.declared.alloc.Global.{Global}
use Rattle.wasm_base.specs.declared.refused.Refused.{Refused}
use Rattle.wasm_code.proofs.Words.{StoresInstructions, expression_encoding, normal_encodes, normal_row}
use Rattle.wasm_code.proofs.ExpressionLaws.{members_one}
use Rattle.wasm_insn.proofs.Words.{instruction, table, lists_whole, instruction_encoding}
use Rattle.wasm_insn.specs.Arguments.{Argument}
use Rattle.wasm_insn.specs.Operands.{AreOperands}
use Rattle.wasm_insn.specs.Sink.{appended}
use Rattle.wasm_insn.specs.declared.op.Op.{Op}
use Rattle.wasm_insn.specs.declared.op.Op.TheVariants.{Byte}
use Rattle.wasm_insn.specs.declared.operands.Operands.{Operands}
use Rattle.wasm_insn.specs.declared.instruction.Instruction.TheVariants.{Call}
use Rattle.wasm_reader.specs.declared.whole.Offsets.TheVariants.{LeaveOut}
use Rattle.wasm_remap.proofs.InsertLaws.{gains_members}
use Rattle.wasm_remap.specs.Begun.{GainsCode}
use Rattle.wasm_remap.specs.Imported.{InsertsImport, room_in, space_of}
use Rattle.wasm_remap.specs.Inserted.{InsertsSection}
use Rattle.wasm_remap.specs.Sections.{RemapsModule}
use Rattle.wasm_remap.specs.Shifted.{shifted}
use Rattle.wasm_remap.specs.declared.insert.Position.TheVariants.{First, Last}
use Rattle.wasm_remap.specs.declared.spaces.IndexSpace.TheVariants.{Functions}
use Rattle.wasm_sections.proofs.GlobalLaws.{global_item_encodes}
use Rattle.wasm_sections.proofs.Words.{global_item, globals_section, import_format}
use Rattle.wasm_sections.specs.Globals.{global_encoding}
use Rattle.wasm_sections.specs.Imports.{IsImport, import_item}
use Rattle.wasm_sections.specs.declared.import.Import.{Import}
use Rattle.read_back.specs.Inserted.{CallsHit, HasCounter, calling, counter, hit, traced}

-- The encoding of the call.
calling_encodes : members (instruction table) standard (instruction_encoding {A = Global} (Call 0)) calling
calling_encodes =
    let encoding = instruction_encoding {A = Global} (Call 0) in
    let call = normal_encodes {A = Global} (Call 0) (omega arith, tt) in
    let all : members (instruction table) minimal encoding calling = members_one (instruction table) minimal encoding (normal_row {A = Global} (Call 0)) call in
    lists_whole.encodings.included padded standard tt encoding calling (lists_whole.encodings.included minimal padded tt encoding calling all)

-- A sink that gains the call.
pub calling_gained : (old start last new : List ℕ) (result : Result (Unit {0}) Refused) → start ≡ old → last ≡ appended result start (instruction_encoding {A = Global} (Call 0)) → new ≡ last → OnOk result (GainsCode calling old new)
calling_gained old start last new (Ok u) same call is =
    let encoding = instruction_encoding {A = Global} (Call 0) in
    record { encoding = encoding; added = is ∙ call ∙ ap (λ s. s ++ encoding) same; encodes = calling_encodes }
calling_gained old start last new (Err e) same call is = tt

-- A sink that gains the call in front of another one.
pub calling_traced : (op : Op) (given : Operands) (byte : ℕ) (old start last new : List ℕ) (result : Result (Unit {0}) Refused) → op ≡ Byte byte → byte ≡ 0x10 → start ≡ old → last ≡ appended result start (instruction_encoding {A = Global} (Call 0)) → new ≡ last
    → OnOk result ((xs : List Argument) → AreOperands given xs → GainsCode (traced op) old new)
calling_traced op given byte old start last new (Ok u) is at same call end = λ xs are. subst (λ o. GainsCode (traced o) old new) (sym (is ∙ ap Byte at)) (calling_gained old start last new (Ok u) same call end)
calling_traced op given byte old start last new (Err e) is at same call end = tt

-- A section of one member.
one_member : {X : Type 0} (F : Format X) (entries : List (List ℕ)) (encoding : List ℕ) (x : X) → entries ≡ encoding ∷ [] → IsEncodableSection entries → F standard encoding x → vec F standard (unsigned_encoding (length entries) ++ joined entries) (x ∷ [])
one_member F entries encoding x e fits h = vec_of_pieces standard F entries (x ∷ []) fits.count (subst (λ es. AllZip (F standard) es (x ∷ [])) (sym e) (h, tt))

-- The encoding of the counter.
counter_encodes : {bytes init : List ℕ} → bytes ≡ global_encoding counter.global_type ++ expression_encoding init → StoresInstructions init counter.init → global_item standard bytes counter
counter_encodes {bytes = bytes} {init = init} e stored =
    let encoding = global_encoding counter.global_type ++ expression_encoding init in
    let encodes = global_item_encodes minimal tt (record { global_type = counter.global_type; init = record { bytes = init; instructions = counter.init } }) (record { global_type = tt; init = stored }) in
    let laws = globals_section.items.unique.encodings in
    subst (λ s. global_item standard s counter) (sym e) (laws.included padded standard tt encoding counter (laws.included minimal padded tt encoding counter encodes))

-- A module that gains the counter.
pub counter_gained : {bytes edited init encoding : List ℕ} (entries : List (List ℕ)) → entries ≡ encoding ∷ [] → encoding ≡ global_encoding counter.global_type ++ expression_encoding init → StoresInstructions init counter.init → IsEncodableSection entries
    → InsertsSection Last 6 (unsigned_encoding (length entries) ++ joined entries) bytes edited → HasCounter bytes edited
counter_gained {encoding = encoding} entries e is stored fits h = gains_members global_item Last 6 (counter ∷ []) refl (one_member global_item entries encoding counter e fits (counter_encodes is stored)) h

-- A module that calls the import.
pub hit_called : {x : Import} {bytes edited : List ℕ} → import_item x ≡ hit → space_of x.ty ≡ Functions → InsertsImport x LeaveOut bytes edited → CallsHit bytes edited
hit_called {x = x} {bytes = bytes} e space h =
    let plain = subst IsImport (sym e) (ascii refl, (ascii refl, omega arith)) in
    record {
      shifted_bytes = h.shifted_bytes;
      shifts = subst (λ s. RemapsModule (shifted (room_in s)) LeaveOut bytes h.shifted_bytes) space h.shifts;
      gains = gains_members import_format First 2 (hit ∷ []) refl (subst (λ i. vec import_format standard h.payload (i ∷ [])) e (h.decodes plain)) h.inserts;
    }

-- What holds of a result, by one that is stated.
pub ok_gives : {X E : Type 0} {P R : X → Type 0} (r : Result X E) → ((x : X) → P x → R x) → IfOk r P → IfOk r R
ok_gives (Ok x) f p = f x p
ok_gives (Err e) f p = tt
