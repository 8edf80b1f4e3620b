-- This file proves modules into which an import is inserted.
use Rattle.std.specs.Prelude.{IfOk}
use Rattle.wasm_base.proofs.Words.{◌≡◌, ◌≤◌, ℕ, List, [], ◌∷◌, ◌++◌, length, Result, Ok, Err, OnOk, sym, subst, arith, length-append, AllZip, IsEncodableSection, joined, minimal, padded, standard, unsigned_encoding, vec, vec_of_pieces}
use Rattle.wasm_sections.proofs.Words.{imports_section}
use Rattle.wasm_sections.specs.Imports.{ImportItem, IsImport, import_encoding, import_format}

-- A section of one import.
pub imported_payload : (i : ImportItem) (entries : List (List ℕ)) → entries ≡ import_encoding i ∷ [] → IsEncodableSection entries → IsImport i → vec import_format standard (unsigned_encoding (length entries) ++ joined entries) (i ∷ [])
imported_payload i entries e fits plain =
    let encoding = import_encoding i in
    let one = (subst IsEncodableSection e fits).size in
    let size : length encoding ≤ 4294967295 = omega (arith, one, length-append (unsigned_encoding 1) (encoding ++ []), length-append encoding []) in
    let laws = imports_section.items.unique.encodings in
    let encodes = imports_section.items.encodes i plain size in
    let decodes = laws.included padded standard tt encoding i (laws.included minimal padded tt encoding i encodes) in
    vec_of_pieces standard import_format entries (i ∷ []) fits.count (subst (λ es. AllZip (import_format standard) es (i ∷ [])) (sym e) (decodes, tt))

-- What holds of a result by two clauses.
pub if_ok : {X E : Type 0} {P R : X → Type 0} {Q : Type 0} (r : Result X E) → IfOk r P → OnOk r Q → ((x : X) → P x → Q → R x) → IfOk r R
if_ok (Ok x) p q f = f x p q
if_ok (Err e) p q f = tt
