use Rattle.wasm_sections.proofs.Common.{refl, map, member_encoded, members_encoded, stays_short, next_appended, all_appended, vec_appended, front_then, front_encoded, front_appended, imports_item}
use Rattle.wasm_sections.proofs.Common.{import_format, import_appended, import_encodable}
use Rattle.wasm_sections.proofs.import.write_imports.Goals as goal

pub loop-import-preserved : goal.loop-import-preserved
loop-import-preserved g c =
    let appends = c.in_ok-encode-2.ensures.appends in
    next_appended import_format imports_item c.args.imports.now c.loop-import.import-index c.import-item.result _ c.loop-import.sink.items _ c.loop-import-test.true c.import-item.is c.loop-import.invariant (import_appended (imports_item c.import-item.result) c.loop-import.sink.items _ appends.was_encodable appends.ok)

pub returns-clause-ok : goal.returns-clause-ok
returns-clause-ok g c =
    let old = c.args.sink.now.items in
    vec_appended import_format imports_item c.args.imports.now old c.encode.new.sink.items c.loop-import.sink.items c.in_ok-encode.ensures.appends.ok
    (all_appended import_format imports_item c.args.imports.now c.loop-import.import-index c.encode.new.sink.items c.loop-import.sink.items c.loop-import-test.false c.loop-import.invariant)

pub returns-in_err-encode-2-clause-too_long : goal.returns-in_err-encode-2-clause-too_long
returns-in_err-encode-2-clause-too_long g c = λ h.
    let imports = c.args.imports.now in
    let item = member_encoded import_format imports_item imports c.loop-import.import-index c.import-item.result c.loop-import-test.true c.import-item.is (members_encoded import_format (map imports_item imports) h) in
    stays_short c.from_residual-in_err-encode-2.result _ _ refl c.from_residual-in_err-encode-2.ensures.1 (c.in_err-encode-2.ensures.appends.too_long (import_encodable (imports_item c.import-item.result) item))

pub returns-in_err-encode-clause-front : goal.returns-in_err-encode-clause-front
returns-in_err-encode-clause-front g c = front_encoded _ _ _ _ _ c.encode.ensures.appends

pub returns-in_err-encode-2-clause-front : goal.returns-in_err-encode-2-clause-front
returns-in_err-encode-2-clause-front g c =
    let before = front_then _ _ _ (front_encoded _ _ _ _ _ c.encode.ensures.appends) (front_appended _ _ _ _ c.loop-import.invariant) in
    front_then _ _ _ before (front_encoded _ _ _ _ _ c.encode-in-loop-import.ensures.appends)

pub returns-clause-front : goal.returns-clause-front
returns-clause-front g c = front_then _ _ _ (front_encoded _ _ _ _ _ c.encode.ensures.appends) (front_appended _ _ _ _ c.loop-import.invariant)
