use Rattle.wasm_types.proofs.MinimalTypes.{each_appended, types_encodable}
use Rattle.wasm_types.proofs.type_section.append_types.Goals as goal

pub returns-clause-ok : goal.returns-clause-ok
returns-clause-ok g c = each_appended c.args.types.now c.encode.ensures.appends

pub returns-clause-too_long : goal.returns-clause-too_long
returns-clause-too_long g c = λ h. c.encode.ensures.appends.too_long (types_encodable c.args.types.now h)
