use Rattle.wasm_code.proofs.Common.{rules, same_val}
use Rattle.wasm_code.proofs.locals.continues.Goals as goal

pub returns : goal.returns
returns c = (λ h. same_val c.args.last c.args.ty (search rules), λ e. search rules)
