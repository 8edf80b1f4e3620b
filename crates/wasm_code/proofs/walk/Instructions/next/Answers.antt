use Rattle.wasm_code.proofs.Common.{◌≢◌, [], subst, ahead, next_fails, some_ahead}
use Rattle.wasm_code.proofs.walk.Instructions.next.Goals as goal

pub returns-in_err-decoded : goal.returns-in_err-decoded
returns-in_err-decoded g c =
    next_fails _ _ _ c.from_residual.result _ c.from_residual.ensures.1 c.in_err-decoded.ensures.none (subst (λ w. ahead w ≢ []) c.self.view_is (some_ahead c.self.inside.bytes.now c.self.inside.offset c.self.invariant c.if-self.false))
