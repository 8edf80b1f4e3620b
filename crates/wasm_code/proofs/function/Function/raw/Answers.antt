use Rattle.wasm_code.proofs.Common.{◌++◌, ap, ◌∙◌, on_ok, grows_by}
use Rattle.wasm_code.proofs.function.Function.raw.Goals as goal

pub returns-clause-ok : goal.returns-clause-ok
returns-clause-ok g c =
    on_ok c.append_all.result _ _ c.append_all.ensures.ok (λ given.
    (given.0, given.1, given.2, given.3, grows_by given.1 c.args.self.now c.append_all.new.sink.items (given.4 ∙ ap (λ z. z ++ given.1) c.self.view_is)))
