use Rattle.wasm_base.proofs.Words.{◌≡◌, length, vec_len, rules, ◌∙◌, drained_vec as drained_length}
use Rattle.wasm_code.proofs.Common.{drained_vec, types_given}
use Rattle.wasm_code.proofs.function.Function.new_with_locals_types.Goals as goal

pub new-requires : goal.new-requires
new-requires g c = record { can = λ it b. tt; reported = λ it xs b d. drained_length it xs d }

pub returns : goal.returns
returns g c =
    let runs = c.in_ok-runs.runs in
    let counted : vec_len runs ≡ length runs.items = search rules in
    types_given _ _ _ _ _ c.args.locals runs runs _ (λ it xs b d. drained_vec runs.items it xs b.0 (b.1 ∙ counted) d) (λ it b. b.1 ∙ counted) c.in_ok-runs.ensures c.new.ensures
