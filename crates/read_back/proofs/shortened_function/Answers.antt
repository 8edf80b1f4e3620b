use Rattle.read_back.proofs.Common.{[], ◌∷◌, ◌++◌, sym, subst, ap, ◌∙◌, minimal, cause_stays, Functions, section, written, shortens_written, written_not_rejected}
use Rattle.wasm_reader.specs.declared.kinds.SectionKind.TheVariants as kinds
use Rattle.read_back.proofs.shortened_function.Goals as goal

pub returns-in_err-taken-clause-memory : goal.returns-in_err-taken-clause-memory
returns-in_err-taken-clause-memory g c =
    let encoding = subst (λ bytes. section kinds.Functions minimal bytes (Functions (c.args.index ∷ []))) (sym c.as_slice.ensures.value) (written Functions c.requires c.in-Ok.ensures) in
    cause_stays c.from_residual.result _ c.from_residual.ensures.1 λ n. written_not_rejected kinds.Functions (c.in_err-taken.ensures.none n) encoding

pub returns-clause-same : goal.returns-clause-same
returns-clause-same g c =
    let encoding = subst (λ bytes. section kinds.Functions minimal bytes (Functions (c.args.index ∷ []))) (sym c.as_slice.ensures.value) (written Functions c.requires c.in-Ok.ensures) in
    shortens_written c.in_ok-taken.ensures.ok encoding ∙ ap (λ t. c.args.sink.now.items ++ t) c.as_slice.ensures.value
