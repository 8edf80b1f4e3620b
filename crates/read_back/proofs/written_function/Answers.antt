use Rattle.read_back.proofs.Common.{[], ◌∷◌, sym, subst, minimal, cause_stays, Functions, section, written, decodes_written, written_not_rejected}
use Rattle.wasm_reader.specs.declared.kinds.SectionKind.TheVariants as kinds
use Rattle.read_back.proofs.written_function.Goals as goal

pub returns-in_err-items-clause-memory : goal.returns-in_err-items-clause-memory
returns-in_err-items-clause-memory g c =
    let encoding = subst (λ bytes. section kinds.Functions minimal bytes (Functions (c.args.index ∷ []))) (sym c.as_slice.ensures.value) (written Functions c.requires c.in-Ok.ensures) in
    cause_stays c.from_residual.result _ c.from_residual.ensures.1 λ n. written_not_rejected kinds.Functions (c.in_err-items.ensures.none n) encoding

pub returns-clause-read : goal.returns-clause-read
returns-clause-read g c =
    let encoding = subst (λ bytes. section kinds.Functions minimal bytes (Functions (c.args.index ∷ []))) (sym c.as_slice.ensures.value) (written Functions c.requires c.in-Ok.ensures) in
    decodes_written c.in_ok-items.ensures.found encoding
