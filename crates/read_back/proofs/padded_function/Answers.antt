use Rattle.wasm_reader.proofs.Words.{cause_stays, Functions, written, decodes_padded, padded_not_rejected, shortens_padded}
use Rattle.wasm_reader.specs.declared.kinds.SectionKind.TheVariants as kinds
use Rattle.read_back.proofs.padded_function.Goals as goal

pub returns-in_err-items-clause-memory : goal.returns-in_err-items-clause-memory
returns-in_err-items-clause-memory g c = cause_stays c.from_residual.result _ c.from_residual.ensures.1 λ n rest given. padded_not_rejected kinds.Functions (c.in_err-items.ensures.none n) given

pub returns-clause-read : goal.returns-clause-read
returns-clause-read g c = λ rest given. decodes_padded c.in_ok-items.ensures.found given

pub returns-clause-same : goal.returns-clause-same
returns-clause-same g c = λ rest given. shortens_padded c.in_ok-_taken.ensures.ok given (written Functions c.requires c.in-Ok.ensures)
