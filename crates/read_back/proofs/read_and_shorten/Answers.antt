use Rattle.read_back.proofs.Common.{Rejects, padded, subst, cause_stays, section}
use Rattle.read_back.proofs.read_and_shorten.Goals as goal

pub returns-in_err-shorten-clause-none : goal.returns-in_err-shorten-clause-none
returns-in_err-shorten-clause-none g c = cause_stays c.from_residual-in_err-shorten.result _ c.from_residual-in_err-shorten.ensures.1 λ n. subst (λ bytes. Rejects (section c.args.kind) padded bytes) c.as_slice-2.ensures.value (c.in_err-shorten.ensures.none n)
