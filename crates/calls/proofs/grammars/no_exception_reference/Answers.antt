use Rattle.calls.proofs.Common.{[], Exn}
use Rattle.calls.proofs.grammars.no_exception_reference.Goals as goal

pub returns : goal.returns
returns g c = (c.standard_types.ensures.builders Exn [] (λ e. cc e) (λ e. cc e)).none _ _ c.in_ok-ty.ensures.found
