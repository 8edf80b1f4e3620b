use Rattle.examples.proofs.Common.{fault_stays}
use Rattle.examples.proofs.MinimizedLaws.{one_byte}
use Rattle.examples.proofs.minimized.one_byte_reference.Goals as goal

pub returns-in_err-_rest-clause-accepted : goal.returns-in_err-_rest-clause-accepted
returns-in_err-_rest-clause-accepted g c = fault_stays c.from_residual.result _ c.from_residual.ensures.1 λ n r rest d. (c.in_err-_rest.ensures.none n).none r rest d

pub returns-clause-one : goal.returns-clause-one
returns-clause-one g c = λ ty rest d. one_byte c.in_ok-_rest.ensures.found ty rest d
