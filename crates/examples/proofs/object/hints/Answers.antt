-- Written by tools/answers.
use Rattle.examples.proofs.Common.{arith, drained_array, new_hints, adds_hints}
use Rattle.examples.proofs.object.hints.Goals as goal

pub returns : goal.returns
returns g c = adds_hints (new_hints c.new-section.ensures) 0 c.in_ok-function_hints.ensures (omega arith) (record { offset = omega arith; value = omega arith }, tt)

pub function_hints-requires : goal.function_hints-requires
function_hints-requires g c = record { can = λ it b. tt; reported = λ it xs b d. drained_array it xs d }
