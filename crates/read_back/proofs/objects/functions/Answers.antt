use Rattle.wasm_base.proofs.Words.{arith}
use Rattle.wasm_custom.proofs.Calls.{new_inits, adds_init}
use Rattle.read_back.specs.Objects.{start}
use Rattle.read_back.proofs.objects.functions.Goals as goal

pub returns : goal.returns
returns g c = adds_init (new_inits c.new-list.ensures) (start c.args.priority) c.in_ok-function.ensures.ok c.in_ok-function.ensures.counted (omega (arith, c.ranges.priority.fits)) (omega arith)
