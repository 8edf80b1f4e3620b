use Rattle.wasm_base.proofs.Words.{arith}
use Rattle.wasm_custom.proofs.Calls.{new_segments, adds_segment}
use Rattle.read_back.specs.Objects.{read_only}
use Rattle.read_back.proofs.objects.segments.Goals as goal

pub returns : goal.returns
returns g c = adds_segment (new_segments c.new-list.ensures) (read_only c.args.name.now) c.in_ok-segment.ensures.ok c.in_ok-segment.ensures.counted c.in_ok-segment.ensures.was_encodable c.utf8.name (omega arith) (omega arith)
