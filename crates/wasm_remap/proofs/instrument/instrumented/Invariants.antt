use Rattle.wasm_base.proofs.Words.{length, standard, take, ◌≡◌, ◌≤◌, ◌-◌}
use Rattle.wasm_code.proofs.Words.{Body, body}
use Rattle.wasm_code.specs.Words.{ahead}
use Rattle.wasm_remap.proofs.InstrumentedLaws.{HasWoven}
use Rattle.wasm_remap.proofs.instrument.instrumented.Given as goal

abbrev pub invariant-loop-new : goal.invariant-loop-new
invariant-loop-new g l =
    ((x : Body) → body standard l.fn.body.bytes x → HasWoven (g.I.Instrument.before l.fn.instrument l.fn.number) (g.I.Instrument.after l.fn.instrument l.fn.number) x (take l.initial.instructions.offset l.fn.body.bytes) (ahead l.instructions) l.at l.new.items)
    × (l.instructions.bytes ≡ l.fn.body.bytes)
    × (l.instructions.offset ≤ length l.fn.body.bytes)

abbrev pub decreases-loop-new : goal.decreases-loop-new
decreases-loop-new g l = length l.fn.body.bytes - l.instructions.offset
