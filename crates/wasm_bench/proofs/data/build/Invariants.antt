use Rattle.wasm_base.proofs.Words.{◌≡◌, ◌≤◌, ◌<◌, ◌+◌, ◌*◌, ◌-◌, ◌⊎◌, length}
use Rattle.wasm_bench.proofs.data.build.Given as goal

-- Each segment so far is full, or no bytes remain.
abbrev pub invariant-loop-start : goal.invariant-loop-start
invariant-loop-start l =
    (l.start ≤ length l.bytes)
    × (l.start ≤ length l.section * l.segment)
    × (length l.section * l.segment < l.start + l.segment)
    × ((l.start ≡ length l.section * l.segment) ⊎ (l.start ≡ length l.bytes))

abbrev pub decreases-loop-start : goal.decreases-loop-start
decreases-loop-start l = length l.bytes - l.start
