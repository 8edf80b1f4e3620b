use Rattle.wasm_base.proofs.Words.{List, length, size_prefixed, standard, vec}
use Rattle.wasm_code.proofs.Words.{Body, body}
use Rattle.wasm_remap.proofs.BegunLaws.{HasEdited}
use Rattle.wasm_remap.proofs.code.code_of.Given as goal

abbrev pub invariant-loop-new : goal.invariant-loop-new
invariant-loop-new g l = (all : List Body) → vec (size_prefixed body) standard l.fn.section.section.payload all → HasEdited (g.C.EditBody.edited l.fn.change) all l.bodies l.new l.number

abbrev pub decreases-loop-new : goal.decreases-loop-new
decreases-loop-new g l = length l.bodies.rest
