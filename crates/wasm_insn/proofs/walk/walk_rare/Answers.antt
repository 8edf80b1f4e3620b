use Rattle.wasm_base.proofs.Faults.{memory_implies}
use Rattle.wasm_base.proofs.Words.{inl, inr}
use Rattle.wasm_insn.specs.{argument_view}
use Rattle.wasm_insn.proofs.WalkInstructions.{rare_walks}
use Rattle.wasm_insn.proofs.walk.walk_rare.Goals as goal

pub returns-clause-found : goal.returns-clause-found
returns-clause-found g c = rare_walks g.E.Effect.seen g.G.Grammar.grammar c.args.wanted (argument_view c.in_ok-arg.arg) c.args.bytes.now c.in_ok-arg.rest.now _ _ c.requires.no_block (λ e. c.requires.no_list (inr (inr (inl e)))) c.in_ok-arg.ensures.found c.in_ok-put.ensures.ok

pub returns-in_err-arg-clause-no_memory : goal.returns-in_err-arg-clause-no_memory
returns-in_err-arg-clause-no_memory g c = memory_implies c.from_residual.result _ c.from_residual.ensures.1 (λ k. absurd (c.requires.no_list (c.in_err-arg.ensures.no_memory k)))
