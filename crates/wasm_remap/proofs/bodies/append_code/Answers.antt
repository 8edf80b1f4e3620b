use Rattle.wasm_base.proofs.Words.{refl, sym, ◌∙◌, eqb-true, eqb-false}
use Rattle.wasm_base.proofs.DecodeSizePrefixed.{none_left}
use Rattle.wasm_base.proofs.DecodeWhole.{empty_not, member_shorter}
use Rattle.wasm_base.proofs.MinimalEncodings.{front_then}
use Rattle.wasm_insn.specs.Plain.{instruction}
use Rattle.wasm_insn.specs.Table.{table}
use Rattle.wasm_insn.proofs.InstructionLaws.{any_begins, unique}
use Rattle.wasm_remap.specs.Instructions.{remapped_instruction}
use Rattle.wasm_remap.proofs.StreamLaws.{streamed_begun, streamed_continued, streamed_done, streamed_to_front}
use Rattle.wasm_remap.proofs.bodies.append_code.Goals as goal

pub loop-rest-init : goal.loop-rest-init
loop-rest-init g c m follows = streamed_begun (remapped_instruction m) (instruction table) c.args.bytes.now c.args.sink.now.items

pub loop-rest-preserved : goal.loop-rest-preserved
loop-rest-preserved g c m follows = streamed_continued _ _ unique (c.loop-rest.invariant m follows) (empty_not c.loop-rest.rest.now (eqb-false _ _ (sym c.is_empty.ensures ∙ c.if-is_empty.false))) (c.in_ok-rest.ensures.found m follows)

pub loop-rest-smaller : goal.loop-rest-smaller
loop-rest-smaller g c =
    let found = c.in_ok-rest.ensures.found (g.M.Remap.mapped c.args.indices.now) (λ _ _ _. refl) in
    member_shorter (instruction table) c.loop-rest.rest.now c.in_ok-rest.rest.now found.value any_begins found.decoded

pub returns-then-is_empty-clause-found : goal.returns-then-is_empty-clause-found
returns-then-is_empty-clause-found g c m follows = streamed_done _ _ (c.loop-rest.invariant m follows) (none_left c.loop-rest.rest.now (eqb-true _ _ (sym c.is_empty.ensures ∙ c.if-is_empty.true)))

pub returns-then-is_empty-clause-front : goal.returns-then-is_empty-clause-front
returns-then-is_empty-clause-front g c = streamed_to_front _ _ (c.loop-rest.invariant (g.M.Remap.mapped c.args.indices.now) (λ _ _ _. refl))

pub returns-in_err-rest-clause-front : goal.returns-in_err-rest-clause-front
returns-in_err-rest-clause-front g c = front_then c.args.sink.now.items c.loop-rest.sink.items _ (streamed_to_front _ _ (c.loop-rest.invariant (g.M.Remap.mapped c.args.indices.now) (λ _ _ _. refl))) c.in_err-rest.ensures.front
