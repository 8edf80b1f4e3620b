use Rattle.wasm_base.proofs.Words.{rules, fault_stays}
use Rattle.wasm_base.proofs.EffectLaws.{sized_minimizes}
use Rattle.wasm_reader.specs.{content}
use Rattle.wasm_reader.proofs.DecodeSections.{section_none, section_rejects}
use Rattle.wasm_reader.proofs.minimal.minimize_section.Goals as goal

pub returns-in_err-payload-clause-none : goal.returns-in_err-payload-clause-none
returns-in_err-payload-clause-none g c = fault_stays c.from_residual.result _ c.from_residual.ensures.1 λ n. section_none c.args.kind c.args.bytes.now (c.in_err-payload.ensures.none n)

pub returns-in_err-minimize_content-clause-none : goal.returns-in_err-minimize_content-clause-none
returns-in_err-minimize_content-clause-none g c = fault_stays c.from_residual-in_err-minimize_content.result _ c.from_residual-in_err-minimize_content.ensures.1 λ n. section_rejects c.args.kind c.args.bytes.now _ _ c.in_ok-payload.ensures.found (c.in_err-minimize_content.ensures.none n)

pub returns-clause-found : goal.returns-clause-found
returns-clause-found g c =
    sized_minimizes g.G.Grammar.grammar (content c.args.kind) c.args.bytes.now _ c.in_ok-payload.rest.now c.args.sink.now.items c.minimize_content.new.sink.items c.prefix_size_since.new.sink.items c.len-start.result c.in_ok-payload.ensures.found c.in_ok-minimize_content.ensures.found (search rules) c.in_ok-prefix_size_since.ensures.was_encodable c.in_ok-prefix_size_since.ensures.sized
