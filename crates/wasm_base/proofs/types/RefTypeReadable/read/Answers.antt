use Rattle.wasm_base.proofs.Faults.{if_ok_more, fault_stays}
use Rattle.wasm_base.proofs.DecodeTypes.{ref_type_decodes, ref_type_none, ref_type_fails}
use Rattle.wasm_base.proofs.types.RefTypeReadable.read.Goals as goal

pub returns-clause-found : goal.returns-clause-found
returns-clause-found g c = if_ok_more c.read_ref_after.result (λ x h. ref_type_decodes c.args.bytes.now _ x.1.now _ x.0 c.in_ok-tag.ensures.found h) c.read_ref_after.ensures.found

pub returns-in_err-tag-clause-none : goal.returns-in_err-tag-clause-none
returns-in_err-tag-clause-none g c = fault_stays c.from_residual.result _ c.from_residual.ensures.1 λ n. ref_type_none c.args.bytes.now (c.in_err-tag.ensures.none n)

pub returns-clause-none : goal.returns-clause-none
returns-clause-none g c = search (ref_type_fails, c.in_ok-tag.ensures.found, c.read_ref_after.ensures.none)
