use Rattle.wasm_types.proofs.Common.{fault_stays, if_ok_more, if_err_more, sub_none, sub_decodes, sub_none_after}
use Rattle.wasm_types.proofs.items.SubItemReadable.read.Goals as goal

pub returns-in_err-tag-clause-none : goal.returns-in_err-tag-clause-none
returns-in_err-tag-clause-none g c = fault_stays c.from_residual.result _ c.from_residual.ensures.1 λ n. sub_none c.args.bytes.now (c.in_err-tag.ensures.none n)

pub returns-clause-found : goal.returns-clause-found
returns-clause-found g c = if_ok_more c.read_sub_after.result (λ x h. sub_decodes c.in_ok-tag.ensures.found h) c.read_sub_after.ensures.found

pub returns-clause-none : goal.returns-clause-none
returns-clause-none g c = if_err_more c.read_sub_after.result (λ e none n. sub_none_after c.in_ok-tag.ensures.found (none n)) c.read_sub_after.ensures.none
