use Rattle.wasm_base.proofs.WalkLaws.{mapped_walks}
use Rattle.wasm_types.specs.{func_of, array, structure, cont}
use Rattle.wasm_types.proofs.Common.{if_ok_more, if_err_more, after_shape, func_none, array_none, structure_none, cont_none}
use Rattle.wasm_types.proofs.WalkTypes.{tag_walks}
use Rattle.wasm_types.proofs.walk.walk_shape_after.Goals as goal

pub returns-in-96-clause-found : goal.returns-in-96-clause-found
returns-in-96-clause-found g c = if_ok_more c.walk.result (λ rest h. tag_walks after_shape 0x60 c.in-96.is (mapped_walks func_of h)) c.walk.ensures.found

pub returns-in-96-clause-none : goal.returns-in-96-clause-none
returns-in-96-clause-none g c = if_err_more c.walk.result (λ e none n. func_none c.args.bytes.now c.args.tag c.in-96.is (none n)) c.walk.ensures.none

pub returns-in-94-clause-found : goal.returns-in-94-clause-found
returns-in-94-clause-found g c = if_ok_more c.walk-in-94.result (λ rest h. tag_walks after_shape 0x5E c.in-94.is (mapped_walks array h)) c.walk-in-94.ensures.found

pub returns-in-94-clause-none : goal.returns-in-94-clause-none
returns-in-94-clause-none g c = if_err_more c.walk-in-94.result (λ e none n. array_none c.args.bytes.now c.args.tag c.in-94.is (none n)) c.walk-in-94.ensures.none

pub returns-in-95-clause-found : goal.returns-in-95-clause-found
returns-in-95-clause-found g c = if_ok_more c.walk-in-95.result (λ rest h. tag_walks after_shape 0x5F c.in-95.is (mapped_walks structure h)) c.walk-in-95.ensures.found

pub returns-in-95-clause-none : goal.returns-in-95-clause-none
returns-in-95-clause-none g c = if_err_more c.walk-in-95.result (λ e none n. structure_none c.args.bytes.now c.args.tag c.in-95.is (none n)) c.walk-in-95.ensures.none

pub returns-in-93-clause-found : goal.returns-in-93-clause-found
returns-in-93-clause-found g c = if_ok_more c.walk_index.result (λ rest h. tag_walks after_shape 0x5D c.in-93.is (mapped_walks cont h)) c.walk_index.ensures.found

pub returns-in-93-clause-none : goal.returns-in-93-clause-none
returns-in-93-clause-none g c = if_err_more c.walk_index.result (λ e none n. cont_none c.args.bytes.now c.args.tag c.in-93.is (none n)) c.walk_index.ensures.none
