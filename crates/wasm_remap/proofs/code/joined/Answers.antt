use Rattle.wasm_remap.proofs.BegunLaws.{joined_as}
use Rattle.wasm_remap.proofs.code.joined.Goals as goal

pub returns : goal.returns
returns g c = joined_as c.args.locals.now _ c.args.old.now c.in_ok-new.ensures.items c.in_ok-append.ensures c.in_ok-extend_from_slice.ensures.items
