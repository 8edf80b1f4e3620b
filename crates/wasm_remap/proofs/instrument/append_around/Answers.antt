use Rattle.wasm_base.proofs.Words.{[], ◌∷◌, ◌++◌, Bool, true, false, cond, sym, subst}
use Rattle.wasm_remap.proofs.InstrumentedLaws.{around_last, around_others}
use Rattle.wasm_remap.proofs.instrument.append_around.Goals as goal

pub returns-in_ok-append_after : goal.returns-in_ok-append_after
returns-in_ok-append_after g c xs are decodes = around_others c.args.is_last c.args.sink.now.items _ _ _ c.args.bytes.now (search c.if-not-is_last.true) (c.in_ok-append_before.ensures xs are) c.in_ok-extend_from_slice.ensures.items decodes (c.in_ok-append_after.ensures xs are)

pub returns-else-not-is_last : goal.returns-else-not-is_last
returns-else-not-is_last g c xs are decodes = around_last c.args.is_last _ c.args.sink.now.items _ _ c.args.bytes.now (search c.if-not-is_last.false) (c.in_ok-append_before.ensures xs are) c.in_ok-extend_from_slice.ensures.items decodes
