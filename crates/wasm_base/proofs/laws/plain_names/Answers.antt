use Rattle.wasm_base.proofs.Std.{arith, subst, IsUtf8, take_all, All-more, All}
use Rattle.wasm_base.proofs.laws.plain_names.Goals as goal

pub loop-name-preserved : goal.loop-name-preserved
loop-name-preserved c = All-more (λ name. IsUtf8 name.now) c.args.names.now c.loop-name.name-index _ c.loop-name-test.true c.loop-name.invariant c.plain_name.ensures

pub returns : goal.returns
returns c = subst (λ names. All (λ name. IsUtf8 name.now) names) (take_all c.loop-name.name-index c.args.names.now (omega arith)) c.loop-name.invariant
