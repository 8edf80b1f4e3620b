use Rattle.std.proofs.Common.{rules, ◌<◌, ◌≤◌, length}
use Rattle.wasm_remap.proofs.ArgumentLaws.{argument_step, arguments_done}
use Rattle.wasm_remap.proofs.instructions.remap_arguments.Goals as goal

pub loop-argument-preserved : goal.loop-argument-preserved
loop-argument-preserved g c m follows =
    let within : c.loop-argument.argument-index < length c.loop-argument.arguments = search rules in
    argument_step m c.args.spaces c.args.arguments.now c.loop-argument.arguments c.loop-argument.argument-index c.loop-argument.spaces c.in_ok-spaces.spaces c.remap_argument.new.argument _ within (c.loop-argument.invariant m follows) (c.in_ok-spaces.ensures.ok m follows) c.in_ok-spaces.ensures.after

pub returns-clause-ok : goal.returns-clause-ok
returns-clause-ok g c m follows =
    let all : length c.loop-argument.arguments ≤ c.loop-argument.argument-index = search rules in
    arguments_done m c.args.spaces c.args.arguments.now c.loop-argument.arguments c.loop-argument.argument-index c.loop-argument.spaces (c.loop-argument.invariant m follows) all
