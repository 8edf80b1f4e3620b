use Rattle.wasm_insn.proofs.Common.{map, on_ok, argument_view, instruction_appended, arguments_plain}
use Rattle.wasm_insn.proofs.plain.append_instruction.Goals as goal

pub returns-clause-ok : goal.returns-clause-ok
returns-clause-ok g c = on_ok c.append_arguments.result _ _ c.append_arguments.ensures.ok λ e. instruction_appended c.args.op c.args.args.now c.args.sink.now.items c.encode.new.sink.items c.append_arguments.new.sink.items c.in_ok-encode.ensures.appends.ok e

pub returns-clause-too_long : goal.returns-clause-too_long
returns-clause-too_long g c = λ h. c.append_arguments.ensures.too_long (arguments_plain (record { op = c.args.op; arguments = map argument_view c.args.args.now }) h)
