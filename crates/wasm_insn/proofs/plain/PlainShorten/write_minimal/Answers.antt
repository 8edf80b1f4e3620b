use Rattle.wasm_insn.proofs.Common.{map, subst, sym, on_ok, AppendsMinimal, builders_alone, HasEncoding, instruction, table, argument_view}
use Rattle.wasm_insn.proofs.plain.PlainShorten.write_minimal.Goals as goal

pub returns-clause-ok : goal.returns-clause-ok
returns-clause-ok g c =
    on_ok c.append_instruction.result _ _ c.append_instruction.ensures.ok λ a.
    subst (λ xs. AppendsMinimal builders_alone (instruction table) (record { op = c.args.self.now.op; arguments = map argument_view xs }) c.args.sink.now.items c.append_instruction.new.sink.items) c.deref.ensures.value a

pub returns-clause-too_long : goal.returns-clause-too_long
returns-clause-too_long g c = λ h.
    c.append_instruction.ensures.too_long (subst (λ xs. HasEncoding builders_alone (instruction table) (record { op = c.args.self.now.op; arguments = map argument_view xs })) (sym c.deref.ensures.value) h)
