use Rattle.wasm_sections.proofs.Common.{map, on_ok, instructions_view, expressions_explicit_appended, expressions_implicit_appended}
use Rattle.wasm_sections.proofs.element_items.append_expressions.Goals as goal

pub returns-then-explicit-clause-ok : goal.returns-then-explicit-clause-ok
returns-then-explicit-clause-ok g c =
    on_ok c.write_minimal.result _ _ c.write_minimal.ensures.ok λ a.
    expressions_explicit_appended c.args.explicit c.args.ty (map instructions_view c.args.elements.now.items) c.args.sink.now.items c.encode.new.sink.items c.write_minimal.new.sink.items c.if-explicit.true c.in_ok-encode.ensures.appends.ok a

pub returns-clause-ok : goal.returns-clause-ok
returns-clause-ok g c =
    on_ok c.write_minimal-2.result _ _ c.write_minimal-2.ensures.ok λ a. expressions_implicit_appended c.args.explicit c.args.ty (map instructions_view c.args.elements.now.items) c.args.sink.now.items c.write_minimal-2.new.sink.items c.if-explicit.false a
