use Rattle.wasm_custom.proofs.Common.{map, rules, on_ok_both, vector_appended, vector_encodable}
use Rattle.wasm_custom.proofs.linking.append_vector.Goals as goal

pub returns-clause-ok : goal.returns-clause-ok
returns-clause-ok g c = on_ok_both c.prefix_size_since.result _ _ _ c.prefix_size_since.ensures.sized c.prefix_size_since.ensures.was_encodable λ is encodable.
    vector_appended g.T.Layout.format c.args.id (map g.T.Layout.view c.args.items.now.items) c.len-start.result c.args.sink.now.items c.encode.new.sink.items c.write_minimal.new.sink.items c.prefix_size_since.new.sink.items
    c.in_ok-encode.ensures.appends.ok (search rules) c.in_ok-write_minimal.ensures.ok encodable is

pub returns-clause-too_long : goal.returns-clause-too_long
returns-clause-too_long g c = λ h.
    c.prefix_size_since.ensures.too_long
    (vector_encodable g.T.Layout.format c.args.id (map g.T.Layout.view c.args.items.now.items) c.len-start.result c.encode.new.sink.items c.write_minimal.new.sink.items c.laws.ensures (search rules) c.in_ok-write_minimal.ensures.ok h)
