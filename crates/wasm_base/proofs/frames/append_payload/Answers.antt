use Rattle.wasm_base.proofs.Std.{rules}
use Rattle.wasm_base.proofs.DecodedValues.{behind_encodable}
use Rattle.wasm_base.proofs.frames.append_payload.Goals as goal

pub returns-clause-too_long : goal.returns-clause-too_long
returns-clause-too_long g c = λ h.
    let t = g.T.Layout in
    c.prefix_size_since.ensures.too_long (behind_encodable t.format (t.view c.args.value.now) c.len-start.result c.args.sink.now.items c.write_minimal.new.sink.items c.laws.ensures.encodings (search rules) c.in_ok-write_minimal.ensures.ok h)
