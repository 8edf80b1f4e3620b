use Rattle.wasm_code.proofs.Common.{map, rules, subst, refl, drop, size_prefixed_encoding, stays_short, members, on_ok_both, AppendsMinimal, builders_alone, size_prefixed_appended, front_then, body, body_view}
use Rattle.wasm_code.proofs.Common.{instruction, table, plain_view, body_appended, runs_encoded, body_encodable, front_sized}
use Rattle.wasm_code.proofs.body.BodyShorten.write_minimal.Goals as goal

pub returns-clause-ok : goal.returns-clause-ok
returns-clause-ok g c =
    let b = c.args.self.now in
    let old = c.args.sink.now.items in
    let middle = c.write_minimal.new.sink.items in
    let content = c.append_code.new.sink.items in
    let code = subst (λ xs. AppendsMinimal builders_alone (members (instruction table)) (map plain_view xs) middle content) c.deref.ensures.value c.in_ok-append_code.ensures.ok in
    let inside = body_appended b.runs.items (map plain_view b.code.items) old middle content c.in_ok-write_minimal.ensures.ok code in
    on_ok_both c.prefix_size_since.result _ _ _ c.prefix_size_since.ensures.sized c.prefix_size_since.ensures.was_encodable λ e encodable. size_prefixed_appended body (body_view b) c.len-start.result old content c.prefix_size_since.new.sink.items (search rules) inside encodable e

pub returns-in_err-write_minimal-clause-too_long : goal.returns-in_err-write_minimal-clause-too_long
returns-in_err-write_minimal-clause-too_long g c = λ h.
    let b = c.args.self.now in
    stays_short c.from_residual.result _ _ refl c.from_residual.ensures.1 (c.in_err-write_minimal.ensures.too_long (runs_encoded b.runs.items (map plain_view b.code.items) h))

pub returns-clause-front : goal.returns-clause-front
returns-clause-front g c =
    let old = c.args.sink.now.items in
    let content = c.append_code.new.sink.items in
    front_sized c.len-start.result old content c.prefix_size_since.new.sink.items (size_prefixed_encoding (drop c.len-start.result content)) c.prefix_size_since.result (search rules)
    (front_then old c.write_minimal.new.sink.items content c.write_minimal.ensures.front c.append_code.ensures.front) c.prefix_size_since.ensures.sized c.prefix_size_since.ensures.err

pub returns-clause-too_long : goal.returns-clause-too_long
returns-clause-too_long g c = λ h.
    let b = c.args.self.now in
    let old = c.args.sink.now.items in
    let middle = c.write_minimal.new.sink.items in
    let content = c.append_code.new.sink.items in
    let code = subst (λ xs. AppendsMinimal builders_alone (members (instruction table)) (map plain_view xs) middle content) c.deref.ensures.value c.in_ok-append_code.ensures.ok in
    c.prefix_size_since.ensures.too_long (body_encodable b.runs.items (map plain_view b.code.items) c.len-start.result old middle content (search rules) c.in_ok-write_minimal.ensures.ok code h)
