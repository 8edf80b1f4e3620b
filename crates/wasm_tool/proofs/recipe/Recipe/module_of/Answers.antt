use Rattle.wasm_tool.proofs.Common.{Err, ap, nil_from_length, lines_of, lines_with, version_with, IsModule, refused_at_end, unused_at_end}
use Rattle.wasm_tool.proofs.recipe.Recipe.module_of.Goals as goal

pub returns-in_err-finish : goal.returns-in_err-finish
returns-in_err-finish g c =
    let version = version_with c.args.header in
    let lines = lines_with c.args.header (lines_of c.args.lines.now) in
    λ empty. refused_at_end version lines c.read_lines.new.self c.in_err-finish.field-0.0 c.from_residual-in_err-finish.result (λ bytes. IsModule version lines c.read_lines.new.self bytes.items)
    (c.in_ok-read_lines.ensures empty) (λ e encodable. c.in_err-finish.ensures.too_long encodable (ap Err e)) c.from_residual-in_err-finish.ensures.1

pub returns-then-not-is_empty : goal.returns-then-not-is_empty
returns-then-not-is_empty g c =
    λ empty. unused_at_end (version_with c.args.header) (lines_with c.args.header (lines_of c.args.lines.now)) c.read_lines.new.self (c.in_ok-read_lines.ensures empty)
    (λ none. let yes = c.is_empty.ensures.1 none in let no = c.if-not-is_empty.true in cc)

pub returns : goal.returns
returns g c = λ empty. record { contains = c.in_ok-read_lines.ensures empty; used = nil_from_length c.read_lines.new.self.locals (c.is_empty.ensures.0 c.if-not-is_empty.false); encodable = c.in_ok-finish.ensures.was_encodable; text = c.in_ok-finish.ensures.ok }
