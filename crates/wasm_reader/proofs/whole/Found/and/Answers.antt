use Rattle.wasm_reader.proofs.Common.{◌∙◌, found_more, or_left, or_right, such_of, moved_of}
use Rattle.wasm_reader.proofs.whole.Found.and.Goals as goal

pub returns-then-self : goal.returns-then-self
returns-then-self c ws w h e same changed level =
    found_more c.args.target ws w c.args.self _ c.is_into.result c.loses-loses.result c.args.is_changed c.args.is_level c.args.number h e
    (such_of c.args.target w c.is_into.result _ same c.is_into.ensures) (moved_of c.args.target w c.loses-loses.result c.args.is_changed c.args.is_level _ same c.loses-loses.ensures) changed level c.first_holder.ensures
    (c.if-self.true ∙ or_left c.args.self.is_moved c.loses-loses.result c.if-self.true)

pub returns-else-self : goal.returns-else-self
returns-else-self c ws w h e same changed level =
    found_more c.args.target ws w c.args.self _ c.is_into.result c.loses-loses.result c.args.is_changed c.args.is_level c.args.number h e
    (such_of c.args.target w c.is_into.result _ same c.is_into.ensures) (moved_of c.args.target w c.loses-loses.result c.args.is_changed c.args.is_level _ same c.loses-loses.ensures) changed level c.first_holder.ensures
    (or_right c.args.self.is_moved c.loses-loses.result c.if-self.false)
