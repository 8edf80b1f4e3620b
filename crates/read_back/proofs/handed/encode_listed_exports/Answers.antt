use Rattle.read_back.proofs.Common.{each, contains_padded, adds_items_padded, encodes_items_padded, new_exports, exports_section, IsExport}
use Rattle.read_back.proofs.handed.encode_listed_exports.Goals as goal

pub returns-in-Ok : goal.returns-in-Ok
returns-in-Ok g c =
    let s1 = adds_items_padded exports_section.held_padded (contains_padded exports_section.held_padded (new_exports c.new-section.ensures)) c.in-Ok.ensures.ok (each IsExport c.args.exports.now c.plain_exports.ensures) in
    encodes_items_padded exports_section.held_padded c.encode.ensures.appends c.encode.ensures.read s1
