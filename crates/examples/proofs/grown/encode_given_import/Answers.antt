use Rattle.examples.proofs.Common.{adds_item, encodes_items, new_imports, import_item}
use Rattle.examples.proofs.grown.encode_given_import.Goals as goal

pub returns : goal.returns
returns g c =
    let section = adds_item (new_imports c.new-section.ensures) (import_item c.args.import.now) c.in_ok-import.ensures.ok (c.plain_name.ensures, (c.plain_name-2.ensures, c.plain_entity.ensures)) in
    encodes_items c.encode.ensures.appends c.encode.ensures.read section
