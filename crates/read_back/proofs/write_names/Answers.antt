-- Written by tools/answers.
use Rattle.read_back.proofs.Common.{arith, refl, size_prefixed, new_map, adds_name, new_names, adds_module_name, adds_names, encodes_entries, name_payload}
use Rattle.read_back.proofs.write_names.Goals as goal

pub returns : goal.returns
returns g c =
    let s1 = adds_name (new_map c.new-functions.ensures) (0, c.args.function.now) c.in_ok-append.ensures.ok c.in_ok-append.ensures.counted c.in_ok-append.ensures.was_encodable (omega arith) c.utf8.function in
    let s2 = adds_module_name (new_names c.new-section.ensures) c.args.name.now c.in_ok-module.ensures.ok c.utf8.name in
    let s3 = adds_names s2 1 s1 c.in_ok-functions.ensures.ok refl in
    encodes_entries (size_prefixed name_payload) _ _ c.encode.ensures.appends c.encode.ensures.read s3
