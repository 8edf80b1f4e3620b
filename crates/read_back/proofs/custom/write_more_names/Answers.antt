-- Written by tools/answers.
use Rattle.read_back.proofs.Common.{refl, size_prefixed, new_names, adds_module_name, adds_other_names, encodes_entries, name_payload}
use Rattle.read_back.proofs.custom.write_more_names.Goals as goal

pub returns : goal.returns
returns g c =
    let s1 = adds_module_name (new_names c.new-section.ensures) c.args.name.now c.in_ok-module.ensures.ok c.utf8.name in
    let s2 = adds_other_names s1 14 c.args.more.now c.in_ok-raw.ensures.ok refl in
    encodes_entries (size_prefixed name_payload) _ _ c.encode.ensures.appends c.encode.ensures.read s2
