-- Written by tools/answers.
use Rattle.read_back.proofs.Common.{refl, codes, ascii, size_prefixed, new_linking, adds_symbols, adds_target, encodes_entries, linking_payload}
use Rattle.read_back.proofs.custom.write_linking.Goals as goal

pub returns : goal.returns
returns g c =
    let s1 = adds_symbols (new_linking c.new-section.ensures) c.in_ok-symbols.ensures c.in_ok-symbol_table.ensures.ok (refl, tt) in
    let s2 = adds_target s1 (codes "wasm32") c.in_ok-target_arch.ensures.ok (ascii refl) in
    encodes_entries (size_prefixed linking_payload) _ _ c.encode.ensures.appends c.encode.ensures.read s2
