use Rattle.wasm_base.proofs.Words.{refl, codes, ascii, size_prefixed}
use Rattle.wasm_custom.proofs.Calls.{new_objects, adds_segments, adds_inits, adds_comdats, adds_object_symbols, adds_object_target, encodes_entries}
use Rattle.wasm_custom.specs.Linking.{object_payload}
use Rattle.read_back.proofs.objects.write_objects.Goals as goal

pub returns : goal.returns
returns g c =
    let s1 = adds_segments (new_objects c.new-section.ensures) c.in_ok-segments.ensures c.in_ok-segments-2.ensures.ok in
    let s2 = adds_inits s1 c.in_ok-functions.ensures c.in_ok-init_functions.ensures.ok in
    let s3 = adds_comdats s2 c.in_ok-comdats.ensures c.in_ok-comdats-2.ensures.ok in
    let s4 = adds_object_symbols s3 c.in_ok-symbols.ensures c.in_ok-symbol_table.ensures.ok (tt, (refl, tt)) in
    let s5 = adds_object_target s4 (codes "wasm32") c.in_ok-target_arch.ensures.ok (ascii refl) in
    encodes_entries (size_prefixed object_payload) _ _ c.encode.ensures.appends c.encode.ensures.read s5
