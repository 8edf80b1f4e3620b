use Rattle.std.specs.Prelude.{map}
use Rattle.std.proofs.Common.{subst}
use Rattle.wasm_base.specs.Minimal.{AppendsMinimal, both_grammars}
use Rattle.wasm_base.specs.Numbers.{admitted}
use Rattle.wasm_base.proofs.EffectLaws.{decoded_whole_minimizes}
use Rattle.wasm_custom.specs.Linking.{link_view, linking_payload}
use Rattle.read_back.proofs.custom.rewritten_linking.Goals as goal

pub returns-clause-found : goal.returns-clause-found
returns-clause-found g c =
    let old = c.args.sink.now.items in
    let new = c.append_links.new.sink.items in
    let items = c.in_ok-items.items.items in
    let appended = subst (λ xs. AppendsMinimal both_grammars linking_payload (map link_view xs) old new) c.deref.ensures.value c.in_ok-append_links.ensures.ok in
    decoded_whole_minimizes admitted linking_payload (map link_view items) c.args.payload.now old new tt c.in_ok-items.ensures.found appended
