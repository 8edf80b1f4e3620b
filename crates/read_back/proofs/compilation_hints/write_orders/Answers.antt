use Rattle.wasm_base.proofs.Words.{◌<◌, ◌^◌, ◌∷◌, [], arith, size_prefixed, All-cons, All-nil}
use Rattle.wasm_custom.proofs.Words.{adds_hinted, encodes_entries, orders_payload, new_hinted}
use Rattle.wasm_custom.specs.CodeMetadata.{IsOrder, order, order_encoding}
use Rattle.read_back.proofs.compilation_hints.write_orders.Goals as goal

pub returns : goal.returns
returns g c =
    let none = new_hinted {F = order} {Is = IsOrder} {encoding = order_encoding} c.new-section.ensures in
    let one = adds_hinted (λ o. o) none c.args.index c.in_ok-function_hints.ensures (omega (arith, c.ranges.index.fits)) ((omega arith, All-cons (λ n. n < 2 ^ 32) 1 (5 ∷ []) (omega arith) (All-cons (λ n. n < 2 ^ 32) 5 [] (omega arith) (All-nil (λ n. n < 2 ^ 32)))), tt) in
    encodes_entries (size_prefixed orders_payload) _ _ c.encode.ensures.appends c.encode.ensures.read one
