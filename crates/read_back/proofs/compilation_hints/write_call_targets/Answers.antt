use Rattle.wasm_base.proofs.Words.{◌∷◌, [], arith, map, size_prefixed, subst, sym, All, All-cons, All-nil}
use Rattle.wasm_custom.proofs.Words.{adds_hinted, call_targets_payload, encodes_entries, new_hinted}
use Rattle.wasm_custom.specs.CodeMetadata.{ContainsCallTargets, IsTarget, target_view, targets, targets_encoding, targets_view}
use Rattle.read_back.proofs.compilation_hints.write_call_targets.Goals as goal

pub returns : goal.returns
returns c =
    let is = c.in_ok-value.ensures.items in
    let plain = subst (λ ts. All IsTarget (map target_view ts)) (sym is) (All-cons IsTarget (c.args.index, 90) [] (omega (arith, c.ranges.index.fits), omega arith) (All-nil IsTarget)) in
    let none = new_hinted {F = targets} {Is = All IsTarget} {encoding = targets_encoding} c.new-section.ensures in
    let one = adds_hinted targets_view none 0 c.in_ok-function_hints.ensures (omega arith) ((omega arith, plain), tt) in
    encodes_entries (size_prefixed call_targets_payload) _ _ c.encode.ensures.appends c.encode.ensures.read (subst (λ ts. ContainsCallTargets c.function_hints.new.self ((0, (5, map target_view ts) ∷ []) ∷ [])) is one)
