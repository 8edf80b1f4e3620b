use Rattle.std.proofs.Common.{rules, length, ◌-◌, ◌+◌, drop, take, sym, subst, ◌∙◌}
use Rattle.std.proofs.lemmas.List.{length-drop, take_all}
use Rattle.wasm_base.proofs.Words.{arith}
use Rattle.wasm_remap.specs.Places.{IsFound, sections_in}
use Rattle.wasm_remap.proofs.PlaceLaws.{found_split}
use Rattle.wasm_remap.proofs.places.found.Goals as goal

pub returns-then-id : goal.returns-then-id
returns-then-id g c =
    let xs = c.args.sections.now in
    let at = c.loop-at.at in
    let behind = take_all (length xs - (at + 1)) (drop (at + 1) xs) (omega (arith, length-drop (at + 1) xs)) in
    let found = found_split xs c.args.id at c.index-sections-at.result c.loop-at-test.true (search rules) (sym c.id.ensures ∙ c.if-id.true) c.loop-at.invariant.1 in
    subst (λ z. IsFound c.args.id (sections_in (take at xs)) c.index-sections-at.result.section (sections_in z) (sections_in xs)) (sym behind) found
