use Rattle.wasm_base.proofs.Words.{List, ℕ, [], ◌∷◌, ◌++◌, map, sym, subst, append_assoc, DecodesWhole, wasm_module}
use Rattle.wasm_remap.specs.Inserted.{between}
use Rattle.wasm_remap.specs.Places.{copied, sections_in}
use Rattle.wasm_remap.proofs.insert.module_of.Goals as goal

pub returns-clause-read : goal.returns-clause-read
returns-clause-read g c = λ payload says.
    let before = map copied (sections_in c.args.before.now) in
    let after = map copied (sections_in c.args.after.now) in
    let new : ℕ × List ℕ = (g.S.Section.id_of c.args.section.now, payload) in
    let first = c.in_ok-append_copies.ensures.ok [] c.in_ok-module.ensures.read in
    let second = c.in_ok-section.ensures.read.for_each before payload first says in
    let all = c.in_ok-append_copies-2.ensures.ok (before ++ new ∷ []) second in
    subst (λ s. DecodesWhole wasm_module s (before ++ new ∷ after)) (sym c.finish.ensures) (subst (λ z. DecodesWhole wasm_module c.append_copies-2.new.module z) (append_assoc before (new ∷ []) after) all)
