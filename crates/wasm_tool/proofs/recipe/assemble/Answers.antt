use Rattle.wasm_tool.proofs.Common.{◌≡◌, ◌∙◌, wasm_module, DecodesWhole, All, lines_of, IsGood, IsEncodableRecipe, entries_of, recipe_module, sections_of, First, module_decodes}
use Rattle.wasm_tool.proofs.Common.{module_encoding-contains, on_module, recipe_encodable}
use Rattle.wasm_tool.proofs.recipe.assemble.Goals as goal

pub returns-clause-good : goal.returns-clause-good
returns-clause-good g c =
    on_module First (lines_of c.args.lines.now) c.module_of.new.self c.module_of.result (λ bytes. bytes.items) (λ _. All (IsGood First) (lines_of c.args.lines.now)) (c.module_of.ensures c.new-recipe.ensures)
    (λ _ made. made.contains.good)

pub returns-clause-was_encodable : goal.returns-clause-was_encodable
returns-clause-was_encodable g c =
    on_module First (lines_of c.args.lines.now) c.module_of.new.self c.module_of.result (λ bytes. bytes.items) (λ _. IsEncodableRecipe (entries_of First (lines_of c.args.lines.now))) (c.module_of.ensures c.new-recipe.ensures)
    (λ _ made. recipe_encodable First (lines_of c.args.lines.now) c.module_of.new.self made.contains made.used made.encodable)

pub returns-clause-value : goal.returns-clause-value
returns-clause-value g c =
    on_module First (lines_of c.args.lines.now) c.module_of.new.self c.module_of.result (λ bytes. bytes.items) (λ bytes. bytes.items ≡ recipe_module (entries_of First (lines_of c.args.lines.now))) (c.module_of.ensures c.new-recipe.ensures)
    (λ _ made. made.text ∙ module_encoding-contains First (lines_of c.args.lines.now) c.module_of.new.self made.contains)

pub returns-clause-read : goal.returns-clause-read
returns-clause-read g c =
    on_module First (lines_of c.args.lines.now) c.module_of.new.self c.module_of.result (λ bytes. bytes.items) (λ bytes. DecodesWhole wasm_module bytes.items (sections_of (entries_of First (lines_of c.args.lines.now)))) (c.module_of.ensures c.new-recipe.ensures)
    (λ bytes made. module_decodes First (lines_of c.args.lines.now) c.module_of.new.self bytes.items made.contains made.encodable made.text)
