use Rattle.wasm_tool.proofs.Common.{◌≡◌, [], sym, ◌∙◌, wasm_module, DecodesWhole, All, version_of, versioned_lines, IsGood, IsEncodableRecipe, entries_of, left_locals, recipe_module, sections_of}
use Rattle.wasm_tool.proofs.Common.{module_decodes, module_encoding-contains, of_header, on_module, recipe_encodable}
use Rattle.wasm_tool.proofs.recipe.assemble_versioned.Goals as goal

pub returns-clause-good : goal.returns-clause-good
returns-clause-good g c =
    on_module (version_of c.args.lines.now) (versioned_lines c.args.lines.now) c.module_of.new.self c.module_of.result (λ bytes. bytes.items) (λ _. All (IsGood (version_of c.args.lines.now)) (versioned_lines c.args.lines.now)) (of_header c.args.lines.now c.header.result c.module_of.new.self c.module_of.result (λ bytes. bytes.items) c.header.ensures (c.module_of.ensures c.new-recipe.ensures))
    (λ _ made. made.contains.good)

pub returns-clause-used : goal.returns-clause-used
returns-clause-used g c =
    on_module (version_of c.args.lines.now) (versioned_lines c.args.lines.now) c.module_of.new.self c.module_of.result (λ bytes. bytes.items) (λ _. left_locals [] (entries_of (version_of c.args.lines.now) (versioned_lines c.args.lines.now)) ≡ []) (of_header c.args.lines.now c.header.result c.module_of.new.self c.module_of.result (λ bytes. bytes.items) c.header.ensures (c.module_of.ensures c.new-recipe.ensures))
    (λ _ made. sym made.contains.locals ∙ made.used)

pub returns-clause-was_encodable : goal.returns-clause-was_encodable
returns-clause-was_encodable g c =
    on_module (version_of c.args.lines.now) (versioned_lines c.args.lines.now) c.module_of.new.self c.module_of.result (λ bytes. bytes.items) (λ _. IsEncodableRecipe (entries_of (version_of c.args.lines.now) (versioned_lines c.args.lines.now))) (of_header c.args.lines.now c.header.result c.module_of.new.self c.module_of.result (λ bytes. bytes.items) c.header.ensures (c.module_of.ensures c.new-recipe.ensures))
    (λ _ made. recipe_encodable (version_of c.args.lines.now) (versioned_lines c.args.lines.now) c.module_of.new.self made.contains made.used made.encodable)

pub returns-clause-value : goal.returns-clause-value
returns-clause-value g c =
    on_module (version_of c.args.lines.now) (versioned_lines c.args.lines.now) c.module_of.new.self c.module_of.result (λ bytes. bytes.items) (λ bytes. bytes.items ≡ recipe_module (entries_of (version_of c.args.lines.now) (versioned_lines c.args.lines.now))) (of_header c.args.lines.now c.header.result c.module_of.new.self c.module_of.result (λ bytes. bytes.items) c.header.ensures (c.module_of.ensures c.new-recipe.ensures))
    (λ _ made. made.text ∙ module_encoding-contains (version_of c.args.lines.now) (versioned_lines c.args.lines.now) c.module_of.new.self made.contains)

pub returns-clause-read : goal.returns-clause-read
returns-clause-read g c =
    on_module (version_of c.args.lines.now) (versioned_lines c.args.lines.now) c.module_of.new.self c.module_of.result (λ bytes. bytes.items) (λ bytes. DecodesWhole wasm_module bytes.items (sections_of (entries_of (version_of c.args.lines.now) (versioned_lines c.args.lines.now)))) (of_header c.args.lines.now c.header.result c.module_of.new.self c.module_of.result (λ bytes. bytes.items) c.header.ensures (c.module_of.ensures c.new-recipe.ensures))
    (λ bytes made. module_decodes (version_of c.args.lines.now) (versioned_lines c.args.lines.now) c.module_of.new.self bytes.items made.contains made.encodable made.text)
