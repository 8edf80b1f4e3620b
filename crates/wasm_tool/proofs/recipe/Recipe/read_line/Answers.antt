use Rattle.wasm_tool.proofs.Common.{◌≡◌, ◌∷◌, List, ℕ, codes, ap, ap₂, sym, subst, ◌∙◌, counted_words, entry_of, entry_of_words, name_entry, rest_of, Follows, Version}
use Rattle.wasm_tool.proofs.recipe.Recipe.read_line.Goals as goal

-- The entry of a line of this command.
named : (version given : Version) (line text command rest : List ℕ) (words : List (List ℕ)) → given ≡ version → text ≡ line → counted_words given text ≡ command ∷ words → rest ≡ rest_of text → command ≡ codes "name"
    → entry_of version line ≡ name_entry rest
named version given line text command rest words v t counted left is =
    ap (λ ws. entry_of_words version ws (rest_of line)) (sym (ap₂ counted_words v t) ∙ counted ∙ ap (λ c. c ∷ words) is) ∙ ap name_entry (sym (left ∙ ap rest_of t))

pub returns-in-name : goal.returns-in-name
returns-in-name g c =
    let said = named c.args.version c.new-words.result.version c.args.line.now c.new-words.result.rest.now c.in-Some.command.now _ _ c.new-words.ensures.version c.new-words.ensures.rest c.in-Some.ensures.steps.1 c.in-Some.ensures.steps.2 c.in-name.is in
    subst (λ entry. Follows entry c.args.self.now c.read_name.new.self c.read_name.result) (sym said) c.read_name.ensures
