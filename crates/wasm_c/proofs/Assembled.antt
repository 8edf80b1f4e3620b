-- This file proves the result of a call with a recipe from that of assembling its text.
use Rattle.wasm_base.proofs.Words.{◌≡◌, ℕ, List, sym, subst, inl, inr, Result, Ok, Err, IfOk, MatchResult, OnOk, IsUtf8, wasm_module, DecodesWhole}
use Rattle.std.specs.Prelude.{All, IfErr}
use Rattle.wasm_tool.specs.Words.{Script, IsGood, entries_of, recipe_module, sections_of, Explains}
use Rattle.wasm_tool.specs.declared.fault.RecipeFault.{RecipeFault}
use Rattle.wasm_c.specs.declared.TheConstants.{NO_ANSWER}
use Rattle.wasm_c.specs.Assembled.{Gives, Outcome, cause_number}

-- The promise of assembling a script.
pub record IsAssembled {X : Type 0} (script : Script) (items : X → List ℕ) (result : Result X RecipeFault) : Type 0 where
  pub good : OnOk result (All (IsGood script.version) script.lines)
  pub value : IfOk result (λ x. items x ≡ recipe_module (entries_of script.version script.lines))
  pub read : IfOk result (λ x. DecodesWhole wasm_module (items x) (sections_of (entries_of script.version script.lines)))
  pub fault : IfErr result (λ fault. Explains script.version script.lines fault.line fault.cause)

of_script : {X : Type 0} (script : Script) (recipe old new : List ℕ) (line cause n : ℕ) (items : X → List ℕ) (result : Result X RecipeFault) → IsUtf8 recipe → IsAssembled script items result
    → MatchResult result (λ x. Gives (items x) old new n × (line ≡ 0) × (cause ≡ 0)) (λ fault. (n ≡ NO_ANSWER) × (new ≡ old) × (line ≡ fault.line) × (cause ≡ cause_number fault.cause))
    → Outcome script recipe old new line cause n
of_script script recipe old new line cause n items (Ok x) utf8 made given = inr (record {
  utf8 = utf8;
  good = made.good;
  gives = subst (λ bytes. Gives bytes old new n) made.value given.0;
  read = subst (λ bytes. DecodesWhole wasm_module bytes (sections_of (entries_of script.version script.lines))) made.value made.read;
  no_line = given.1;
  no_cause = given.2;
})
of_script script recipe old new line cause n items (Err fault) utf8 made given = inl (record {
  answer = given.0;
  kept = given.1;
  why = inr (fault.cause, given.3, subst (λ l. Explains script.version script.lines l fault.cause) (sym given.2) made.fault);
})

-- The same for the text of a recipe.
pub outcome : {X : Type 0} (script_of : List ℕ → Script) {text recipe : List ℕ} (old new : List ℕ) (line cause n : ℕ) (items : X → List ℕ) (result : Result X RecipeFault) → (text ≡ recipe) × IsUtf8 recipe
    → IsAssembled (script_of text) items result
    → MatchResult result (λ x. Gives (items x) old new n × (line ≡ 0) × (cause ≡ 0)) (λ fault. (n ≡ NO_ANSWER) × (new ≡ old) × (line ≡ fault.line) × (cause ≡ cause_number fault.cause))
    → Outcome (script_of recipe) recipe old new line cause n
outcome script_of {text} {recipe} old new line cause n items result same made given =
    of_script (script_of recipe) recipe old new line cause n items result same.1 (subst (λ t. IsAssembled (script_of t) items result) same.0 made) given
