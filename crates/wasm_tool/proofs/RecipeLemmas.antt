-- This file proves the sections after some lines of a recipe, and the meaning of an error in the
-- next line.
use Rattle.wasm_base.proofs.Words.{◌≡◌, ℕ, ◌+◌, ◌-◌, ◌<◌, ◌≤◌, length, List, [], ◌∷◌, ◌++◌, take, map, Option, Some, None, Ok, Err, Result, refl, ap, ◌∙◌, sym, subst, arith, append_assoc, append-nil}
use Rattle.wasm_base.proofs.Words.{◌==◌, Bool, true, false, cond, Bor, ap₂, longest, take_all, Yields, slice_split, slice_get, flat_map, YieldsList, YieldsList-end, IsOk, IsOkAnd, IfOk, MatchResult}
use Rattle.wasm_base.proofs.Words.{All-nil, All-push, All-head, All-append, filter-append, map-append, common_steps, flat_map-append, unsigned_encoding, HasEncodableSize, any_section_encoding}
use Rattle.wasm_base.proofs.Words.{IsEncodableAnySection, module_encoding, IsEncodableModule, wasm_module, header, DecodesWhole, IsEncodableSection, module_encoding-decodes}
use Rattle.wasm_base.specs.declared.refused.Refused.{Refused}
use Rattle.std.proofs.Common.{filter}
use Rattle.wasm_tool.proofs.LineLemmas.{lines_of-length}
use Rattle.wasm_tool.proofs.VersionLemmas.{lines_with-length}
use Rattle.std.specs.Prelude.{All, IsErrAnd, option_map}
use Rattle.wasm_tool.specs.declared.fault.RecipeFault.{RecipeFault}
use Rattle.wasm_tool.specs.declared.fault.RecipeCause.{RecipeCause}
use Rattle.wasm_tool.specs.{lines_of, lines_with, header_of, version_of, version_with, versioned_lines, Addition, IsGood, AreEncodableNames, IsEncodableRecipe, entries_of, entry_of, added_to}
use Rattle.wasm_tool.specs.{body_encoding, bodies_of, left_locals, locals_id, last_of, names_of, section_of, start_of, sections_of, recipe_module, lines_before, lines_through, AddsEntries, Explains}
use Rattle.wasm_tool.specs.{IsEncodableWith, AreEncodableSections, ContainsLines, IsModule, Follows, IsOfWords, SaysCause, cause_of, listed, replaced, start_items}
use Rattle.wasm_tool.specs.declared.fault.RecipeCause.TheVariants.{UnknownCommand, BadNumber, BadHex, MissingWord, Memory, TooLong, SurplusWord, UnknownType, UnusedLocals}
use Rattle.wasm_tool.specs.declared.recipe.Recipe.{Recipe}
use Rattle.wasm_tool.specs.declared.version.Version.{Version}
use borrow.Author.Tests.{ne_eqb}
use Rattle.wasm_base.specs.declared.refused.Refused.TheVariants as refusals

good_line : (version : Version) (line : List ℕ) (entries : List Addition) → entry_of version line ≡ Ok entries → IsGood version line
unfolding IsGood
good_line version line entries says = subst IsOk (sym says) refl

added_to-append : (id : ℕ) (xs ys : List Addition) → added_to id (xs ++ ys) ≡ added_to id xs ++ added_to id ys
added_to-append id xs ys =
    ap (map (λ entry. entry.item)) (filter-append _ xs ys) ∙ map-append _ (filter _ xs) (filter _ ys)

-- The locals after two lists of entries, and their bodies.
left_locals-append : (runs : List (List ℕ)) (xs ys : List Addition) → left_locals runs (xs ++ ys) ≡ left_locals (left_locals runs xs) ys
left_locals-append runs [] ys = refl
left_locals-append runs (x ∷ xs) ys =
    go (left_locals [] xs) (left_locals (runs ++ x.item ∷ []) xs) (left_locals runs xs) (x.section == 10) (x.section == locals_id)
    (left_locals-append [] xs ys) (left_locals-append (runs ++ x.item ∷ []) xs ys) (left_locals-append runs xs ys)
  where
    go : (a b c : List (List ℕ)) {d e f : List (List ℕ)} (is_body is_run : Bool) → d ≡ left_locals a ys → e ≡ left_locals b ys → f ≡ left_locals c ys
        → cond is_body d (cond is_run e f) ≡ left_locals (cond is_body a (cond is_run b c)) ys
    go a b c true is_run body run other = body
    go a b c false true body run other = run
    go a b c false false body run other = other

bodies_of-append : (runs : List (List ℕ)) (xs ys : List Addition) → bodies_of runs (xs ++ ys) ≡ bodies_of runs xs ++ bodies_of (left_locals runs xs) ys
bodies_of-append runs [] ys = refl
bodies_of-append runs (x ∷ xs) ys =
    go (body_encoding runs x.item ∷ bodies_of [] xs, left_locals [] xs) (bodies_of (runs ++ x.item ∷ []) xs, left_locals (runs ++ x.item ∷ []) xs) (bodies_of runs xs, left_locals runs xs)
    (x.section == 10) (x.section == locals_id) (ap (λ bodies. body_encoding runs x.item ∷ bodies) (bodies_of-append [] xs ys)) (bodies_of-append (runs ++ x.item ∷ []) xs ys) (bodies_of-append runs xs ys)
  where
    go : (a b c : List (List ℕ) × List (List ℕ)) {d e f : List (List ℕ)} (is_body is_run : Bool) → d ≡ a.0 ++ bodies_of a.1 ys → e ≡ b.0 ++ bodies_of b.1 ys → f ≡ c.0 ++ bodies_of c.1 ys
        → cond is_body d (cond is_run e f) ≡ cond is_body a.0 (cond is_run b.0 c.0) ++ bodies_of (cond is_body a.1 (cond is_run b.1 c.1)) ys
    go a b c true is_run body run other = body
    go a b c false true body run other = run
    go a b c false false body run other = other

entries_of-push : (version : Version) (lines : List (List ℕ)) (line : List ℕ) (entries : List Addition) → entry_of version line ≡ Ok entries
    → entries_of version (lines ++ line ∷ []) ≡ entries_of version lines ++ entries
entries_of-push version lines line entries says = grind (arith, common_steps, says)

-- The last item of two lists is that of the second one, unless it is empty.
last_of-after : (xs : List (List ℕ)) (y : List ℕ) (ys : List (List ℕ)) → last_of (y ∷ ys) ≡ last_of (xs ++ y ∷ ys)
last_of-after [] y ys = refl
last_of-after (x ∷ []) y ys = refl
last_of-after (x ∷ z ∷ xs) y ys = last_of-after (z ∷ xs) y ys

replaced-last : (xs ys : List (List ℕ)) → replaced (last_of xs) ys ≡ last_of (xs ++ ys)
replaced-last xs [] = ap last_of (sym (append-nil xs))
replaced-last xs (y ∷ ys) = last_of-after xs y ys

last_of-again : (xs : List (List ℕ)) → last_of (last_of xs) ≡ last_of xs
last_of-again [] = refl
last_of-again (x ∷ []) = refl
last_of-again (x ∷ y ∷ xs) = last_of-again (y ∷ xs)

-- The items after one more line.
module _ (version : Version) (lines : List (List ℕ)) (line : List ℕ) (entries : List Addition) (says : entry_of version line ≡ Ok entries) where
  pushed : entries_of version (lines ++ line ∷ []) ≡ entries_of version lines ++ entries
  pushed = entries_of-push version lines line entries says

  -- Those of a section.
  added_to-push : (id : ℕ) {old : List (List ℕ)} → old ≡ added_to id (entries_of version lines) → added_to id (entries_of version (lines ++ line ∷ [])) ≡ old ++ added_to id entries
  added_to-push id held = ap (added_to id) pushed ∙ added_to-append id (entries_of version lines) entries ∙ ap (λ items. items ++ added_to id entries) (sym held)

  more_items : (id : ℕ) {old new : List (List ℕ)} → new ≡ old ++ added_to id entries → old ≡ added_to id (entries_of version lines) → new ≡ added_to id (entries_of version (lines ++ line ∷ []))
  more_items id added held = added ∙ sym (added_to-push id held)

  -- The locals without a body, and the bodies.
  left_locals-push : {locals : List (List ℕ)} → locals ≡ left_locals [] (entries_of version lines) → left_locals [] (entries_of version (lines ++ line ∷ [])) ≡ left_locals locals entries
  left_locals-push held = ap (left_locals []) pushed ∙ left_locals-append [] (entries_of version lines) entries ∙ ap (λ runs. left_locals runs entries) (sym held)

  bodies_of-push : {locals code : List (List ℕ)} → locals ≡ left_locals [] (entries_of version lines) → code ≡ bodies_of [] (entries_of version lines)
      → bodies_of [] (entries_of version (lines ++ line ∷ [])) ≡ code ++ bodies_of locals entries
  bodies_of-push held bodies =
      ap (bodies_of []) pushed ∙ bodies_of-append [] (entries_of version lines) entries ∙ ap₂ (λ before runs. before ++ bodies_of runs entries) (sym bodies) (sym held)

  -- A recipe that decodes one more line holds that line too.
  contains_more_of : {A : Type 0} (old new : Recipe A) → ContainsLines version lines old → AddsEntries old new entries → ContainsLines version (lines ++ line ∷ []) new
  contains_more_of old new contains adds = record {
    good = All-push (IsGood version) lines line contains.good (good_line version line entries says);
    types = more_items 1 adds.types contains.types;
    imports = more_items 2 adds.imports contains.imports;
    functions = more_items 3 adds.functions contains.functions;
    tables = more_items 4 adds.tables contains.tables;
    memories = more_items 5 adds.memories contains.memories;
    globals = more_items 6 adds.globals contains.globals;
    exports = more_items 7 adds.exports contains.exports;
    start = adds.start ∙ ap (λ items. replaced items (added_to 8 entries)) contains.start ∙ replaced-last (added_to 8 (entries_of version lines)) (added_to 8 entries)
        ∙ ap last_of (sym (added_to-push 8 refl));
    elements = more_items 9 adds.elements contains.elements;
    locals = adds.locals ∙ sym (left_locals-push contains.locals);
    code = adds.code ∙ sym (bodies_of-push contains.locals contains.code);
    segments = more_items 11 adds.segments contains.segments;
    names = more_items 0 adds.names contains.names;
  }

  -- If the module with one more line fits, so do the items of that line.
  encodable_with : {A : Type 0} (old : Recipe A) → ContainsLines version lines old → IsEncodableRecipe (entries_of version (lines ++ line ∷ [])) → IsEncodableWith old entries
  encodable_with old contains encodable = record {
    types = subst IsEncodableSection (added_to-push 1 contains.types) encodable.types;
    imports = subst IsEncodableSection (added_to-push 2 contains.imports) encodable.imports;
    functions = subst IsEncodableSection (added_to-push 3 contains.functions) encodable.functions;
    tables = subst IsEncodableSection (added_to-push 4 contains.tables) encodable.tables;
    memories = subst IsEncodableSection (added_to-push 5 contains.memories) encodable.memories;
    globals = subst IsEncodableSection (added_to-push 6 contains.globals) encodable.globals;
    exports = subst IsEncodableSection (added_to-push 7 contains.exports) encodable.exports;
    elements = subst IsEncodableSection (added_to-push 9 contains.elements) encodable.elements;
    locals = subst (λ runs. length runs ≤ longest) (left_locals-push contains.locals) encodable.locals;
    code = subst IsEncodableSection (bodies_of-push contains.locals contains.code) encodable.code;
    segments = subst IsEncodableSection (added_to-push 11 contains.segments) encodable.segments;
    names = subst AreEncodableNames (added_to-push 0 contains.names) encodable.names;
  }

with_value : {T E : Type 0} (r : Result T E) (P : T → Type 0) (Q : Type 0) → ((x : T) → r ≡ Ok x → P x → Q) → IsOkAnd r P → Q
with_value (Ok x) P Q f h = f x refl h
with_value (Err e) P Q f h = absurd h

pub contains_more : {A : Type 0} (version : Version) (lines : List (List ℕ)) (line : List ℕ) (old new : Recipe A) → ContainsLines version lines old
    → Follows (entry_of version line) old new (Ok tt) → ContainsLines version (lines ++ line ∷ []) new
contains_more version lines line old new contains follows =
    with_value (entry_of version line) (AddsEntries old new) (ContainsLines version (lines ++ line ∷ []) new)
    (λ entries says adds. contains_more_of version lines line entries says old new contains adds) follows

-- An error of the words of a line is the error of the line.
pub follows_words : {A : Type 0} (said : Result (List Addition) RecipeCause) (old new : Recipe A) (cause : RecipeCause) → said ≡ Err cause → IsOfWords cause → Follows said old new (Err cause)
follows_words said old new Memory says of_words = absurd of_words
follows_words said old new TooLong says of_words = absurd of_words
follows_words said old new UnusedLocals says of_words = absurd of_words
follows_words said old new cause says of_words = says

-- So is the error of an item, if the item fits unless the error is `TooLong`.
pub follows_refused : {A : Type 0} (said : Result (List Addition) RecipeCause) (entries : List Addition) (old new : Recipe A) (refused : Refused) (result : Result (Unit {0}) RecipeCause)
    → said ≡ Ok entries → (refused ≡ refusals.TooLong → ¬ (IsEncodableWith old entries)) → IsErrAnd result (λ cause. cause ≡ cause_of refused) → Follows said old new result
follows_refused said entries old new refused (Ok done) says full made = absurd made
follows_refused said entries old new refused (Err cause) says full made = subst (λ cause. Follows said old new (Err cause)) (sym made) (go refused full)
  where
    go : (refused : Refused) → (refused ≡ refusals.TooLong → ¬ (IsEncodableWith old entries)) → Follows said old new (Err (cause_of refused))
    go refusals.Memory full = tt
    go refusals.TooLong full = subst (λ said. IsOkAnd said (λ entries. ¬ (IsEncodableWith old entries))) (sym says) (full refl)

-- All lines are decoded if nothing of the text remains.
pub all_read : {S A : Type 0} {steps : S → Option (Bor (List ℕ)) → S → Type 0} {s t u : S} {recipe : Recipe A} {number : ℕ} {next : Option (Bor (List ℕ))} (version : Version) (header : Option ℕ) (text : List ℕ) (parts : List (Bor (List ℕ)))
    → YieldsList steps (λ part. part.now) s (slice_split (λ b. b == 0x0A) text) → Yields steps s parts t → next ≡ None → steps t next u → number ≡ length parts
    → ContainsLines version (take number (lines_with header (lines_of text))) recipe → ContainsLines version (lines_with header (lines_of text)) recipe
all_read {t = t} {u = u} {recipe = recipe} {number = number} {next = next} version header text parts road so_far none stop count contains =
    let all = (YieldsList-end road parts t so_far next u none stop).1 in
    subst (λ lines. ContainsLines version lines recipe)
    (take_all number (lines_with header (lines_of text)) (omega (arith, all, count, lines_of-length text, lines_with-length header (lines_of text)))) contains

not_zero : (n : ℕ) → (n + 1 == 0) ≡ false
not_zero n = ne_eqb (n + 1) 0 (λ e. omega arith)

lines_before-next : (lines : List (List ℕ)) (n : ℕ) → lines_before (n + 1) lines ≡ take n lines
lines_before-next lines n = ap (λ b. cond b lines (take (n + 1 - 1) lines)) (not_zero n) ∙ ap (λ k. take k lines) (let e : n + 1 - 1 ≡ n = omega arith in e)

lines_through-next : (lines : List (List ℕ)) (n : ℕ) → lines_through (n + 1) lines ≡ take (n + 1) lines
lines_through-next lines n = ap (λ b. cond b lines (take (n + 1) lines)) (not_zero n)

-- The line of index `number` is decoded, and no line before it has an error.
module _ {A : Type 0} (version : Version) (lines : List (List ℕ)) (number : ℕ) (line : List ℕ) (old new : Recipe A)
    (contains : ContainsLines version (take number lines) old) (at : slice_get lines number ≡ Some line)
    (next : take (number + 1) lines ≡ take number lines ++ line ∷ []) (within : number < length lines) where
  through : lines_through (number + 1) lines ≡ take number lines ++ line ∷ []
  through = lines_through-next lines number ∙ next

  explained : (cause : RecipeCause) → SaysCause version lines (number + 1) cause → Explains version lines (number + 1) cause
  explained cause says = record {
    within = omega (arith, within);
    before = subst (All (IsGood version)) (sym (lines_before-next lines number)) contains.good;
    says = says;
  }

  fault_is : (cause : RecipeCause) → entry_of version line ≡ Err cause → (1 ≤ number + 1) × (option_map (λ l. entry_of version l) (slice_get lines (number + 1 - 1)) ≡ Some (Err cause))
  fault_is cause says =
      let index : number + 1 - 1 ≡ number = omega arith in
      (omega arith, ap (λ k. option_map (λ l. entry_of version l) (slice_get lines k)) index ∙ ap (option_map (λ l. entry_of version l)) at ∙ ap Some says)

  too_long : (entries : List Addition) → entry_of version line ≡ Ok entries → ¬ (IsEncodableWith old entries) → SaysCause version lines (number + 1) TooLong
  too_long entries says full = (
    subst (All (IsGood version)) (sym through) (All-push (IsGood version) (take number lines) line contains.good (good_line version line entries says)),
    λ encodable. full (encodable_with version (take number lines) line entries says old contains (subst (λ read. IsEncodableRecipe (entries_of version read)) through encodable)),
  )

  -- The meaning of an error in a line for the recipe.
  pub explains : (cause : RecipeCause) → Follows (entry_of version line) old new (Err cause) → Explains version lines (number + 1) cause
  explains Memory follows = explained Memory tt
  explains TooLong follows =
      explained TooLong (with_value (entry_of version line) (λ entries. ¬ (IsEncodableWith old entries)) (SaysCause version lines (number + 1) TooLong) too_long follows)
  explains UnknownCommand follows = explained UnknownCommand (fault_is UnknownCommand follows)
  explains BadNumber follows = explained BadNumber (fault_is BadNumber follows)
  explains BadHex follows = explained BadHex (fault_is BadHex follows)
  explains MissingWord follows = explained MissingWord (fault_is MissingWord follows)
  explains SurplusWord follows = explained SurplusWord (fault_is SurplusWord follows)
  explains UnknownType follows = explained UnknownType (fault_is UnknownType follows)
  explains UnusedLocals follows = absurd follows

-- ---- after all lines

sections_encodable : {A : Type 0} (version : Version) (lines : List (List ℕ)) (recipe : Recipe A) → ContainsLines version lines recipe → IsEncodableRecipe (entries_of version lines) → AreEncodableSections recipe
sections_encodable version lines recipe contains encodable = record {
  types = subst IsEncodableSection (sym contains.types) encodable.types;
  imports = subst IsEncodableSection (sym contains.imports) encodable.imports;
  functions = subst IsEncodableSection (sym contains.functions) encodable.functions;
  tables = subst IsEncodableSection (sym contains.tables) encodable.tables;
  memories = subst IsEncodableSection (sym contains.memories) encodable.memories;
  globals = subst IsEncodableSection (sym contains.globals) encodable.globals;
  exports = subst IsEncodableSection (sym contains.exports) encodable.exports;
  start = subst (All HasEncodableSize) (sym contains.start) encodable.start;
  elements = subst IsEncodableSection (sym contains.elements) encodable.elements;
  code = subst IsEncodableSection (sym contains.code) encodable.code;
  segments = subst IsEncodableSection (sym contains.segments) encodable.segments;
  names = subst AreEncodableNames (sym contains.names) encodable.names;
}

pub recipe_encodable : {A : Type 0} (version : Version) (lines : List (List ℕ)) (recipe : Recipe A) → ContainsLines version lines recipe → recipe.locals ≡ [] → AreEncodableSections recipe
    → IsEncodableRecipe (entries_of version lines)
recipe_encodable version lines recipe contains used encodable = record {
  types = subst IsEncodableSection contains.types encodable.types;
  imports = subst IsEncodableSection contains.imports encodable.imports;
  functions = subst IsEncodableSection contains.functions encodable.functions;
  tables = subst IsEncodableSection contains.tables encodable.tables;
  memories = subst IsEncodableSection contains.memories encodable.memories;
  globals = subst IsEncodableSection contains.globals encodable.globals;
  exports = subst IsEncodableSection contains.exports encodable.exports;
  start = subst (All HasEncodableSize) contains.start encodable.start;
  elements = subst IsEncodableSection contains.elements encodable.elements;
  locals = omega (arith, ap length (sym contains.locals ∙ used));
  code = subst IsEncodableSection contains.code encodable.code;
  segments = subst IsEncodableSection contains.segments encodable.segments;
  names = subst AreEncodableNames contains.names encodable.names;
}

explains_at_end : {A : Type 0} (version : Version) (lines : List (List ℕ)) (recipe : Recipe A) (refused : Refused) → ContainsLines version lines recipe
    → (refused ≡ refusals.TooLong → ¬ (AreEncodableSections recipe)) → Explains version lines 0 (cause_of refused)
explains_at_end version lines recipe refused contains full = record { within = omega arith; before = contains.good; says = says refused full }
  where
    says : (refused : Refused) → (refused ≡ refusals.TooLong → ¬ (AreEncodableSections recipe)) → SaysCause version lines 0 (cause_of refused)
    says refusals.Memory full = tt
    says refusals.TooLong full = (contains.good, λ encodable. full refl (sections_encodable version lines recipe contains encodable))

-- An error after the last line, as an error of the recipe.
pub refused_at_end : {X A : Type 0} (version : Version) (lines : List (List ℕ)) (recipe : Recipe A) (refused : Refused) (result : Result X RecipeFault) (P : X → Type 0) → ContainsLines version lines recipe
    → (refused ≡ refusals.TooLong → ¬ (AreEncodableSections recipe))
    → IsErrAnd result (λ fault. (fault.line ≡ 0) × (fault.cause ≡ cause_of refused)) → MatchResult result P (λ fault. Explains version lines fault.line fault.cause)
refused_at_end version lines recipe refused (Ok x) P contains full made = absurd made
refused_at_end version lines recipe refused (Err fault) P contains full made =
    let at_zero = explains_at_end version lines recipe refused contains full in
    rw (made.0, made.1) at_zero

-- Locals without a body, after the last line.
pub unused_at_end : {A : Type 0} (version : Version) (lines : List (List ℕ)) (recipe : Recipe A) → ContainsLines version lines recipe → ¬ (length recipe.locals ≡ 0) → Explains version lines 0 UnusedLocals
unused_at_end version lines recipe contains some = record {
  within = omega arith;
  before = contains.good;
  says = (refl, λ none. some (ap length (contains.locals ∙ none)));
}

-- The module of the sections is that of the entries.
pub listed-contains : {A : Type 0} (version : Version) (lines : List (List ℕ)) (recipe : Recipe A) → ContainsLines version lines recipe → listed recipe ≡ sections_of (entries_of version lines)
listed-contains version lines recipe contains =
    let start : start_of (start_items recipe.start) ≡ start_of (added_to 8 (entries_of version lines)) =
    ap (λ items. map (λ item. (8, item)) items) (ap last_of contains.start ∙ last_of-again (added_to 8 (entries_of version lines))) in
    rw (contains.types, contains.imports, contains.functions, contains.tables, contains.memories, contains.globals, contains.exports, contains.elements, contains.code, contains.segments, contains.names, start) refl

pub module_encoding-contains : {A : Type 0} (version : Version) (lines : List (List ℕ)) (recipe : Recipe A) → ContainsLines version lines recipe → module_encoding (listed recipe) ≡ recipe_module (entries_of version lines)
unfolding recipe_module
module_encoding-contains version lines recipe contains = ap module_encoding (listed-contains version lines recipe contains)

section_of-encodable : (id : ℕ) (items : List (List ℕ)) → IsEncodableSection items → All IsEncodableAnySection (section_of id items)
section_of-encodable id [] encodable = All-nil IsEncodableAnySection
section_of-encodable id (item ∷ items) encodable = All-push IsEncodableAnySection [] _ (All-nil IsEncodableAnySection) encodable.size

start_of-encodable : (start : Option ℕ) → All HasEncodableSize (start_items start) → All IsEncodableAnySection (start_of (start_items start))
start_of-encodable None encodable = All-nil IsEncodableAnySection
start_of-encodable (Some index) encodable = All-push IsEncodableAnySection [] _ (All-nil IsEncodableAnySection) (All-head HasEncodableSize (unsigned_encoding index) [] encodable)

names_of-encodable : (items : List (List ℕ)) → AreEncodableNames items → All IsEncodableAnySection (names_of items)
names_of-encodable [] encodable = All-nil IsEncodableAnySection
names_of-encodable (item ∷ items) encodable = All-push IsEncodableAnySection [] _ (All-nil IsEncodableAnySection) encodable.size

listed-encodable : {A : Type 0} (recipe : Recipe A) → AreEncodableSections recipe → IsEncodableModule (listed recipe)
listed-encodable recipe encodable =
    let more = All-append IsEncodableAnySection in
    let defined = more _ _ (more _ _ (more _ _ (section_of-encodable 1 recipe.types encodable.types) (section_of-encodable 2 recipe.imports encodable.imports)) (section_of-encodable 3 recipe.functions encodable.functions)) (section_of-encodable 4 recipe.tables encodable.tables) in
    let before_start = more _ _ (more _ _ (more _ _ defined (section_of-encodable 5 recipe.memories encodable.memories)) (section_of-encodable 6 recipe.globals encodable.globals)) (section_of-encodable 7 recipe.exports encodable.exports) in
    let before_code = more _ _ (more _ _ before_start (start_of-encodable recipe.start encodable.start)) (section_of-encodable 9 recipe.elements encodable.elements) in
    let numbered = more _ _ (more _ _ before_code (section_of-encodable 10 recipe.code encodable.code)) (section_of-encodable 11 recipe.segments encodable.segments) in
    more _ _ numbered (names_of-encodable recipe.names encodable.names)

-- It decodes to these sections alone.
pub module_decodes : {A : Type 0} (version : Version) (lines : List (List ℕ)) (recipe : Recipe A) (bytes : List ℕ) → ContainsLines version lines recipe → AreEncodableSections recipe → bytes ≡ module_encoding (listed recipe)
    → DecodesWhole wasm_module bytes (sections_of (entries_of version lines))
module_decodes version lines recipe bytes contains encodable is =
    subst (λ sections. DecodesWhole wasm_module bytes sections) (listed-contains version lines recipe contains)
    (subst (λ bytes. DecodesWhole wasm_module bytes (listed recipe)) (sym is) (module_encoding-decodes (listed recipe) (listed-encodable recipe encodable)))

-- The result for the version that the text determines.
pub of_header : {X A : Type 0} (text : List ℕ) (header : Option ℕ) (recipe : Recipe A) (result : Result X RecipeFault) (items : X → List ℕ) → header ≡ header_of (lines_of text)
    → MatchResult result (λ x. IsModule (version_with header) (lines_with header (lines_of text)) recipe (items x)) (λ fault. Explains (version_with header) (lines_with header (lines_of text)) fault.line fault.cause)
    → MatchResult result (λ x. IsModule (version_of text) (versioned_lines text) recipe (items x)) (λ fault. Explains (version_of text) (versioned_lines text) fault.line fault.cause)
of_header text _ recipe result items is made =
    subst (λ at. MatchResult result (λ x. IsModule (version_with at) (lines_with at (lines_of text)) recipe (items x)) (λ fault. Explains (version_with at) (lines_with at (lines_of text)) fault.line fault.cause))
    is made

-- The consequences of a result that is a module.
pub on_module : {X A : Type 0} (version : Version) (lines : List (List ℕ)) (recipe : Recipe A) (result : Result X RecipeFault) (items : X → List ℕ) (P : X → Type 0)
    → MatchResult result (λ x. IsModule version lines recipe (items x)) (λ fault. Explains version lines fault.line fault.cause)
    → ((x : X) → IsModule version lines recipe (items x) → P x) → IfOk result P
on_module version lines recipe (Ok x) items P made follows = follows x made
on_module version lines recipe (Err fault) items P made follows = tt

-- The encoding of some sections after a header, then of more of them.
pub first_sections : (xs : List (ℕ × List ℕ)) (old new : List ℕ) → old ≡ header → new ≡ old ++ flat_map any_section_encoding xs → new ≡ module_encoding xs
unfolding module_encoding
first_sections xs old new e f = f ∙ ap (λ t. t ++ flat_map any_section_encoding xs) e

pub more_sections : (xs ys : List (ℕ × List ℕ)) (old mid new : List ℕ) → mid ≡ old ++ flat_map any_section_encoding xs → new ≡ mid ++ flat_map any_section_encoding ys
    → new ≡ old ++ flat_map any_section_encoding (xs ++ ys)
more_sections xs ys old mid new e f =
    f ∙ ap (λ t. t ++ flat_map any_section_encoding ys) e ∙ append_assoc old (flat_map any_section_encoding xs) (flat_map any_section_encoding ys)
    ∙ ap (λ t. old ++ t) (sym (flat_map-append any_section_encoding xs ys))
