-- This file proves that certain bytes are not a custom section.
use Rattle.wasm_base.proofs.Words.{◌≡◌, ℕ, ◌<◌, List, [], ◌∷◌, ◌++◌, length, IsUtf8, refl, sym, subst, ◌∙◌, append-nil, arith, Format, u32, byte, name, pair, mapped, tagged, choice, impossible}
use Rattle.wasm_base.proofs.Words.{optional, size_prefixed, vec, members, just, fixed, such, prefixed, Then, RejectsAllAfterPadded, padded, AreGroups, Unambiguous, just_unambiguous, name_unambiguous}
use Rattle.wasm_base.proofs.Words.{ascii, byte_unambiguous, fixed_unambiguous, size_prefixed_of, vec_of_one, then_at, tagged_at, member_at, rejects_padded, u32_unambiguous, u32_small}
use Rattle.wasm_base.proofs.SectionLaws.{unambiguous}
use Rattle.wasm_custom.specs.{named_payload, hint, hints, hints_name, hints_payload, LinkItem, link_tags, link, linking_name, version, linking_payload, Symbol, has_name, indexed_of, symbol_tags}
use Rattle.wasm_custom.specs.{built_symbol}
use Rattle.wasm_custom.specs.Hints.{Hints}
use Rattle.wasm_custom.specs.declared.hints.BranchHint.{BranchHint}
use Rattle.wasm_custom.specs.declared.symbols.SymbolKind.TheVariants.{Function}
use Rattle.wasm_custom.proofs.HintLaws.{hints_section}
use Rattle.wasm_custom.proofs.LinkLaws.{linking_section}

-- ---- the suffix of a known front, up to the last byte

behind_tag : {X Y : Type 0} {F : Format X} {G : X → Format Y} → Unambiguous F → (a : List ℕ) (x : X) → F padded a x → (rest : List ℕ) (y : Y) → tagged F G padded (a ++ rest) y → G x padded rest y
behind_tag {G = G} k a x known rest y h =
    let found = tagged_at k padded a x known rest (a ++ rest) [] y (sym (append-nil (a ++ rest))) h in
    subst (λ s. G x padded s y) (sym (found.1 ∙ append-nil found.0)) found.2

behind_first : {X Y : Type 0} {F : Format X} {G : X → Format Y} → Unambiguous F → (a : List ℕ) (x : X) → F padded a x → (rest : List ℕ) (p : X × Y) → Then F G padded (a ++ rest) p → G x padded rest p.1
behind_first {G = G} k a x known rest p h =
    let found = then_at k padded a x known rest (a ++ rest) [] p (sym (append-nil (a ++ rest))) h in
    subst (λ s. G x padded s p.1) (sym (found.1 ∙ append-nil found.0)) found.2

-- A value after a name whose length is one byte.
behind_name : {X : Type 0} {F : Format X} (size : ℕ) (n content : List ℕ) (x : X) → size < 128 → length n ≡ size → IsUtf8 n → named_payload n F padded (size ∷ (n ++ content)) x → F padded content x
behind_name {F = F} size n content x low l utf8 h =
    behind_tag {F = just n name} {G = λ u. F} (just_unambiguous n name_unambiguous) (size ∷ n) (tt {0})
    (record { front = size ∷ []; content = n; joined = refl; size = subst (λ z. u32 padded (size ∷ []) z) (sym l) (u32_small padded size low); encodes = refl }, utf8) content x h

-- ---- a hint whose value has two bytes

no_hint : (x : BranchHint) → hint padded (3 ∷ 1 ∷ 128 ∷ 1 ∷ []) x → ⊥
no_hint x h =
    let marked = behind_first {F = u32} {G = λ n. prefixed (1 ∷ []) (such (λ b. b < 128) byte)} u32_unambiguous (3 ∷ []) 3 (u32_small padded 3 (omega arith)) (1 ∷ 128 ∷ 1 ∷ []) h.0 h.2 in
    let value = behind_tag {F = fixed (1 ∷ []) (tt {0})} {G = λ u. such (λ b. b < 128) byte} (fixed_unambiguous (1 ∷ []) (tt {0})) (1 ∷ []) (tt {0}) (refl, refl) (128 ∷ 1 ∷ []) h.0.1 marked in
    absurd (cc value.0)

no_hints : (xs : List Hints) → hints_payload padded (25 ∷ (hints_name ++ (1 ∷ 0 ∷ 1 ∷ 3 ∷ 1 ∷ 128 ∷ 1 ∷ []))) xs → ⊥
no_hints xs h =
    let content : List ℕ = 1 ∷ 0 ∷ 1 ∷ 3 ∷ 1 ∷ 128 ∷ 1 ∷ [] in
    let all = behind_tag {F = fixed [] (tt {0})} {G = λ u. vec hints} (fixed_unambiguous [] (tt {0})) [] (tt {0}) (refl, refl) content xs (behind_name 25 hints_name content xs (omega arith) refl (ascii {bytes = hints_name} refl) h) in
    let first = vec_of_one {F = hints} padded (0 ∷ 1 ∷ 3 ∷ 1 ∷ 128 ∷ 1 ∷ []) xs (u32_small padded 1 (omega arith)) all in
    let its = behind_first {F = u32} {G = λ n. vec hint} u32_unambiguous (0 ∷ []) 0 (u32_small padded 0 (omega arith)) (1 ∷ 3 ∷ 1 ∷ 128 ∷ 1 ∷ []) first.0 first.1 in
    let one = vec_of_one {F = hint} padded (3 ∷ 1 ∷ 128 ∷ 1 ∷ []) first.0.1 (u32_small padded 1 (omega arith)) its in
    no_hint one.0 one.1

pub long_value : RejectsAllAfterPadded (size_prefixed hints_payload) (33 ∷ 25 ∷ (hints_name ++ (1 ∷ 0 ∷ 1 ∷ 3 ∷ 1 ∷ 128 ∷ 1 ∷ [])))
long_value =
    rejects_padded {F = size_prefixed hints_payload} (33 ∷ 25 ∷ (hints_name ++ (1 ∷ 0 ∷ 1 ∷ 3 ∷ 1 ∷ 128 ∷ 1 ∷ []))) (unambiguous hints_section)
    (λ after rest xs h. no_hints xs (size_prefixed_of {F = hints_payload} padded 33 (25 ∷ (hints_name ++ (1 ∷ 0 ∷ 1 ∷ 3 ∷ 1 ∷ 128 ∷ 1 ∷ []))) after h.front rest xs (u32_small padded 33 (omega arith)) refl h.split h.encodes))

-- ---- a function that is defined, without a name

no_groups : (s t : List ℕ) → [] ≡ s ++ t → AreGroups s → ⊥
no_groups [] t e h = h
no_groups (b ∷ s) t e h = absurd (cc e)

no_symbol : (x : Symbol) → built_symbol padded (0 ∷ 0 ∷ 1 ∷ []) x → ⊥
no_symbol x h =
    let function = behind_tag {F = byte} {G = choice symbol_tags (λ b. impossible)} byte_unambiguous (0 ∷ []) 0 refl (0 ∷ 1 ∷ []) x h in
    let parts = behind_tag {F = u32} {G = λ flags. mapped (indexed_of Function flags) (pair u32 (optional (has_name flags) name))} u32_unambiguous (0 ∷ []) 0 (u32_small padded 0 (omega arith)) (1 ∷ []) x function in
    let named = behind_first {F = u32} {G = λ n. optional (has_name 0) name} u32_unambiguous (1 ∷ []) 1 (u32_small padded 1 (omega arith)) [] parts.0 parts.2 in
    no_groups named.2.0.front named.2.0.content named.2.0.joined named.2.0.size.groups

no_link : (front back : List ℕ) (x : LinkItem) → 8 ∷ 4 ∷ 1 ∷ 0 ∷ 0 ∷ 1 ∷ [] ≡ front ++ back → link padded front x → ⊥
no_link front back x e h =
    let found = tagged_at {F = byte} {G = choice link_tags (λ b. impossible)} byte_unambiguous padded (8 ∷ []) 8 refl (4 ∷ 1 ∷ 0 ∷ 0 ∷ 1 ∷ []) front back x e h in
    let symbols = size_prefixed_of {F = vec built_symbol} padded 4 (1 ∷ 0 ∷ 0 ∷ 1 ∷ []) [] found.0 back found.2.0 (u32_small padded 4 (omega arith)) refl found.1 found.2.2 in
    let one = vec_of_one {F = built_symbol} padded (0 ∷ 0 ∷ 1 ∷ []) found.2.0 (u32_small padded 1 (omega arith)) symbols in
    no_symbol one.0 one.1

no_links : (xs : List LinkItem) → linking_payload padded (7 ∷ (linking_name ++ (2 ∷ 8 ∷ 4 ∷ 1 ∷ 0 ∷ 0 ∷ 1 ∷ []))) xs → ⊥
no_links xs h =
    let content : List ℕ = 2 ∷ 8 ∷ 4 ∷ 1 ∷ 0 ∷ 0 ∷ 1 ∷ [] in
    let all = behind_tag {F = just version u32} {G = λ u. members link} (just_unambiguous version u32_unambiguous) (2 ∷ []) (tt {0}) (u32_small padded 2 (omega arith)) (8 ∷ 4 ∷ 1 ∷ 0 ∷ 0 ∷ 1 ∷ []) xs
    (behind_name 7 linking_name content xs (omega arith) refl (ascii {bytes = linking_name} refl) h) in
    let first = member_at link padded 8 (4 ∷ 1 ∷ 0 ∷ 0 ∷ 1 ∷ []) (8 ∷ 4 ∷ 1 ∷ 0 ∷ 0 ∷ 1 ∷ []) xs refl all in
    no_link first.0 first.1 first.2 first.3 first.4

pub no_name : RejectsAllAfterPadded (size_prefixed linking_payload) (15 ∷ 7 ∷ (linking_name ++ (2 ∷ 8 ∷ 4 ∷ 1 ∷ 0 ∷ 0 ∷ 1 ∷ [])))
no_name =
    rejects_padded {F = size_prefixed linking_payload} (15 ∷ 7 ∷ (linking_name ++ (2 ∷ 8 ∷ 4 ∷ 1 ∷ 0 ∷ 0 ∷ 1 ∷ []))) (unambiguous linking_section)
    (λ after rest xs h. no_links xs (size_prefixed_of {F = linking_payload} padded 15 (7 ∷ (linking_name ++ (2 ∷ 8 ∷ 4 ∷ 1 ∷ 0 ∷ 0 ∷ 1 ∷ []))) after h.front rest xs (u32_small padded 15 (omega arith)) refl h.split h.encodes))

pub ruleset nothing = (long_value, no_name)
