-- This file proves that the names of sections are in the module, after their lengths.
use Rattle.wasm_base.proofs.Words.{◌≡◌, ℕ, ◌<◌, ◌≤◌, ◌+◌, suc, List, [], ◌∷◌, ◌++◌, length, get_or, drop, Option, Some, None, if◌then◌else◌, refl, sym, ap, subst, ◌∙◌, append_assoc, arith}
use Rattle.wasm_base.proofs.Words.{AllByRecursion, flat_map, drop_at, drop_more, le-ltb, lt-ltb, All-from_recursion, AreGroups, padded, header, name, Decodes}
use Rattle.std.proofs.Common.{IfSome}
use Rattle.std.specs.Prelude.{All}
use Rattle.std.proofs.lemmas.List.{length-append}
use Rattle.wasm_reader.proofs.Words.{Section, IsSection, IsNameOf, IsOutline, AreOutlines, HasOutline, bytes_of}
use Rattle.wasm_reader.specs.declared.outlines.Outlined.{Outlined}
use Rattle.wasm_c.specs.Outlining.{continued, behind_number, name_of, IsNamed}

-- A byte with bit 7 set is not the last of a number.
pub continued_more : (b : ℕ) (bs : List ℕ) → 0x80 ≤ b → continued (b ∷ bs) ≡ suc (continued bs)
continued_more b bs h = ap (λ t. if t then 0 else suc (continued bs)) (le-ltb b 0x80 h)

continued_last : (b : ℕ) (bs : List ℕ) → b < 0x80 → continued (b ∷ bs) ≡ 0
continued_last b bs h = ap (λ t. if t then 0 else suc (continued bs)) (lt-ltb b 0x80 h)

-- The same for the byte at an offset.
pub number_more : (bytes : List ℕ) (i b : ℕ) → i < length bytes → b ≡ get_or bytes i b → 0x80 ≤ b → behind_number bytes (i + 1) ≡ behind_number bytes i
number_more bytes i b inside is h = omega (arith, ap continued (drop_more bytes i b inside) ∙ ap (λ z. continued (z ∷ drop (i + 1) bytes)) (sym is) ∙ continued_more b (drop (i + 1) bytes) h)

pub number_ends : (bytes : List ℕ) (i b : ℕ) → i < length bytes → b ≡ get_or bytes i b → b < 0x80 → i + 1 ≡ behind_number bytes i
number_ends bytes i b inside is h = omega (arith, ap continued (drop_more bytes i b inside) ∙ ap (λ z. continued (z ∷ drop (i + 1) bytes)) (sym is) ∙ continued_last b (drop (i + 1) bytes) h)

pub ruleset number_steps = (number_more, number_ends)

-- The bytes of a number are those with bit 7 set, and one more.
groups_length : (s rest : List ℕ) → AreGroups s → suc (continued (s ++ rest)) ≡ length s
groups_length [] rest h = absurd h
groups_length (b ∷ []) rest h = ap suc (continued_last b rest h)
groups_length (b ∷ c ∷ bs) rest h = ap suc (continued_more b (c ∷ bs ++ rest) h.0 ∙ groups_length (c ∷ bs) rest h.2)

-- A name that decodes at the front of a payload decodes at the payload's offset in the module.
named : (bytes front payload after : List ℕ) (offset : ℕ) (n rest : List ℕ) → bytes ≡ front ++ (payload ++ after) → length front ≡ offset → Decodes name padded payload n rest
    → (rest : List ℕ) × Decodes name padded (drop offset bytes) n rest × (behind_number bytes offset + length n + length rest ≡ length bytes)
named bytes front payload after offset n rest e o h =
    let f = h.encodes.0 in
    let here : drop offset bytes ≡ payload ++ after = ap (λ z. drop offset z) e ∙ drop_at front (payload ++ after) offset o in
    let split : payload ++ after ≡ h.front ++ (rest ++ after) = ap (λ z. z ++ after) h.split ∙ append_assoc h.front rest after in
    let text : drop offset bytes ≡ f.front ++ (f.content ++ (rest ++ after)) = here ∙ split ∙ ap (λ z. z ++ (rest ++ after)) f.joined ∙ append_assoc f.front f.content (rest ++ after) in
    let number : suc (continued (drop offset bytes)) ≡ length f.front = ap (λ z. suc (continued z)) text ∙ groups_length f.front (f.content ++ (rest ++ after)) f.size.groups in (
      rest ++ after,
      record { front = h.front; split = here ∙ split; encodes = h.encodes },
      omega (arith, number, o, ap length e, length-append front (payload ++ after), ap length (sym here ∙ text), length-append f.front (f.content ++ (rest ++ after)), length-append f.content (rest ++ after), ap length f.encodes),
    )

-- The same for an optional name.
given : (bytes front payload after : List ℕ) (offset id : ℕ) (n : Option (List ℕ)) → bytes ≡ front ++ (payload ++ after) → length front ≡ offset → IsNameOf id payload n
    → IfSome n (λ n. (rest : List ℕ) × Decodes name padded (drop offset bytes) n rest × (behind_number bytes offset + length n + length rest ≡ length bytes))
given bytes front payload after offset id None e o i = tt
given bytes front payload after offset id (Some n) e o i = named bytes front payload after offset n i.1 e o i.2

-- The same for a line.
line_named : (bytes front after : List ℕ) (s : Section) (l : Outlined) → bytes ≡ front ++ (bytes_of s ++ after) → IsSection s → IsOutline (length front) s l → IsNamed bytes l
line_named bytes front after s l e h o =
    let f = h.contains in
    let joined : bytes ≡ (front ++ (s.id ∷ f.front)) ++ (s.payload ++ after) =
    e ∙ ap (λ z. front ++ ((s.id ∷ z) ++ after)) (f.joined ∙ ap (λ z. f.front ++ z) f.encodes) ∙ ap (λ z. front ++ (s.id ∷ z)) (append_assoc f.front s.payload after)
    ∙ sym (append_assoc front (s.id ∷ f.front) (s.payload ++ after)) in
    let placed : length (front ++ (s.id ∷ f.front)) ≡ l.offset = omega (arith, o.offset, length-append front (s.id ∷ f.front), ap length f.joined, ap length f.encodes, length-append f.front f.content) in
    given bytes (front ++ (s.id ∷ f.front)) s.payload after l.offset s.id (name_of l) joined placed (subst (λ z. IsNameOf s.id s.payload z) (sym o.name) h.named)

lines_named : (front : List ℕ) (ss : List Section) (ls : List Outlined) → AllByRecursion IsSection ss → AreOutlines (length front) ss ls → AllByRecursion (IsNamed (front ++ flat_map bytes_of ss)) ls
lines_named front [] [] h o = tt
lines_named front (s ∷ ss) (l ∷ ls) h o = (
  line_named (front ++ flat_map bytes_of (s ∷ ss)) front (flat_map bytes_of ss) s l refl h.0 o.0,
  subst (λ z. AllByRecursion (IsNamed z) ls) (append_assoc front (bytes_of s) (flat_map bytes_of ss)) (lines_named (front ++ bytes_of s) ss ls h.1 (subst (λ z. AreOutlines z ss ls) (sym (length-append front (bytes_of s))) o.1)),
)
lines_named front [] (l ∷ ls) h o = absurd o
lines_named front (s ∷ ss) [] h o = absurd o

-- The names of an outline are at the offsets that it reports.
pub all_named : (bytes : List ℕ) (lines : List Outlined) → HasOutline bytes lines → All (IsNamed bytes) lines
all_named bytes lines h = All-from_recursion (IsNamed bytes) lines (subst (λ z. AllByRecursion (IsNamed z) lines) (sym h.has.joined) (lines_named header h.sections lines h.has.each h.are_outlines))
