-- This file proves that COMDAT groups are unambiguous, and how they are decoded and minimized.
use Rattle.wasm_base.proofs.Words.{◌≡◌, ◌∙◌, ℕ, ◌^◌, ◌<◌, List, [], ◌∷◌, ◌++◌, map, ap, refl, sym, subst, map-id, Format, u32, byte, name, pair, vec, Mode, Unambiguous, Decodes, Rejects, AppendsMinimal, both_grammars}
use Rattle.wasm_base.proofs.Words.{HasEncoding, IsEncodableName, minimal, unsigned_encoding, size_prefixed_encoding, vec_encoding, pair_encodes, u32_encodes, name_encodes, vec_encodes}
use Rattle.wasm_base.proofs.Words.{mapped_unambiguous, pair_unambiguous, name_unambiguous, u32_unambiguous, byte_unambiguous, vec_unambiguous, mapped_decodes, mapped_rejects, mapped_appended}
use Rattle.wasm_base.proofs.Words.{pair_appended, encoding_appended, mapped_encoded, left_encoded, right_encoded}
use Rattle.wasm_custom.specs.Comdats.{comdat_symbol_encoding, IsComdatSymbol, comdat_symbol_of, comdat_symbol, Comdat, comdat_encoding, IsComdat, comdat_of, comdat}
use Rattle.wasm_custom.specs.Lists.{list_encoding, ContainsList, IsEncodingOf}
use Rattle.wasm_base.specs.Stores.{Joined, Cut}
use Rattle.wasm_custom.proofs.ListLaws.{list_cut, list_vector}
use Rattle.wasm_custom.specs.declared.comdats.ComdatSymbol.{ComdatSymbol}

-- ---- members of a group

abbrev member_parts : ComdatSymbol → ℕ × ℕ
member_parts s = (s.kind, s.index)

pub comdat_symbol_unambiguous : Unambiguous comdat_symbol
comdat_symbol_unambiguous = mapped_unambiguous comdat_symbol_of (λ x y e. ap member_parts e) (pair_unambiguous byte_unambiguous u32_unambiguous)

pub comdat_symbol_encodes : (s : ComdatSymbol) → IsComdatSymbol s → comdat_symbol minimal (comdat_symbol_encoding s) s
comdat_symbol_encodes s plain = (member_parts s, refl, pair_encodes byte u32 (s.kind ∷ []) (unsigned_encoding s.index) s.kind s.index refl (u32_encodes s.index plain))

pub comdat_symbol_decodes : {m : Mode} (bytes last : List ℕ) (kind index : ℕ) → Decodes (pair byte u32) m bytes (kind, index) last → Decodes comdat_symbol m bytes (record { kind = kind; index = index }) last
comdat_symbol_decodes bytes last kind index h = mapped_decodes comdat_symbol_of h

pub comdat_symbol_none : {m : Mode} (bytes : List ℕ) → Rejects (pair byte u32) m bytes → Rejects comdat_symbol m bytes
comdat_symbol_none bytes n = mapped_rejects comdat_symbol_of n

pub ruleset comdat_symbol_steps = (comdat_symbol_decodes, comdat_symbol_none)

pub comdat_symbol_appended : (kind index : ℕ) (old middle new : List ℕ) → middle ≡ old ++ kind ∷ [] → AppendsMinimal both_grammars u32 index middle new → AppendsMinimal both_grammars comdat_symbol (record { kind = kind; index = index }) old new
comdat_symbol_appended kind index old middle new e a =
    mapped_appended comdat_symbol_of (pair byte u32) (kind, index) old new (λ z k. ap member_parts k) (pair_appended byte u32 (encoding_appended byte kind (kind ∷ []) old middle (λ w q s h. refl) e) a)

-- ---- groups

abbrev parts : Format (List ℕ × (ℕ × List ComdatSymbol))
parts = pair name (pair u32 (vec comdat_symbol))

abbrev parts_of : Comdat → List ℕ × (ℕ × List ComdatSymbol)
parts_of c = (c.name, (c.flags, c.symbols))

pub comdat_unambiguous : Unambiguous comdat
comdat_unambiguous = mapped_unambiguous comdat_of (λ x y e. ap parts_of e) (pair_unambiguous name_unambiguous (pair_unambiguous u32_unambiguous (vec_unambiguous comdat_symbol_unambiguous)))

pub comdat_encodes : (c : Comdat) → IsComdat c → comdat minimal (comdat_encoding c) c
comdat_encodes c plain =
    let members = vec_encoding comdat_symbol_encoding c.symbols in
    let back = pair_encodes u32 (vec comdat_symbol) (unsigned_encoding c.flags) members c.flags c.symbols (u32_encodes c.flags plain.flags) (vec_encodes comdat_symbol IsComdatSymbol comdat_symbol_encoding comdat_symbol_encodes c.symbols plain.symbols) in
    (parts_of c, refl, pair_encodes name (pair u32 (vec comdat_symbol)) (size_prefixed_encoding c.name) (unsigned_encoding c.flags ++ members) c.name (c.flags, c.symbols) (name_encodes c.name plain.name.0 plain.name.1) back)

-- The encoding of a name, flags and a list of members is that of a group.
pub comdat_of_list : (n : List ℕ) (flags : ℕ) (j : Joined) → IsEncodableName n → flags < 2 ^ 32 → Cut (λ pieces. ContainsList comdat_symbol_encoding IsComdatSymbol pieces) j → IsEncodingOf comdat_encoding IsComdat (size_prefixed_encoding n ++ (unsigned_encoding flags ++ list_encoding j))
comdat_of_list n flags j named range cut = record {
  member = record { name = n; flags = flags; symbols = cut.are.list };
  is = ap (λ s. size_prefixed_encoding n ++ (unsigned_encoding flags ++ s)) (list_cut j cut ∙ list_vector cut.are.is);
  encodable = record { name = named; flags = range; symbols = cut.are.is.encodable };
}

pub comdat_decodes : {m : Mode} (bytes last n : List ℕ) (flags : ℕ) (symbols : List ComdatSymbol) → Decodes parts m bytes (n, (flags, map (λ s. s) symbols)) last → Decodes comdat m bytes (record { name = n; flags = flags; symbols = symbols }) last
comdat_decodes {m = m} bytes last n flags symbols h = mapped_decodes comdat_of (subst (λ z. Decodes parts m bytes (n, (flags, z)) last) (map-id symbols) h)

pub comdat_none : {m : Mode} (bytes : List ℕ) → Rejects parts m bytes → Rejects comdat m bytes
comdat_none bytes n = mapped_rejects comdat_of n

pub ruleset comdat_steps = (comdat_decodes, comdat_none)

-- ---- the one minimal encoding of decoded groups

pub comdat_appended : (n : List ℕ) (flags : ℕ) (symbols : List ComdatSymbol) (old first second new : List ℕ) → AppendsMinimal both_grammars name n old first → AppendsMinimal both_grammars u32 flags first second → AppendsMinimal both_grammars (vec comdat_symbol) (map (λ s. s) symbols) second new
    → AppendsMinimal both_grammars comdat (record { name = n; flags = flags; symbols = symbols }) old new
comdat_appended n flags symbols old first second new a b c =
    let members = subst (λ z. AppendsMinimal both_grammars (vec comdat_symbol) z second new) (map-id symbols) c in
    mapped_appended comdat_of parts (n, (flags, symbols)) old new (λ z k. ap parts_of k) (pair_appended name (pair u32 (vec comdat_symbol)) a (pair_appended u32 (vec comdat_symbol) b members))

parts_encoded : (n : List ℕ) (flags : ℕ) (symbols : List ComdatSymbol) → HasEncoding both_grammars comdat (record { name = n; flags = flags; symbols = symbols }) → HasEncoding both_grammars parts (n, (flags, symbols))
parts_encoded n flags symbols h = mapped_encoded comdat_of parts (n, (flags, symbols)) (λ z k. ap parts_of k) h

pub comdat_name_encoded : (n : List ℕ) (flags : ℕ) (symbols : List ComdatSymbol) → HasEncoding both_grammars comdat (record { name = n; flags = flags; symbols = symbols }) → HasEncoding both_grammars name n
comdat_name_encoded n flags symbols h = left_encoded name (pair u32 (vec comdat_symbol)) n (flags, symbols) (parts_encoded n flags symbols h)

pub comdat_symbols_encoded : (n : List ℕ) (flags : ℕ) (symbols : List ComdatSymbol) → HasEncoding both_grammars comdat (record { name = n; flags = flags; symbols = symbols }) → HasEncoding both_grammars (vec comdat_symbol) (map (λ s. s) symbols)
comdat_symbols_encoded n flags symbols h =
    subst (λ z. HasEncoding both_grammars (vec comdat_symbol) z) (sym (map-id symbols)) (right_encoded u32 (vec comdat_symbol) flags symbols (right_encoded name (pair u32 (vec comdat_symbol)) n (flags, symbols) (parts_encoded n flags symbols h)))
