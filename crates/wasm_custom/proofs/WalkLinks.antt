-- This file proves how linking sections are walked over in each grammar.
use Rattle.wasm_base.proofs.Words.{◌≡◌, ℕ, List, [], ◌∷◌, ◌++◌, refl, subst, true, minimal, standard_minimal, Grammar, builders, admitted, is_admitted, padded_of, byte, u32, name, just, mapped, members, vec, size_prefixed}
use Rattle.wasm_base.proofs.Words.{Decodes, size_prefixed_encoding, unsigned_encoding, tagged_encodes, any_bytes, IsOther}
use Rattle.wasm_base.specs.Numbers.{minimal_of}
use Rattle.wasm_base.specs.Walks.{TakesBytes, Walks, WalksWhole}
use Rattle.wasm_base.proofs.GrammarLaws.{u32_canonical, name_canonical}
use Rattle.wasm_base.proofs.WalkLaws.{walked_as, mapped_walks, take_then}
use Rattle.wasm_custom.specs.{comdat, segment, init_function, Symbol, built_symbol, full_symbol, symbol}
use Rattle.wasm_custom.specs.{Target, link_tags, full_link_tags, other_link, link, linking_name, version, linking_payload}
use Rattle.wasm_custom.specs.Linking.{Segments, InitFunctions, Comdats, Symbols, OtherLink}
use Rattle.wasm_custom.proofs.WiderLaws.{both_walks, full_walks, other_walks}
use Rattle.wasm_custom.proofs.LinkLaws.{tables_included, symbols_decodes, links_fill}

-- ---- subsections

-- The id was put, then the content.
module _ {E : Type 0} {seen : E → List ℕ → Type 0} (w : Grammar) {b : ℕ} {bytes rest last : List ℕ} {old middle new : E} (h : Decodes byte (padded_of w) bytes b rest) (a : TakesBytes seen (b ∷ []) old middle) where
  pub segments_walk : b ≡ 5 → is_admitted w ≡ true → Walks seen w (size_prefixed (vec segment)) rest last middle new → Walks seen w link bytes last old new
  segments_walk e f g = full_walks link_tags full_link_tags other_link 5 (mapped Segments (size_prefixed (vec segment))) refl w f h e a (mapped_walks Segments g)

  pub inits_walk : b ≡ 6 → is_admitted w ≡ true → Walks seen w (size_prefixed (vec init_function)) rest last middle new → Walks seen w link bytes last old new
  inits_walk e f g = full_walks link_tags full_link_tags other_link 6 (mapped InitFunctions (size_prefixed (vec init_function))) refl w f h e a (mapped_walks InitFunctions g)

  pub comdats_walk : b ≡ 7 → is_admitted w ≡ true → Walks seen w (size_prefixed (vec comdat)) rest last middle new → Walks seen w link bytes last old new
  comdats_walk e f g = full_walks link_tags full_link_tags other_link 7 (mapped Comdats (size_prefixed (vec comdat))) refl w f h e a (mapped_walks Comdats g)

  pub symbols_walk : b ≡ 8 → Walks seen w (size_prefixed (vec symbol)) rest last middle new → Walks seen w link bytes last old new
  symbols_walk e g =
      walked_as seen w link (Symbols g.value) bytes last (8 ∷ g.encoding) old new (symbols_decodes w bytes rest last b g.value h e g.decoded) (encodes w g.encoding g.value g.encodes)
      (take_then seen (8 ∷ []) g.encoding old middle new (subst (λ z. TakesBytes seen (z ∷ []) old middle) e a) g.taken)
    where
      encodes : (v : Grammar) (s : List ℕ) (xs : List Symbol) → size_prefixed (vec symbol) (minimal_of v) s xs → link (minimal_of v) (8 ∷ s) (Symbols xs)
      encodes builders s xs k = tagged_encodes minimal 8 s (Symbols xs) (xs, refl, tables_included symbol built_symbol minimal (λ t x l. l) s xs k)
      encodes admitted s xs k = tagged_encodes standard_minimal 8 s (Symbols xs) (xs, refl, tables_included symbol full_symbol standard_minimal (λ t x l. l) s xs k)

  pub arch_walks : b ≡ 9 → Walks seen w (size_prefixed name) rest last middle new → Walks seen w link bytes last old new
  arch_walks e g = both_walks link_tags full_link_tags other_link 9 (mapped Target (size_prefixed name)) refl refl w h e a (mapped_walks Target g)

  pub others_walk : IsOther full_link_tags b → is_admitted w ≡ true → Walks seen w (size_prefixed any_bytes) rest last middle new → Walks seen w link bytes last old new
  others_walk o f g = other_walks link_tags full_link_tags other_link o w f h a (mapped_walks (OtherLink b) g)

-- ---- sections

pub links_walk : {E : Type 0} (seen : E → List ℕ → Type 0) (w : Grammar) (bytes rest last : List ℕ) (old front middle new : E) → Decodes (just linking_name name) (padded_of w) bytes tt rest → Decodes (just version u32) (padded_of w) rest tt last → TakesBytes seen (size_prefixed_encoding linking_name) old front → TakesBytes seen (unsigned_encoding 2) front middle
    → WalksWhole seen w (members link) last middle new → WalksWhole seen w linking_payload bytes old new
links_walk seen w bytes rest last old front middle new h v e f g =
    let content = unsigned_encoding 2 ++ g.encoding in
    let named = name_canonical.minimal_in w h.front linking_name h.encodes in
    let numbered = u32_canonical.minimal_in w v.front 2 v.encodes in
    record {
      value = g.value;
      decoded = links_fill bytes rest last g.value h v g.decoded;
      encoding = size_prefixed_encoding linking_name ++ content;
      encodes = ((tt, g.value), refl, record { front = size_prefixed_encoding linking_name; back = content; joined = refl; first = named; second = ((tt, g.value), refl, record { front = unsigned_encoding 2; back = g.encoding; joined = refl; first = numbered; second = g.encodes }) });
      taken = take_then seen (size_prefixed_encoding linking_name) content old front new e (take_then seen (unsigned_encoding 2) g.encoding front middle new f g.taken);
    }
