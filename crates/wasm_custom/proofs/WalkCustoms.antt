-- This file proves that custom sections except linking are walked over item by item.
use Rattle.wasm_base.proofs.Words.{◌≡◌, ℕ, ◌<◌, List, [], ◌∷◌, ◌++◌, refl, sym, subst, Bool, Grammar, padded_of, Format, byte, u32, name, just, fixed, pair, prefixed, such, vec, Decodes, Rejects, byte_unambiguous, tagged_rejects, size_prefixed_encoding}
use Rattle.wasm_base.specs.Walks.{TakesBytes, Walks, WalksWhole}
use Rattle.wasm_base.proofs.GrammarLaws.{name_canonical}
use Rattle.wasm_base.proofs.WalkLaws.{walked_as, byte_then, take_then}
use Rattle.wasm_custom.specs.{named_payload, listing, entries, NameKind, name_kind_of, after_id, subsection, IsRelocationsName, relocation, relocations_payload}
use Rattle.wasm_custom.specs.Names.{kind_as}
use Rattle.wasm_custom.specs.declared.names.NameKind.{NameKind as ReadKind}
use Rattle.wasm_custom.proofs.DecodeMarked.{marked_decodes}
use Rattle.wasm_custom.proofs.DecodeNamed.{items_fill, named_fills}

-- ---- payloads

module _ {E X : Type 0} {seen : E → List ℕ → Type 0} (w : Grammar) (n : List ℕ) {bytes rest : List ℕ} {old middle new : E} (h : Decodes (just n name) (padded_of w) bytes tt rest) (e : TakesBytes seen (size_prefixed_encoding n) old middle) where
  -- The name was put, then the data.
  pub named_walks : (F : Format X) → WalksWhole seen w F rest middle new → WalksWhole seen w (named_payload n F) bytes old new
  named_walks F g = record {
    value = g.value;
    decoded = named_fills n F bytes rest g.value h g.decoded;
    encoding = size_prefixed_encoding n ++ g.encoding;
    encodes = ((tt, g.value), refl, record { front = size_prefixed_encoding n; back = g.encoding; joined = refl; first = name_canonical.minimal_in w h.front n h.encodes; second = g.encodes });
    taken = take_then seen (size_prefixed_encoding n) g.encoding old middle new e g.taken;
  }

module _ {E X : Type 0} {seen : E → List ℕ → Type 0} (w : Grammar) (n : List ℕ) (counted : Bool) (F : Format X) {bytes rest : List ℕ} {old middle new : E} (h : Decodes (just n name) (padded_of w) bytes tt rest) (e : TakesBytes seen (size_prefixed_encoding n) old middle) where
  -- The name was put, then the items.
  pub listed_walks : WalksWhole seen w (listing counted F) rest middle new → WalksWhole seen w (named_payload n (entries (fixed [] (tt {0})) counted F)) bytes old new
  listed_walks g = record {
    value = g.value;
    decoded = items_fill n counted F bytes rest g.value h g.decoded;
    encoding = size_prefixed_encoding n ++ g.encoding;
    encodes = (
      (tt, g.value),
      refl,
      record {
        front = size_prefixed_encoding n;
        back = g.encoding;
        joined = refl;
        first = name_canonical.minimal_in w h.front n h.encodes;
        second = ((tt, g.value), refl, record { front = []; back = g.encoding; joined = refl; first = (refl, refl); second = g.encodes });
      },
    );
    taken = take_then seen (size_prefixed_encoding n) g.encoding old middle new e g.taken;
  }

-- ---- a value after a byte

pub marked_walks : {E X : Type 0} (seen : E → List ℕ → Type 0) (w : Grammar) (mark b : ℕ) (F : Format X) (bytes rest last : List ℕ) (old middle new : E) → Decodes byte (padded_of w) bytes b rest → b ≡ mark → TakesBytes seen (mark ∷ []) old middle → Walks seen w F rest last middle new → Walks seen w (prefixed (mark ∷ []) F) bytes last old new
marked_walks seen w mark b F bytes rest last old middle new h e a m = record {
  value = m.value;
  decoded = marked_decodes mark F bytes rest last b m.value h e m.decoded;
  encoding = mark ∷ m.encoding;
  encodes = ((tt, m.value), refl, record { front = mark ∷ []; back = m.encoding; joined = refl; first = (refl, refl); second = m.encodes });
  taken = take_then seen (mark ∷ []) m.encoding old middle new a m.taken;
}

-- ---- values

pub hint_value_walks : {E : Type 0} (seen : E → List ℕ → Type 0) (w : Grammar) (v : ℕ) (bytes rest : List ℕ) (old new : E) → Decodes (such (λ b. b < 128) byte) (padded_of w) bytes v rest → TakesBytes seen (v ∷ []) old new → Walks seen w (such (λ b. b < 128) byte) bytes rest old new
hint_value_walks seen w v bytes rest old new h t = walked_as seen w (such (λ b. b < 128) byte) v bytes rest (v ∷ []) old new h (refl, h.encodes.1) t

-- ---- subsections of names

module _ (w : Grammar) (k : NameKind) {b : ℕ} {bytes rest : List ℕ} (h : Decodes byte (padded_of w) bytes b rest) (e : k ≡ name_kind_of b) where
  pub subsection_walks : {E : Type 0} {seen : E → List ℕ → Type 0} {last : List ℕ} {old middle new : E} → TakesBytes seen (b ∷ []) old middle → Walks seen w (after_id k b) rest last middle new → Walks seen w subsection bytes last old new
  subsection_walks {seen = seen} {last = last} {middle = middle} {new = new} a m = byte_then h a (λ id. after_id (name_kind_of id) id) (subst (λ z. Walks seen w (after_id z b) rest last middle new) e m)

  pub subsection_lacks : Rejects (after_id k b) (padded_of w) rest → Rejects subsection (padded_of w) bytes
  subsection_lacks n = tagged_rejects {G = λ id. after_id (name_kind_of id) id} byte_unambiguous h (subst (λ z. Rejects (after_id z b) (padded_of w) rest) e n)

-- The kind of the content is known.
pub of_known : {E : Type 0} {seen : E → List ℕ → Type 0} {w : Grammar} (id : ℕ) {bytes rest : List ℕ} {old new : E} {k : ReadKind} (known : ReadKind) → k ≡ known → Walks seen w (after_id (kind_as known) id) bytes rest old new → Walks seen w (after_id (kind_as k) id) bytes rest old new
of_known {seen = seen} {w = w} id {bytes = bytes} {rest = rest} {old = old} {new = new} known e m = subst (λ z. Walks seen w (after_id (kind_as z) id) bytes rest old new) (sym e) m

-- ---- relocations

pub relocations_walk : {E : Type 0} (seen : E → List ℕ → Type 0) (w : Grammar) (n bytes rest : List ℕ) (old middle new : E) → Decodes name (padded_of w) bytes n rest → IsRelocationsName n → TakesBytes seen (size_prefixed_encoding n) old middle → WalksWhole seen w (pair u32 (vec relocation)) rest middle new → WalksWhole seen w relocations_payload bytes old new
relocations_walk seen w n bytes rest old middle new h begins e g = record {
  value = (n, g.value);
  decoded = record { front = h.front; back = rest; joined = h.split; first = (h.encodes, begins); second = g.decoded };
  encoding = size_prefixed_encoding n ++ g.encoding;
  encodes = record { front = size_prefixed_encoding n; back = g.encoding; joined = refl; first = (name_canonical.minimal_in w h.front n h.encodes, begins); second = g.encodes };
  taken = take_then seen (size_prefixed_encoding n) g.encoding old middle new e g.taken;
}
