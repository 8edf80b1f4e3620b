-- This file proves walks over expressions and bodies.
use Rattle.wasm_base.proofs.Words.{◌≡◌, ◌≢◌, ℕ, List, [], ◌∷◌, ◌++◌, length, refl, subst, map-id, Grammar, builders, padded, minimal_of, padded_of, members, pair, vec, such, u32, val_type, Decodes, AppendsMinimal, built_appended, builders_alone, such_unambiguous}
use Rattle.wasm_base.specs.Minimal.{MinimizesWhole}
use Rattle.wasm_base.specs.Walks.{TakesBytes, Walks, WalksWhole}
use Rattle.wasm_base.proofs.Words.{HasEncodableSize, size_prefixed, size_prefixed_encoding}
use Rattle.wasm_base.proofs.Words.{drop, take, size_prefixed_appended}
use Rattle.wasm_base.proofs.DecodingSteps.{members_push}
use Rattle.wasm_base.proofs.WalkLaws.{take_nothing, take_then}
use Rattle.wasm_insn.proofs.Words.{Plain, instruction, table, unique}
use Rattle.wasm_code.specs.{IsNoEnd, expression, Body, body, body_of}
use Rattle.wasm_code.proofs.DecodeLists.{HasEnded, ended_start, ended_step, ended_done, not_end, body_fills}
use Rattle.wasm_code.proofs.ExpressionLaws.{expression_encodes}

-- ---- expressions

-- The walk has passed these instructions from the first byte on, none of them `end`. `rest` remains,
-- and the effect has taken their minimal encodings.
pub record HasWalkedCode {E : Type 0} (seen : E → List ℕ → Type 0) (w : Grammar) (bytes rest : List ℕ) (old new : E) : Type 0 where
  pub values : List Plain
  pub read : HasEnded 0x0B (such IsNoEnd (instruction table)) (padded_of w) (λ i. i) bytes values rest
  pub encoding : List ℕ
  pub encodes : members (such IsNoEnd (instruction table)) (minimal_of w) encoding values
  pub taken : TakesBytes seen encoding old new

module _ {E : Type 0} {seen : E → List ℕ → Type 0} {w : Grammar} (bytes : List ℕ) where
  pub code_begun : (old : E) → HasWalkedCode seen w bytes bytes old old
  code_begun old = record { values = []; read = ended_start 0x0B (such IsNoEnd (instruction table)) (λ i. i) bytes; encoding = []; encodes = refl; taken = take_nothing seen old }

  pub code_continued : (b : ℕ) (rest tail after : List ℕ) (old middle new : E) → HasWalkedCode seen w bytes rest old middle → rest ≡ b ∷ tail → b ≢ 0x0B → Walks seen w (instruction table) rest after middle new → HasWalkedCode seen w bytes after old new
  code_continued b rest tail after old middle new h split other g =
      let one = not_end rest tail after b g.value split other g.decoded in
      record {
        values = h.values ++ g.value ∷ [];
        read = ended_step 0x0B (such IsNoEnd (instruction table)) (λ i. i) bytes (such_unambiguous IsNoEnd unique) b rest tail after h.values g.value h.read split other one;
        encoding = h.encoding ++ g.encoding;
        encodes = members_push (such IsNoEnd (instruction table)) (minimal_of w) h.encoding g.encoding h.values g.value h.encodes (g.encodes, one.encodes.1);
        taken = take_then seen h.encoding g.encoding old middle new h.taken g.taken;
      }

  pub code_done : (rest after : List ℕ) (old middle new : E) → HasWalkedCode seen w bytes rest old middle → rest ≡ 0x0B ∷ after → TakesBytes seen (0x0B ∷ []) middle new → Walks seen w expression bytes after old new
  code_done rest after old middle new h e is = record {
    value = h.values;
    decoded = subst (λ z. Decodes expression (padded_of w) bytes z after) (map-id h.values) (ended_done 0x0B (such IsNoEnd (instruction table)) (λ i. i) bytes rest after h.values h.read e);
    encoding = h.encoding ++ 0x0B ∷ [];
    encodes = expression_encodes (minimal_of w) h.encoding h.values h.encodes;
    taken = take_then seen h.encoding (0x0B ∷ []) old middle new h.taken is;
  }

-- ---- bodies

-- The walk passes the runs of locals, then the instructions up to the last byte.
pub body_walks : {E : Type 0} {seen : E → List ℕ → Type 0} (w : Grammar) (bytes after : List ℕ) (old middle new : E) → Walks seen w (vec (pair u32 val_type)) bytes after old middle → WalksWhole seen w (members (instruction table)) after middle new → WalksWhole seen w body bytes old new
body_walks {seen = seen} w bytes after old middle new h g = record {
  value = body_of (h.value, g.value);
  decoded = body_fills bytes after h.value g.value h.decoded g.decoded;
  encoding = h.encoding ++ g.encoding;
  encodes = ((h.value, g.value), refl, record { front = h.encoding; back = g.encoding; joined = refl; first = h.encodes; second = g.encodes });
  taken = take_then seen h.encoding g.encoding old middle new h.taken g.taken;
}

-- In the builders' grammar the encoding is that of the decoded body.
pub body_shortened : (bytes old middle new : List ℕ) (start : ℕ) → start ≡ length old → MinimizesWhole builders body bytes old middle → HasEncodableSize (drop start middle) → new ≡ take start middle ++ size_prefixed_encoding (drop start middle) → (x : Body) × body padded bytes x × AppendsMinimal builders_alone (size_prefixed body) x old new
body_shortened bytes old middle new start e h encodable is = (
  h.value,
  h.decoded,
  size_prefixed_appended body h.value start old middle new e (built_appended body h.value h.encoding old middle (λ s k. h.encodes) h.appended) encodable is,
)
