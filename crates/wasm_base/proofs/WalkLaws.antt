-- This file proves that a walk gives an effect the minimal encoding of each component that it
-- decodes, and so of the whole value.
use Rattle.wasm_base.proofs.Std.{◌≡◌, ◌≢◌, map-id, ℕ, ◌+◌, List, [], ◌∷◌, ◌++◌, length, refl, sym, ap, subst, ◌∙◌, append_assoc, append-nil, arith}
use Rattle.std.proofs.lemmas.List.{length-append}
use Rattle.wasm_base.specs.{Grammar, minimal_of, padded_of, Format, u32, byte, mapped, such, Then, pair, tagged, members, vec, Decodes, Grammars, Includes, both_grammars, HasEncodableSize, HasEncodings, size_prefixed, any_bytes, Unambiguous, EncodesMinimally, unsigned_encoding, size_prefixed_encoding, name}
use Rattle.wasm_base.specs.Walks.{TakesBytes, Keeps, IsIdle, TakesMinimal, Marks, IsMarked, Replaces, KeepsMarked, Walks, WalksMany, WalksWhole, EncodesIn}
use Rattle.wasm_base.proofs.DecodingSteps.{then_decodes, mapped_decodes, such_decodes, members_start, members_step, members_push, vec_decodes}
use Rattle.wasm_base.proofs.DecodeSizePrefixed.{filled_decodes}
use Rattle.wasm_base.proofs.DecodeWhole.{HasMembers, members_begun, members_continued, members_done, whole_decodes}
use Rattle.wasm_base.proofs.EncodingLaws.{size_prefixed_in}
use Rattle.wasm_base.proofs.SkipLaws.{HasSkipped}
use Rattle.wasm_base.proofs.GrammarLaws.{u32_canonical, name_canonical, byte_canonical, bytes_canonical}

-- ---- states

module _ {E : Type 0} (seen : E → List ℕ → Type 0) where
  pub keep_same : (e : E) → Keeps seen e e
  keep_same e = record { after = λ l h. ([], subst (seen e) (sym (append-nil l)) h) }

  pub keep_then : (old middle new : E) → Keeps seen old middle → Keeps seen middle new → Keeps seen old new
  keep_then old middle new h g = record {
    after = λ l s.
        let m = h.after l s in
        let n = g.after (l ++ m.0) m.1 in
        (m.0 ++ n.0, subst (seen new) (append_assoc l m.0 n.0) n.1);
  }

  pub take_nothing : (e : E) → TakesBytes seen [] e e
  take_nothing e = record { after = λ l h. subst (seen e) (sym (append-nil l)) h }

  pub take_then : (s t : List ℕ) (old middle new : E) → TakesBytes seen s old middle → TakesBytes seen t middle new → TakesBytes seen (s ++ t) old new
  take_then s t old middle new h g = record { after = λ l k. subst (seen new) (append_assoc l s t) (g.after (l ++ s) (h.after l k)) }

  pub keep_taken : (s : List ℕ) (old new : E) → TakesBytes seen s old new → Keeps seen old new
  keep_taken s old new h = record { after = λ l k. (s, h.after l k) }

pub ruleset keep_steps = (keep_same, keep_then, keep_taken)

-- ---- values

module _ {E X : Type 0} (seen : E → List ℕ → Type 0) (w : Grammar) (F : Format X) where
  -- The effect takes a minimal encoding of the decoded value.
  abbrev pub walked_as : (x : X) (bytes rest encoding : List ℕ) (old new : E) → Decodes F (padded_of w) bytes x rest → F (minimal_of w) encoding x → TakesBytes seen encoding old new → Walks seen w F bytes rest old new
  walked_as x bytes rest encoding old new h e t = record { value = x; decoded = h; encoding = encoding; encodes = e; taken = t }

  pub value_walks : {T : Type 0} (view : T → X) (encoding : T → List ℕ) (x : T) (bytes rest : List ℕ) (old new : E) → EncodesMinimally F view encoding → Decodes F (padded_of w) bytes (view x) rest → TakesBytes seen (encoding x) old new → Walks seen w F bytes rest old new
  value_walks view encoding x bytes rest old new k h t = walked_as (view x) bytes rest (encoding x) old new h (k.minimal_in w h.front x h.encodes) t

  pub value_walks_in : {T : Type 0} (view : T → X) (encoding : T → List ℕ) (x : T) (bytes rest : List ℕ) (old new : E) → EncodesIn w F view encoding → Decodes F (padded_of w) bytes (view x) rest → TakesBytes seen (encoding x) old new → Walks seen w F bytes rest old new
  value_walks_in view encoding x bytes rest old new k h t = walked_as (view x) bytes rest (encoding x) old new h (k.minimal_in h.front x h.encodes) t

  -- The effect takes the minimal encoding of the decoded value in both grammars.
  pub shared_walks : {k : Grammars} (x : X) (bytes rest : List ℕ) (old new : E) → k ≡ both_grammars → Decodes F (padded_of w) bytes x rest → TakesMinimal seen k F x old new → Walks seen w F bytes rest old new
  shared_walks x bytes rest old new e h a =
      let m = a.encoded w (subst (λ k. Includes k w) (sym e) tt) h.front h.encodes in
      walked_as x bytes rest m.0 old new h m.1 m.2

  -- A value that was skipped has a minimal encoding, which an idle effect has taken.
  pub idle_walks : (bytes rest : List ℕ) (e : E) → IsIdle seen → Unambiguous F → (x : X) × Decodes F (padded_of w) bytes x rest → Walks seen w F bytes rest e e
  idle_walks bytes rest e idle unique h =
      let m = unique.encodings.shorter w h.1.front h.0 h.1.encodes in
      walked_as h.0 bytes rest m.0 e e h.1 m.1 (idle.stays m.0 e)

pub byte_walks : {E : Type 0} (seen : E → List ℕ → Type 0) (w : Grammar) (b : ℕ) (bytes rest : List ℕ) (old new : E) → Decodes byte (padded_of w) bytes b rest → TakesBytes seen (b ∷ []) old new → Walks seen w byte bytes rest old new
byte_walks seen w b bytes rest old new h t = value_walks seen w byte (λ b. b) (λ b. b ∷ []) b bytes rest old new byte_canonical h t

pub name_walks : {E : Type 0} (seen : E → List ℕ → Type 0) (w : Grammar) (n bytes rest : List ℕ) (old new : E) → Decodes name (padded_of w) bytes n rest → TakesBytes seen (size_prefixed_encoding n) old new → Walks seen w name bytes rest old new
name_walks seen w n bytes rest old new h t = value_walks seen w name (λ n. n) size_prefixed_encoding n bytes rest old new name_canonical h t

pub bytes_walks : {E : Type 0} (seen : E → List ℕ → Type 0) (w : Grammar) (content bytes rest : List ℕ) (old new : E) → Decodes (size_prefixed any_bytes) (padded_of w) bytes content rest → TakesBytes seen (size_prefixed_encoding content) old new → Walks seen w (size_prefixed any_bytes) bytes rest old new
bytes_walks seen w content bytes rest old new h t = value_walks seen w (size_prefixed any_bytes) (λ b. b) size_prefixed_encoding content bytes rest old new bytes_canonical h t

-- ---- combinators

module _ {E X : Type 0} {seen : E → List ℕ → Type 0} {w : Grammar} {bytes rest : List ℕ} {old new : E} where
  abbrev pub mapped_walks : {Y : Type 0} (f : X → Y) {F : Format X} → Walks seen w F bytes rest old new → Walks seen w (mapped f F) bytes rest old new
  mapped_walks f h = record { value = f h.value; decoded = mapped_decodes f h.decoded; encoding = h.encoding; encodes = (h.value, refl, h.encodes); taken = h.taken }

  abbrev pub such_walks : (P : X → Type 0) {F : Format X} (h : Walks seen w F bytes rest old new) → P h.value → Walks seen w (such P F) bytes rest old new
  such_walks P h p = record { value = h.value; decoded = such_decodes P h.decoded p; encoding = h.encoding; encodes = (h.encodes, p); taken = h.taken }

module _ {E X Y : Type 0} {seen : E → List ℕ → Type 0} {w : Grammar} {bytes behind rest : List ℕ} {old middle new : E} where
  -- One value, then one whose format depends on it.
  abbrev pub then_walks : {F : Format X} {G : X → Format Y} (h : Walks seen w F bytes behind old middle) → Walks seen w (G h.value) behind rest middle new → Walks seen w (Then F G) bytes rest old new
  then_walks h g = record {
    value = (h.value, g.value);
    decoded = then_decodes h.decoded g.decoded;
    encoding = h.encoding ++ g.encoding;
    encodes = record { front = h.encoding; back = g.encoding; joined = refl; first = h.encodes; second = g.encodes };
    taken = take_then seen h.encoding g.encoding old middle new h.taken g.taken;
  }

  abbrev pub pair_walks : (F : Format X) (G : Format Y) → Walks seen w F bytes behind old middle → Walks seen w G behind rest middle new → Walks seen w (pair F G) bytes rest old new
  pair_walks F G h g = then_walks h g

  -- A tag, then the value that it selects.
  abbrev pub tagged_walks : {F : Format X} {G : X → Format Y} (h : Walks seen w F bytes behind old middle) → Walks seen w (G h.value) behind rest middle new → Walks seen w (tagged F G) bytes rest old new
  tagged_walks h g = mapped_walks (λ p. p.1) (then_walks h g)

module _ {E X : Type 0} {seen : E → List ℕ → Type 0} {w : Grammar} {b : ℕ} {bytes behind rest : List ℕ} {old middle new : E} (h : Decodes byte (padded_of w) bytes b behind) (a : TakesBytes seen (b ∷ []) old middle) where
  pub byte_then : (G : ℕ → Format X) → Walks seen w (G b) behind rest middle new → Walks seen w (tagged byte G) bytes rest old new
  byte_then G m =
      let first : Walks seen w byte bytes behind old middle = record { value = b; decoded = h; encoding = b ∷ []; encodes = refl; taken = a } in
      mapped_walks (λ p. p.1) (then_walks {F = byte} {G = G} first m)

  -- The byte is taken, then the value that it selects.
  pub known_walks : (G : ℕ → Format X) (c : ℕ) → b ≡ c → Walks seen w (G c) behind rest middle new → Walks seen w (tagged byte G) bytes rest old new
  known_walks G c e m = byte_then G (subst (λ z. Walks seen w (G z) behind rest middle new) (sym e) m)

-- ---- a loop over members

-- The walk has passed `count` values from `start` on, `rest` remains, and the effect has taken
-- their minimal encodings.
pub record HasWalked {E X : Type 0} (seen : E → List ℕ → Type 0) (w : Grammar) (F : Format X) (start : List ℕ) (count : ℕ) (rest : List ℕ) (old new : E) : Type 0 where
  pub values : List X
  pub read : Decodes (members F) (padded_of w) start values rest
  pub counted : length values ≡ count
  pub encoding : List ℕ
  pub encodes : members F (minimal_of w) encoding values
  pub taken : TakesBytes seen encoding old new

module _ {E X : Type 0} {seen : E → List ℕ → Type 0} {w : Grammar} (F : Format X) where
  pub walked_start : (start : List ℕ) (old : E) → HasWalked seen w F start 0 start old old
  walked_start start old = record { values = []; read = members_start F (padded_of w) start; counted = refl; encoding = []; encodes = refl; taken = take_nothing seen old }

  pub walked_step : {start rest behind : List ℕ} {old middle new : E} {count : ℕ} → HasWalked seen w F start count rest old middle → Walks seen w F rest behind middle new → HasWalked seen w F start (count + 1) behind old new
  walked_step {old = old} {middle = middle} {new = new} h g = record {
    values = h.values ++ g.value ∷ [];
    read = members_step F h.read g.decoded;
    counted = omega (arith, length-append h.values (g.value ∷ []), h.counted);
    encoding = h.encoding ++ g.encoding;
    encodes = members_push F (minimal_of w) h.encoding g.encoding h.values g.value h.encodes g.encodes;
    taken = take_then seen h.encoding g.encoding old middle new h.taken g.taken;
  }

  pub walked_skip : {start rest : List ℕ} {old new : E} {count : ℕ} → HasWalked seen w F start count rest old new → HasSkipped F (padded_of w) start count rest
  walked_skip h = record { values = h.values; read = h.read; counted = h.counted }

  -- The count was decoded and taken before the members.
  pub walked_vec : {bytes start rest : List ℕ} {old middle new : E} {count : ℕ} (n : ℕ) → Decodes u32 (padded_of w) bytes n start → TakesBytes seen (unsigned_encoding n) old middle → HasWalked seen w F start count rest middle new → count ≡ n → WalksMany seen w F bytes n rest old new
  walked_vec {old = old} {middle = middle} {new = new} n h e m all =
      let same : length m.values ≡ n = m.counted ∙ all in
      let count : u32 (minimal_of w) (unsigned_encoding n) n = u32_canonical.minimal_in w h.front n h.encodes in
      record {
        value = m.values;
        decoded = vec_decodes F h m.read same;
        counted = sym same;
        encoding = unsigned_encoding n ++ m.encoding;
        encodes = record { front = unsigned_encoding n; back = m.encoding; joined = refl; first = subst (λ z. u32 (minimal_of w) (unsigned_encoding n) z) (sym same) count; second = m.encodes };
        taken = take_then seen (unsigned_encoding n) m.encoding old middle new e m.taken;
      }

  pub many_walks : {bytes rest : List ℕ} {old new : E} (n : ℕ) → WalksMany seen w F bytes n rest old new → Walks seen w (vec F) bytes rest old new
  many_walks n h = record { value = h.value; decoded = h.decoded; encoding = h.encoding; encodes = h.encodes; taken = h.taken }

-- ---- values that occupy all of the bytes

pub whole_walks : {E X : Type 0} (seen : E → List ℕ → Type 0) (w : Grammar) (F : Format X) (bytes rest : List ℕ) (old new : E) → Walks seen w F bytes rest old new → length rest ≡ 0 → WalksWhole seen w F bytes old new
whole_walks seen w F bytes rest old new h e = record { value = h.value; decoded = whole_decodes F bytes rest h.value h.decoded e; encoding = h.encoding; encodes = h.encodes; taken = h.taken }

-- The minimal encoding of a payload is no longer than the payload, whose size was decoded.
content_fits : {X : Type 0} (w : Grammar) (F : Format X) (bytes content rest encoding : List ℕ) (x : X) → HasEncodings F → Decodes (size_prefixed any_bytes) (padded_of w) bytes content rest → F (padded_of w) content x → F (minimal_of w) encoding x → HasEncodableSize encoding
content_fits w F bytes content rest encoding x k h f e =
    let short = k.shorter w content x f in
    let same : short.0 ≡ encoding = k.one w short.0 encoding x short.1 e in
    let d = h.encodes in
    omega (arith, ap length same, short.2, ap length d.encodes, d.size.range)

module _ {E : Type 0} (seen : E → List ℕ → Type 0) (mark : ℕ → List ℕ → Type 0) (n : ℕ) (old middle new : E) where
  -- The payload of a size prefix is walked, and then framed.
  pub sized_walks : {X : Type 0} (w : Grammar) (F : Format X) (bytes content rest : List ℕ) → HasEncodings F → Decodes (size_prefixed any_bytes) (padded_of w) bytes content rest → Marks seen mark old n → WalksWhole seen w F content old middle → Replaces seen mark size_prefixed_encoding n middle new → Walks seen w (size_prefixed F) bytes rest old new
  sized_walks w F bytes content rest k h at m f = record {
    value = m.value;
    decoded = filled_decodes F bytes content rest m.value h m.decoded;
    encoding = size_prefixed_encoding m.encoding;
    encodes = size_prefixed_in (minimal_of w) F m.encoding m.value (content_fits w F bytes content rest m.encoding m.value k h m.decoded m.encodes) m.encodes;
    taken = record { after = λ l s. f.after l m.encoding (at.at l s) (m.taken.after l s) };
  }

  pub keep_framed : Marks seen mark old n → Keeps seen old middle → KeepsMarked seen mark n middle new → Keeps seen old new
  keep_framed at k f = record { after = λ l s. let m = k.after l s in f.after l m.0 (at.at l s) m.1 }

pub is_marked : {E : Type 0} (seen : E → List ℕ → Type 0) (mark : ℕ → List ℕ → Type 0) (n : ℕ) (old new : E) → ((e : E) → (l : List ℕ) × seen e l) → Marks seen mark old n → Keeps seen old new → IsMarked seen mark new n
is_marked seen mark n old new some at k =
    let l = some old in
    let m = k.after l.0 l.1 in
    record { front = l.0; content = m.0; marked = at.at l.0 l.1; taken = m.1 }

pub ruleset sized_steps = (keep_same, sized_walks, keep_framed)

-- ---- a loop over members up to the last byte

pub record HasWalkedMembers {E X : Type 0} (seen : E → List ℕ → Type 0) (w : Grammar) (F : Format X) (bytes rest : List ℕ) (old new : E) : Type 0 where
  pub values : List X
  pub read : HasMembers F (padded_of w) (λ x. x) bytes values rest
  pub encoding : List ℕ
  pub encodes : members F (minimal_of w) encoding values
  pub taken : TakesBytes seen encoding old new

module _ {E X : Type 0} {seen : E → List ℕ → Type 0} {w : Grammar} (F : Format X) (bytes : List ℕ) where
  pub walked_begun : (old : E) → HasWalkedMembers seen w F bytes bytes old old
  walked_begun old = record { values = []; read = members_begun F (λ x. x) bytes; encoding = []; encodes = refl; taken = take_nothing seen old }

  pub walked_continued : Unambiguous F → (rest behind : List ℕ) (old middle new : E) → HasWalkedMembers seen w F bytes rest old middle → rest ≢ [] → Walks seen w F rest behind middle new → HasWalkedMembers seen w F bytes behind old new
  walked_continued unique rest behind old middle new h some g = record {
    values = h.values ++ g.value ∷ [];
    read = members_continued F (λ x. x) bytes unique rest behind h.values g.value h.read some g.decoded;
    encoding = h.encoding ++ g.encoding;
    encodes = members_push F (minimal_of w) h.encoding g.encoding h.values g.value h.encodes g.encodes;
    taken = take_then seen h.encoding g.encoding old middle new h.taken g.taken;
  }

  pub walked_done : (rest : List ℕ) (old new : E) → HasWalkedMembers seen w F bytes rest old new → rest ≡ [] → WalksWhole seen w (members F) bytes old new
  walked_done rest old new h e = record {
    value = h.values;
    decoded = subst (members F (padded_of w) bytes) (map-id h.values) (members_done F (λ x. x) bytes rest h.values h.read e);
    encoding = h.encoding;
    encodes = h.encodes;
    taken = h.taken;
  }
