-- This file proves the laws of formats that have more encodings in the standard's grammar than in
-- the builders'.
use Rattle.wasm_base.proofs.Words.{◌≡◌, ℕ, List, [], ◌∷◌, ◌++◌, Bool, true, false, eqb, eqb-true, refl, sym, ap, subst, ◌∙◌, Format, byte, impossible, mapped, tagged, choice, when, members, vec}
use Rattle.wasm_base.proofs.Words.{size_prefixed, prefixed, by_mode, Mode, Grammar, minimal, padded, standard_minimal, standard, builders, admitted, padded_of, IsIncludedIn, BeginsWith, Unambiguous}
use Rattle.wasm_base.proofs.Words.{Decodes, Rejects, AppendsMinimal, both_grammars, HasEncoding, byte_unambiguous, by_mode_unambiguous, tagged_decodes, tagged_none, tagged_rejects, AllDetermine, DeterminesTag, choice_determines, tagged_unambiguous}
use Rattle.wasm_base.proofs.Words.{choice_unambiguous, choice_other, IsOther, tagged_encodes, is_admitted, minimal_of}
use Rattle.wasm_base.specs.Walks.{TakesBytes, Walks}
use Rattle.wasm_base.proofs.FormatLaws.{AllUnambiguous, Determines}
use Rattle.wasm_base.proofs.WalkLaws.{walked_as, take_then}

-- ---- encodings of one format that another one has too

pub mapped_included : {X Y : Type 0} (f : X → Y) (F G : Format X) (m : Mode) → IsIncludedIn (F m) (G m) → IsIncludedIn (mapped f F m) (mapped f G m)
mapped_included f F G m h s y k = (k.0, k.1, h s k.0 k.2)

pub members_included : {X : Type 0} (F G : Format X) (m : Mode) → IsIncludedIn (F m) (G m) → IsIncludedIn (members F m) (members G m)
members_included F G m h s [] k = k
members_included F G m h s (x ∷ xs) k = (k.0, k.1, k.2, h k.0 x k.3, members_included F G m h k.1 xs k.4)

pub behind_included : {X : Type 0} (F : Format (Unit {0})) (G H : Format X) (m : Mode) → IsIncludedIn (G m) (H m) → IsIncludedIn (tagged F (λ u. G) m) (tagged F (λ u. H) m)
behind_included F G H m h s x k = (k.0, k.1, record { front = k.2.front; back = k.2.back; joined = k.2.joined; first = k.2.first; second = h k.2.back k.0.1 k.2.second })

pub vec_included : {X : Type 0} (F G : Format X) (m : Mode) → IsIncludedIn (F m) (G m) → IsIncludedIn (vec F m) (vec G m)
vec_included F G m h s xs k = record { front = k.front; back = k.back; joined = k.joined; first = k.first; second = members_included F G m h k.back xs k.second }

pub size_prefixed_included : {X : Type 0} (F G : Format X) (m : Mode) → IsIncludedIn (F m) (G m) → IsIncludedIn (size_prefixed F m) (size_prefixed G m)
size_prefixed_included F G m h s x k = record { front = k.front; content = k.content; joined = k.joined; size = k.size; encodes = h k.content x k.encodes }

-- Each format of the first list is included in that of the second list for the same tag.
abbrev pub AllIncluded : {X : Type 0} → List (ℕ × Format X) → (ℕ → Format X) → Mode → List (ℕ × Format X) → Type 0
AllIncluded ds other m [] = Unit {0}
AllIncluded ds other m (c ∷ cs) = IsIncludedIn (c.1 m) (choice ds other c.0 m) × AllIncluded ds other m cs

choice_included : {X : Type 0} (cs ds : List (ℕ × Format X)) (other : ℕ → Format X) (m : Mode) → AllIncluded ds other m cs → (b : ℕ) → IsIncludedIn (choice cs (λ c. impossible) b m) (choice ds other b m)
choice_included [] ds other m all b s x h = absurd h
choice_included {X} (c ∷ cs) ds other m all b s x h = go (choice_included cs ds other m all.1 b s x) (eqb b c.0) refl h
  where
    go : (choice cs (λ c. impossible) b m s x → choice ds other b m s x) → (test : Bool) → eqb b c.0 ≡ test → when test c.1 (choice cs (λ c. impossible) b) m s x → choice ds other b m s x
    go more true e w = subst (λ z. choice ds other z m s x) (sym (eqb-true b c.0 e)) (all.0 s x w)
    go more false e w = more w

pub tagged_included : {X : Type 0} (cs ds : List (ℕ × Format X)) (other : ℕ → Format X) (m : Mode) → AllIncluded ds other m cs → IsIncludedIn (tagged byte (choice cs (λ c. impossible)) m) (tagged byte (choice ds other) m)
tagged_included cs ds other m all s x k = (k.0, k.1, record { front = k.2.front; back = k.2.back; joined = k.2.joined; first = k.2.first; second = choice_included cs ds other m all k.0.0 k.2.back k.0.1 k.2.second })

module _ {X : Type 0} (F G : Format X) (m : Mode) (h : IsIncludedIn (F m) (G m)) where
  pub decodes_included : {bytes rest : List ℕ} {x : X} → Decodes F m bytes x rest → Decodes G m bytes x rest
  decodes_included {x = x} d = record { front = d.front; split = d.split; encodes = h d.front x d.encodes }

  pub rejects_included : {bytes : List ℕ} → Rejects G m bytes → Rejects F m bytes
  rejects_included none = record { none = λ x rest d. none.none x rest (record { front = d.front; split = d.split; encodes = h d.front x d.encodes }) }

-- ---- a choice by a tag, with a format for the tags that the list lacks

-- No tag that the list lacks has a format.
abbrev pub no_other : {X : Type 0} → ℕ → Format X
no_other b = impossible

pub choice_or : {X : Type 0} (tag : X → ℕ) (cs : List (ℕ × Format X)) (other : ℕ → Format X) → AllUnambiguous cs → AllDetermine tag cs → ((b : ℕ) → Unambiguous (other b)) → ((b : ℕ) (mode : Mode) (s : List ℕ) (x : X) → other b mode s x → b ≡ tag x) → Unambiguous (tagged byte (choice cs other))
choice_or tag cs other all tells others rest = tagged_unambiguous tag (choice_determines tag cs other tells rest) byte_unambiguous (choice_unambiguous cs other all others)

-- ---- a format that has more encodings in the standard's grammar

pub wider_unambiguous : {X : Type 0} (F G : Format X) → Unambiguous F → Unambiguous G → IsIncludedIn (F padded) (G padded) → Unambiguous (by_mode F G G)
wider_unambiguous F G f g within =
    by_mode_unambiguous F G G f g (g.unique standard) (λ s x h. g.encodings.included padded standard tt s x (within s x h)) (g.encodings.included standard_minimal standard tt) (g.encodings.shorter admitted)

pub wider_begins : {X : Type 0} (P : ℕ → Type 0) {F G : Format X} → BeginsWith P F → BeginsWith P G → BeginsWith P (by_mode F G G)
wider_begins P f g minimal = f minimal
wider_begins P f g padded = f padded
wider_begins P f g standard_minimal = g standard_minimal
wider_begins P f g standard = g standard

-- The format of a grammar.
abbrev pub of_grammar : {X : Type 0} → Format X → Format X → Grammar → Format X
of_grammar F G builders = F
of_grammar F G admitted = G

pub wider_within : {X : Type 0} (F G : Format X) (w : Grammar) → IsIncludedIn (by_mode F G G (padded_of w)) (of_grammar F G w (padded_of w))
wider_within F G builders s x h = h
wider_within F G admitted s x h = h

pub within_wider : {X : Type 0} (F G : Format X) (w : Grammar) → IsIncludedIn (of_grammar F G w (padded_of w)) (by_mode F G G (padded_of w))
within_wider F G builders s x h = h
within_wider F G admitted s x h = h

-- ---- a value after its tag

module _ {X : Type 0} (tag : X → ℕ) (G : ℕ → Format X) where
  -- An encoding begins with the tag of its value.
  begins_with_tag : DeterminesTag G tag → (mode : Mode) (s : List ℕ) (x : X) → tagged byte G mode s x → prefixed (tag x ∷ []) (G (tag x)) mode s x
  begins_with_tag tells mode s x h =
      let back : G h.0.0 mode h.2.back x = subst (λ y. G h.0.0 mode h.2.back y) h.1 h.2.second in
      let same : h.0.0 ≡ tag x = tells mode h.0.0 h.2.back x back in (
        (tt, x),
        refl,
        record {
          front = tag x ∷ [];
          back = h.2.back;
          joined = h.2.joined ∙ ap (λ z. z ++ h.2.back) (h.2.first ∙ ap (λ b. b ∷ []) same);
          first = (refl, refl);
          second = subst (λ b. G b mode h.2.back x) same back;
        },
      )

  with_tag : (mode : Mode) (s : List ℕ) (x : X) → prefixed (tag x ∷ []) (G (tag x)) mode s x → tagged byte G mode s x
  with_tag mode s x k = ((tag x, x), refl, record { front = tag x ∷ []; back = k.2.back; joined = k.2.joined ∙ ap (λ z. z ++ k.2.back) k.2.first.0; first = refl; second = subst (λ y. G (tag x) mode k.2.back y) k.1 k.2.second })

-- Another format after the same bytes.
behind_prefix : {mode : Mode} {X : Type 0} (head : List ℕ) (F G : Format X) (x : X) → ((s : List ℕ) → F mode s x → G mode s x) → {s : List ℕ} → prefixed head F mode s x → prefixed head G mode s x
behind_prefix {mode = mode} head F G x f k = ((tt, x), refl, record { front = k.2.front; back = k.2.back; joined = k.2.joined; first = k.2.first; second = f k.2.back (subst (λ y. F mode k.2.back y) k.1 k.2.second) })

-- No format of the list encodes the value.
abbrev pub AllLack : {X : Type 0} → X → List (ℕ × Format X) → Type 0
AllLack x [] = Unit {0}
AllLack x (c ∷ cs) = ((mode : Mode) (s : List ℕ) → c.1 mode s x → ⊥) × AllLack x cs

choice_lacks : {X : Type 0} (cs : List (ℕ × Format X)) (other : ℕ → Format X) (b : ℕ) (mode : Mode) (s : List ℕ) (x : X) → AllLack x cs → choice cs other b mode s x → choice cs other b ≡ other b
choice_lacks [] other b mode s x all h = refl
choice_lacks {X} (c ∷ cs) other b mode s x all h = go (choice_lacks cs other b mode s x all.1) (eqb b c.0) h
  where
    go : (choice cs other b mode s x → choice cs other b ≡ other b) → (test : Bool) → when test c.1 (choice cs other b) mode s x → when test c.1 (choice cs other b) ≡ other b
    go more true k = absurd (all.0 mode s k)
    go more false k = more k

-- ---- formats by a tag, of which the standard's grammar has more

module _ {X : Type 0} (cs ds : List (ℕ × Format X)) (other : ℕ → Format X) where
  -- A tag of the grammar, then a value. In the standard's grammar, a tag that the list lacks has a
  -- format too.
  abbrev pub by_tag : Format X
  by_tag = by_mode (tagged byte (choice cs (λ b. impossible))) (tagged byte (choice ds other)) (tagged byte (choice ds other))

  -- The format after a tag in the grammar.
  abbrev pub after_tag : Grammar → ℕ → Format X
  after_tag builders b = choice cs (λ c. impossible) b
  after_tag admitted b = choice ds other b

  pub tag_decodes : (w : Grammar) {bytes rest last : List ℕ} {b : ℕ} {x : X} → Decodes byte (padded_of w) bytes b rest → Decodes (after_tag w b) (padded_of w) rest x last → Decodes by_tag (padded_of w) bytes x last
  tag_decodes builders h g = let d = tagged_decodes {G = choice cs (λ c. impossible)} h g in record { front = d.front; split = d.split; encodes = d.encodes }
  tag_decodes admitted h g = let d = tagged_decodes {G = choice ds other} h g in record { front = d.front; split = d.split; encodes = d.encodes }

  pub tag_rejects : (w : Grammar) {bytes rest : List ℕ} {b : ℕ} → Decodes byte (padded_of w) bytes b rest → Rejects (after_tag w b) (padded_of w) rest → Rejects by_tag (padded_of w) bytes
  tag_rejects builders h n = let d = tagged_rejects {G = choice cs (λ c. impossible)} byte_unambiguous h n in record { none = λ x last g. d.none x last (record { front = g.front; split = g.split; encodes = g.encodes }) }
  tag_rejects admitted h n = let d = tagged_rejects {G = choice ds other} byte_unambiguous h n in record { none = λ x last g. d.none x last (record { front = g.front; split = g.split; encodes = g.encodes }) }

  pub tag_none : (w : Grammar) (bytes : List ℕ) → Rejects byte (padded_of w) bytes → Rejects by_tag (padded_of w) bytes
  tag_none builders bytes n = let d = tagged_none byte (choice cs (λ c. impossible)) bytes n in record { none = λ x last g. d.none x last (record { front = g.front; split = g.split; encodes = g.encodes }) }
  tag_none admitted bytes n = let d = tagged_none byte (choice ds other) bytes n in record { none = λ x last g. d.none x last (record { front = g.front; split = g.split; encodes = g.encodes }) }

  pub tag_is : (w : Grammar) (c : ℕ) {bytes rest last : List ℕ} {b : ℕ} {x : X} → Decodes byte (padded_of w) bytes b rest → b ≡ c → Decodes (after_tag w c) (padded_of w) rest x last → Decodes by_tag (padded_of w) bytes x last
  tag_is w c {rest = rest} {last = last} {x = x} h e g = tag_decodes w h (subst (λ z. Decodes (after_tag w z) (padded_of w) rest x last) (sym e) g)

  pub tag_is_not : (w : Grammar) (c : ℕ) {bytes rest : List ℕ} {b : ℕ} → Decodes byte (padded_of w) bytes b rest → b ≡ c → Rejects (after_tag w c) (padded_of w) rest → Rejects by_tag (padded_of w) bytes
  tag_is_not w c {rest = rest} h e n = tag_rejects w h (subst (λ z. Rejects (after_tag w z) (padded_of w) rest) (sym e) n)

  -- A tag with the same format in both grammars.
  module _ (c : ℕ) (F : Format X) (e : choice cs (λ b. impossible) c ≡ F) (f : choice ds other c ≡ F) where
    pub both_is : (w : Grammar) {bytes rest last : List ℕ} {b : ℕ} {x : X} → Decodes byte (padded_of w) bytes b rest → b ≡ c → Decodes F (padded_of w) rest x last → Decodes by_tag (padded_of w) bytes x last
    both_is builders {rest = rest} {last = last} {x = x} h is g = tag_is builders c h is (subst (λ G. Decodes G padded rest x last) (sym e) g)
    both_is admitted {rest = rest} {last = last} {x = x} h is g = tag_is admitted c h is (subst (λ G. Decodes G standard rest x last) (sym f) g)

    pub both_is_not : (w : Grammar) {bytes rest : List ℕ} {b : ℕ} → Decodes byte (padded_of w) bytes b rest → b ≡ c → Rejects F (padded_of w) rest → Rejects by_tag (padded_of w) bytes
    both_is_not builders {rest = rest} h is n = tag_is_not builders c h is (subst (λ G. Rejects G padded rest) (sym e) n)
    both_is_not admitted {rest = rest} h is n = tag_is_not admitted c h is (subst (λ G. Rejects G standard rest) (sym f) n)

    both_encodes : (w : Grammar) (s : List ℕ) (x : X) → F (minimal_of w) s x → by_tag (minimal_of w) (c ∷ s) x
    both_encodes builders s x k = tagged_encodes minimal c s x (subst (λ G. G minimal s x) (sym e) k)
    both_encodes admitted s x k = tagged_encodes standard_minimal c s x (subst (λ G. G standard_minimal s x) (sym f) k)

    pub both_walks : {E : Type 0} {seen : E → List ℕ → Type 0} (w : Grammar) {b : ℕ} {bytes rest last : List ℕ} {old middle new : E} → Decodes byte (padded_of w) bytes b rest → b ≡ c → TakesBytes seen (b ∷ []) old middle → Walks seen w F rest last middle new → Walks seen w by_tag bytes last old new
    both_walks {seen = seen} w {bytes = bytes} {last = last} {old = old} {middle = middle} {new = new} h is a m =
        walked_as seen w by_tag m.value bytes last (c ∷ m.encoding) old new (both_is w h is m.decoded) (both_encodes w m.encoding m.value m.encodes) (take_then seen (c ∷ []) m.encoding old middle new (subst (λ z. TakesBytes seen (z ∷ []) old middle) is a) m.taken)

  -- A tag of the standard's grammar alone.
  module _ (c : ℕ) (F : Format X) (f : choice ds other c ≡ F) where
    pub full_is : (w : Grammar) {bytes rest last : List ℕ} {b : ℕ} {x : X} → is_admitted w ≡ true → Decodes byte (padded_of w) bytes b rest → b ≡ c → Decodes F (padded_of w) rest x last → Decodes by_tag (padded_of w) bytes x last
    full_is builders i h is g = absurd (cc i)
    full_is admitted {rest = rest} {last = last} {x = x} i h is g = tag_is admitted c h is (subst (λ G. Decodes G standard rest x last) (sym f) g)

    pub full_is_not : (w : Grammar) {bytes rest : List ℕ} {b : ℕ} → is_admitted w ≡ true → Decodes byte (padded_of w) bytes b rest → b ≡ c → Rejects F (padded_of w) rest → Rejects by_tag (padded_of w) bytes
    full_is_not builders i h is n = absurd (cc i)
    full_is_not admitted {rest = rest} i h is n = tag_is_not admitted c h is (subst (λ G. Rejects G standard rest) (sym f) n)

    full_encodes : (w : Grammar) (s : List ℕ) (x : X) → is_admitted w ≡ true → F (minimal_of w) s x → by_tag (minimal_of w) (c ∷ s) x
    full_encodes builders s x i k = absurd (cc i)
    full_encodes admitted s x i k = tagged_encodes standard_minimal c s x (subst (λ G. G standard_minimal s x) (sym f) k)

    pub full_walks : {E : Type 0} {seen : E → List ℕ → Type 0} (w : Grammar) {b : ℕ} {bytes rest last : List ℕ} {old middle new : E} → is_admitted w ≡ true → Decodes byte (padded_of w) bytes b rest → b ≡ c → TakesBytes seen (b ∷ []) old middle → Walks seen w F rest last middle new → Walks seen w by_tag bytes last old new
    full_walks {seen = seen} w {bytes = bytes} {last = last} {old = old} {middle = middle} {new = new} i h is a m =
        walked_as seen w by_tag m.value bytes last (c ∷ m.encoding) old new (full_is w i h is m.decoded) (full_encodes w m.encoding m.value i m.encodes) (take_then seen (c ∷ []) m.encoding old middle new (subst (λ z. TakesBytes seen (z ∷ []) old middle) is a) m.taken)

  -- A tag that the list of the standard's grammar lacks.
  module _ {b : ℕ} (o : IsOther ds b) where
    pub other_is : (w : Grammar) {bytes rest last : List ℕ} {x : X} → is_admitted w ≡ true → Decodes byte (padded_of w) bytes b rest → Decodes (other b) (padded_of w) rest x last → Decodes by_tag (padded_of w) bytes x last
    other_is builders f h g = absurd (cc f)
    other_is admitted {rest = rest} {last = last} {x = x} f h g = tag_decodes admitted h (subst (λ G. Decodes G standard rest x last) (sym (choice_other ds other b o)) g)

    pub other_is_not : (w : Grammar) {bytes rest : List ℕ} → is_admitted w ≡ true → Decodes byte (padded_of w) bytes b rest → Rejects (other b) (padded_of w) rest → Rejects by_tag (padded_of w) bytes
    other_is_not builders f h n = absurd (cc f)
    other_is_not admitted {rest = rest} f h n = tag_rejects admitted h (subst (λ G. Rejects G standard rest) (sym (choice_other ds other b o)) n)

    other_encodes : (w : Grammar) (s : List ℕ) (x : X) → is_admitted w ≡ true → other b (minimal_of w) s x → by_tag (minimal_of w) (b ∷ s) x
    other_encodes builders s x f k = absurd (cc f)
    other_encodes admitted s x f k = tagged_encodes standard_minimal b s x (subst (λ G. G standard_minimal s x) (sym (choice_other ds other b o)) k)

    pub other_walks : {E : Type 0} {seen : E → List ℕ → Type 0} (w : Grammar) {bytes rest last : List ℕ} {old middle new : E} → is_admitted w ≡ true → Decodes byte (padded_of w) bytes b rest → TakesBytes seen (b ∷ []) old middle → Walks seen w (other b) rest last middle new → Walks seen w by_tag bytes last old new
    other_walks {seen = seen} w {bytes = bytes} {last = last} {old = old} {middle = middle} {new = new} f h a m =
        walked_as seen w by_tag m.value bytes last (b ∷ m.encoding) old new (other_is w f h m.decoded) (other_encodes w m.encoding m.value f m.encodes) (take_then seen (b ∷ []) m.encoding old middle new a m.taken)

  -- ---- the one minimal encoding of a decoded value

  module _ (tag : X → ℕ) (tells : AllDetermine tag cs) (tells_more : AllDetermine tag ds) (tells_other : (b : ℕ) → Determines tag b (other b)) (x : X) where
    -- The format after the tag of the value.
    abbrev after_its : Grammar → Format X
    after_its w = after_tag w (tag x)

    -- An encoding of the value begins with its tag.
    in_tag : (w : Grammar) (s : List ℕ) → by_tag (padded_of w) s x → prefixed (tag x ∷ []) (after_its w) (padded_of w) s x
    in_tag builders s h = begins_with_tag tag (choice cs (λ c. impossible)) (choice_determines tag cs (λ c. impossible) tells (λ b mode s x h. absurd h)) padded s x h
    in_tag admitted s h = begins_with_tag tag (choice ds other) (choice_determines tag ds other tells_more tells_other) standard s x h

    at_tag : (w : Grammar) (s : List ℕ) → prefixed (tag x ∷ []) (after_its w) (minimal_of w) s x → by_tag (minimal_of w) s x
    at_tag builders s h = with_tag tag (choice cs (λ c. impossible)) minimal s x h
    at_tag admitted s h = with_tag tag (choice ds other) standard_minimal s x h

    -- A format that has the encodings of the value after its tag.
    module _ (F : Format X) (within : (w : Grammar) (s : List ℕ) → after_its w (padded_of w) s x → F (padded_of w) s x) where
      in_content : (w : Grammar) (s : List ℕ) → by_tag (padded_of w) s x → prefixed (tag x ∷ []) F (padded_of w) s x
      in_content w s h = behind_prefix (tag x ∷ []) (after_its w) F x (within w) (in_tag w s h)

      pub tag_encoded : HasEncoding both_grammars by_tag x → HasEncoding both_grammars (prefixed (tag x ∷ []) F) x
      tag_encoded h = record { grammar = h.grammar; included = tt; bytes = h.bytes; decoded = in_content h.grammar h.bytes h.decoded }

      pub tag_appended : ((w : Grammar) (u s : List ℕ) → after_its w (padded_of w) u x → F (minimal_of w) s x → after_its w (minimal_of w) s x) → {old new : List ℕ} → AppendsMinimal both_grammars (prefixed (tag x ∷ []) F) x old new → AppendsMinimal both_grammars by_tag x old new
      tag_appended short a = record {
        encoding = a.encoding;
        appended = a.appended;
        encodes = λ w q s h.
            let d = in_tag w s h in
            let padded_content = subst (λ y. after_its w (padded_of w) d.2.back y) d.1 d.2.second in
            at_tag w a.encoding (behind_prefix (tag x ∷ []) F (after_its w) x (λ u k. short w d.2.back u padded_content k) (a.encodes w q s (in_content w s h)));
      }

    -- In each grammar that has an encoding of the value, `F` is the format after its tag.
    abbrev pub IsAfterTag : Format X → Type 1
    IsAfterTag F = (w : Grammar) (s : List ℕ) → after_its w (padded_of w) s x → after_its w ≡ F

    pub known_encoded : (F : Format X) → IsAfterTag F → HasEncoding both_grammars by_tag x → HasEncoding both_grammars (prefixed (tag x ∷ []) F) x
    known_encoded F known h = tag_encoded F (λ w s k. subst (λ G. G (padded_of w) s x) (known w s k) k) h

    pub known_appended : (F : Format X) → IsAfterTag F → {old new : List ℕ} → AppendsMinimal both_grammars (prefixed (tag x ∷ []) F) x old new → AppendsMinimal both_grammars by_tag x old new
    known_appended F known a = tag_appended F (λ w s k. subst (λ G. G (padded_of w) s x) (known w s k) k) (λ w u s k g. subst (λ G. G (minimal_of w) s x) (sym (known w u k)) g) a

    pub in_each : (F : Format X) → choice cs (λ c. impossible) (tag x) ≡ F → choice ds other (tag x) ≡ F → IsAfterTag F
    in_each F e f builders s h = e
    in_each F e f admitted s h = f

    pub in_standard : (F : Format X) → choice cs (λ c. impossible) (tag x) ≡ impossible → choice ds other (tag x) ≡ F → IsAfterTag F
    in_standard F e f builders s h = absurd (subst (λ G. G padded s x) e h)
    in_standard F e f admitted s h = f

    -- No format of the lists has the value.
    pub in_others : AllLack x cs → AllLack x ds → IsAfterTag (other (tag x))
    in_others lack more builders s h = absurd (subst (λ G. G padded s x) (choice_lacks cs (λ c. impossible) (tag x) padded s x lack h) h)
    in_others lack more admitted s h = choice_lacks ds other (tag x) standard s x more h

-- A value after fixed bytes, and its image by an injective function.
module _ {X Y : Type 0} (f : X → Y) (apart : (x z : X) → f z ≡ f x → z ≡ x) (head : List ℕ) (F : Format X) (x : X) where
  of_image : (mode : Mode) (s : List ℕ) → prefixed head (mapped f F) mode s (f x) → prefixed head F mode s x
  of_image mode s h =
      let y : mapped f F mode h.2.back (f x) = subst (λ y. mapped f F mode h.2.back y) h.1 h.2.second in
      ((tt, x), refl, record { front = h.2.front; back = h.2.back; joined = h.2.joined; first = h.2.first; second = subst (λ z. F mode h.2.back z) (apart x y.0 y.1) y.2 })

  pub content_appended : {old new : List ℕ} → AppendsMinimal both_grammars (prefixed head F) x old new → AppendsMinimal both_grammars (prefixed head (mapped f F)) (f x) old new
  content_appended a = record {
    encoding = a.encoding;
    appended = a.appended;
    encodes = λ w q s h.
        let k = a.encodes w q s (of_image (padded_of w) s h) in
        ((tt, f x), refl, record { front = k.2.front; back = k.2.back; joined = k.2.joined; first = k.2.first; second = (k.0.1, ap f k.1, k.2.second) });
  }

  pub content_of : HasEncoding both_grammars (prefixed head (mapped f F)) (f x) → HasEncoding both_grammars (prefixed head F) x
  content_of h = record { grammar = h.grammar; included = tt; bytes = h.bytes; decoded = of_image (padded_of h.grammar) h.bytes h.decoded }
