-- This file proves that what builders write for some content, minimized in a grammar, is the minimal
-- encoding of the content in that grammar.
use Rattle.wasm_base.proofs.Words.{◌≡◌, ℕ, List, [], ◌++◌, ◌∙◌, ap, sym, subst, padded_of, minimal_of, Grammar, AppendsMinimal, RejectsWhole, Format, UnambiguousWhole}
use Rattle.wasm_base.specs.Numbers.{builders, admitted, minimal, padded, standard_minimal, standard}
use Rattle.wasm_base.specs.Minimal.{HasEncoding, MinimizesWhole}
use Rattle.std.proofs.Common.{Result, Ok, Err, IsErrAnd}
use Rattle.wasm_base.specs.declared.refused.Refused.{Refused}
use Rattle.wasm_reader.specs.declared.kinds.SectionKind.{SectionKind}
use Rattle.wasm_reader.specs.{Contents, content, grammars_of, kind_in, Extends, HasContentIn, HasShortBodies, AppendsContentIn}
use Rattle.wasm_reader.proofs.BuiltSections.{is_writable}
use Rattle.wasm_reader.proofs.KindLaws.{content_whole, kind_is}

-- A minimal encoding is one in each grammar that extends this one.
extended : {X : Type 0} (F : Format X) → UnambiguousWhole F → (w v : Grammar) → Extends w v → (s : List ℕ) (x : X) → F (minimal_of v) s x → F (padded_of w) s x
extended F u builders builders i s x h = u.encodings.included minimal padded tt s x h
extended F u builders admitted i s x h = absurd i
extended F u admitted builders i s x h = u.encodings.included padded standard tt s x (u.encodings.included minimal padded tt s x h)
extended F u admitted admitted i s x h = u.encodings.included standard_minimal standard tt s x h

-- What builders write for the content decodes to it.
written_decodes : (w : Grammar) (x : Contents) (written : List ℕ) → AppendsMinimal (grammars_of (kind_in x)) (content (kind_in x)) x [] written → HasContentIn w x → content (kind_in x) (padded_of w) written x
written_decodes w x written a h =
    let v = is_writable w x h in
    subst (λ s. content (kind_in x) (padded_of w) s x) (sym a.appended)
    (extended (content (kind_in x)) (content_whole (kind_in x)) w v.grammar v.extended a.encoding x (a.encodes v.grammar v.included v.bytes v.decoded))

minimized : (w : Grammar) (x : Contents) (written old new : List ℕ) → AppendsMinimal (grammars_of (kind_in x)) (content (kind_in x)) x [] written → MinimizesWhole w (content (kind_in x)) written old new → AppendsContentIn w x old new
minimized w x written old new a m = record {
  encoding = m.encoding;
  appended = m.appended;
  encodes = λ h. subst (λ v. content (kind_in x) (minimal_of w) m.encoding v) ((content_whole (kind_in x)).whole (padded_of w) written m.value x m.decoded (written_decodes w x written a h)) m.encodes;
}

-- What builders write for the content into an empty buffer, whose bytes are minimized by its kind.
pub record IsWritten (x : Contents) (kind : SectionKind) (bytes : List ℕ) : Type 0 where
  pub is_kind : kind ≡ kind_in x
  pub empty : List ℕ
  pub written : List ℕ
  pub is_empty : empty ≡ []
  pub are : bytes ≡ written
  pub appended : AppendsMinimal (grammars_of (kind_in x)) (content (kind_in x)) x empty written

from_empty : (x : Contents) (kind : SectionKind) (bytes : List ℕ) → (i : IsWritten x kind bytes) → AppendsMinimal (grammars_of (kind_in x)) (content (kind_in x)) x [] i.written
from_empty x kind bytes i = subst (λ o. AppendsMinimal (grammars_of (kind_in x)) (content (kind_in x)) x o i.written) i.is_empty i.appended

pub content_minimized : (w : Grammar) (x : Contents) (kind : SectionKind) (bytes old new : List ℕ) → IsWritten x kind bytes → MinimizesWhole w (content kind) bytes old new → AppendsContentIn w x old new
content_minimized w x kind bytes old new i m = minimized w x i.written old new (from_empty x kind bytes i) (subst (λ k. MinimizesWhole w (content k) i.written old new) i.is_kind (subst (λ s. MinimizesWhole w (content kind) s old new) i.are m))

pub content_not_rejected : (w : Grammar) (x : Contents) (kind : SectionKind) (bytes : List ℕ) → IsWritten x kind bytes → RejectsWhole (content kind) (padded_of w) bytes → HasContentIn w x → ⊥
content_not_rejected w x kind bytes i r h = r.none x (subst (λ k. content k (padded_of w) bytes x) (sym i.is_kind) (subst (λ s. content (kind_in x) (padded_of w) s x) (sym i.are) (written_decodes w x i.written (from_empty x kind bytes i) h)))

-- Builders encode the content.
pub content_encodable : (w : Grammar) (x : Contents) → HasContentIn w x → HasEncoding (grammars_of (kind_in x)) (content (kind_in x)) x
content_encodable w x h = let v = is_writable w x h in record { grammar = v.grammar; included = v.included; bytes = v.bytes; decoded = v.decoded }

-- The error that a call propagates is that of its callee.
pub refused_same : {T : Type 0} (r : Result T Refused) (x y : Refused) → IsErrAnd r (λ z. z ≡ x) → r ≡ Err y → x ≡ y
refused_same (Ok v) x y h e = elim h [ ]
refused_same (Err z) x y h e = sym h ∙ cc e

-- ---- for callers

-- The items that a payload decodes to.
pub decoded_content : (w v : Grammar) (kind : SectionKind) (bytes : List ℕ) (x : Contents) → Extends w v → content kind (padded_of v) bytes x → HasShortBodies v kind bytes → HasContentIn w x
decoded_content w v kind bytes x i h short =
    let same = sym (kind_is (padded_of v) kind bytes x h) in
    record { grammar = v; extended = i; bytes = bytes; decoded = subst (λ k. content k (padded_of v) bytes x) same h; short = subst (λ k. HasShortBodies v k bytes) same short }

-- What an empty buffer gains for them is their minimal encoding.
pub content_written : {w : Grammar} {old new : List ℕ} {x : Contents} → HasContentIn w x → old ≡ [] → AppendsContentIn w x old new → content (kind_in x) (minimal_of w) new x
content_written {w = w} {new = new} {x = x} h e a = subst (λ s. content (kind_in x) (minimal_of w) s x) (sym (a.appended ∙ ap (λ o. o ++ a.encoding) e)) (a.encodes h)
