-- This file proves what callers conclude from the minimizers of values and of bodies.
use Rattle.wasm_base.proofs.Words.{◌≡◌, ℕ, List, [], ◌∷◌, ◌++◌, false, refl, sym, ap, subst, ◌∙◌, inl, admitted, builders, minimal, padded, standard, standard_minimal, Decodes, ref_type, decodes_same, ref_unambiguous, AppendsMinimal, builders_alone, size_prefixed}
use Rattle.wasm_base.proofs.Std.{Vec}
use Rattle.wasm_base.specs.Minimal.{MinimizesWhole}
use Rattle.wasm_base.specs.Walks.{Walks}
use Rattle.wasm_base.specs.Types.{abstract_code, nullable_to}
use Rattle.wasm_base.specs.declared.types.AbstractHeapType.{AbstractHeapType}
use Rattle.wasm_base.specs.declared.types.HeapType.TheVariants.{Abstract}
use Rattle.wasm_code.proofs.Words.{Body, body}
use Rattle.wasm_reader.specs.Kinds.{Contents, content}
use Rattle.wasm_reader.specs.declared.kinds.SectionKind.{SectionKind}
use Rattle.wasm_reader.proofs.KindLaws.{content_whole}
use Rattle.wasm_code.proofs.BodyLaws.{body_whole, size_prefixed_body_unambiguous}

-- A nullable reference to an abstract type has one minimal encoding, of one byte.
pub one_byte : {A : Type 0} {bytes rest : List ℕ} {old new : Vec ℕ A} → Walks (λ e l. e.items ≡ l) admitted ref_type bytes rest old new → (ty : AbstractHeapType) (last : List ℕ) → Decodes ref_type standard bytes (nullable_to (Abstract false ty)) last → new.items ≡ old.items ++ abstract_code ty ∷ []
one_byte {old = old} h ty last d =
    let x = nullable_to (Abstract false ty) in
    let same : h.value ≡ x = (decodes_same ref_unambiguous h.decoded d).0 in
    let short : ref_type standard_minimal (abstract_code ty ∷ []) x = inl (ty, refl, refl) in
    let encoding : h.encoding ≡ abstract_code ty ∷ [] = ref_unambiguous.encodings.one admitted h.encoding (abstract_code ty ∷ []) x (subst (λ z. ref_type standard_minimal h.encoding z) same h.encodes) short in
    h.taken.after old.items refl ∙ ap (λ z. old.items ++ z) encoding

-- The appended encoding is the minimal one of the body that the bytes encode.
pub of_body : {bytes old new : List ℕ} → (y : Body) × body padded bytes y × AppendsMinimal builders_alone (size_prefixed body) y old new → (x : Body) (encoding : List ℕ) → body padded bytes x → size_prefixed body minimal encoding x → new ≡ old ++ encoding
of_body {bytes = bytes} {old = old} {new = new} h x encoding b e =
    let same : h.0 ≡ x = body_whole.whole padded bytes h.0 x h.1 b in
    let appends : AppendsMinimal builders_alone (size_prefixed body) x old new = subst (λ z. AppendsMinimal builders_alone (size_prefixed body) z old new) same h.2 in
    let unique = size_prefixed_body_unambiguous.encodings in
    let is : appends.encoding ≡ encoding = unique.one builders appends.encoding encoding x (appends.encodes builders tt encoding (unique.included minimal padded tt encoding x e)) e in
    appends.appended ∙ ap (λ z. old ++ z) is

-- The minimal encoding of a payload decodes to the same items.
pub same_content : (kind : SectionKind) (bytes old new : List ℕ) → MinimizesWhole admitted (content kind) bytes old new → old ≡ [] → (x : Contents) → content kind standard bytes x → content kind standard new x
same_content kind bytes old new h e x d =
    let whole = content_whole kind in
    let same : h.value ≡ x = whole.whole standard bytes h.value x h.decoded d in
    let minimal_too : content kind standard_minimal h.encoding x = subst (λ z. content kind standard_minimal h.encoding z) same h.encodes in
    let is : new ≡ h.encoding = h.appended ∙ ap (λ z. z ++ h.encoding) e in
    subst (λ z. content kind standard z x) (sym is) (whole.encodings.included standard_minimal standard tt h.encoding x minimal_too)
