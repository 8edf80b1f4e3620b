-- This file proves that the payload of a section decodes to its items alone.
use Rattle.wasm_base.proofs.Std.{List, [], ℕ, refl, sym, subst}
use Rattle.wasm_base.specs.{Mode, minimal, padded, Format, u32, any_bytes, vec, size_prefixed, name, pair, DecodesPayloads, DecodesPayloadsPadded, Unambiguous, UnambiguousWhole, IsSizePrefixed}
use Rattle.wasm_base.proofs.BaseLaws.{size_prefixed_bytes_unambiguous, name_unambiguous}
use Rattle.wasm_base.proofs.FormatLaws.{any_bytes_whole, pair_whole, vec_unambiguous, whole_from_unique}
use Rattle.wasm_base.proofs.NumberLaws.{u32_unambiguous}
use Rattle.wasm_base.proofs.EncodingLaws.{decodes_whole, size_prefixed_in}

-- If size-prefixed bytes encode a value, so does their payload.
content_encodes : {X : Type 0} {F : Format X} {encoding payload : List ℕ} {x : X} (mode : Mode) → IsSizePrefixed encoding payload → size_prefixed F mode encoding x → F mode payload x
content_encodes {F = F} {encoding = encoding} {payload = payload} {x = x} mode sized h =
    let given = subst (λ s. size_prefixed any_bytes mode s payload) (sym sized.is) (size_prefixed_in mode any_bytes payload payload sized.encodable refl) in
    let found : size_prefixed any_bytes mode encoding h.content = record { front = h.front; content = h.content; joined = h.joined; size = h.size; encodes = refl } in
    let same = size_prefixed_bytes_unambiguous.unique mode encoding encoding [] [] h.content payload found given refl in
    subst (λ s. F mode s x) same.0 h.encodes

pub payload-decodes : {X : Type 0} {F : Format X} → UnambiguousWhole F → DecodesPayloads F
payload-decodes {F = F} whole = record { unique = λ encoding payload x sized decodes. decodes_whole {F = F} whole (content_encodes {F = F} minimal sized decodes.encodes) }

-- For padded LEB128 this holds of every format.
pub payload-decodes-padded : {X : Type 0} (F : Format X) → DecodesPayloadsPadded F
payload-decodes-padded F = record {
  unique = λ encoding payload x sized decodes. record {
    encodes = content_encodes {F = F} padded sized decodes.encodes;
    unique = λ y h.
        let whole = subst (λ s. size_prefixed F padded s y) (sym sized.is) (size_prefixed_in padded F payload y sized.encodable h) in
        (decodes.unique [] y [] (record { front = encoding; split = refl; encodes = whole })).0;
  };
}

-- The payload of a section of counted items decodes to them alone.
pub counted-payload : {X : Type 0} {F : Format X} → Unambiguous F → DecodesPayloads (vec F)
counted-payload f = payload-decodes (whole_from_unique (vec_unambiguous f))

pub bytes-payload : DecodesPayloads any_bytes
bytes-payload = payload-decodes any_bytes_whole

pub u32-payload : DecodesPayloads u32
u32-payload = payload-decodes (whole_from_unique u32_unambiguous)

pub custom-payload : DecodesPayloads (pair name any_bytes)
custom-payload = payload-decodes (pair_whole name_unambiguous any_bytes_whole)

pub ruleset raw_payloads = (bytes-payload, u32-payload, custom-payload)

pub ruleset padded_payloads = (payload-decodes-padded)
