-- This file proves what a pass appends for the content of a section.
use Rattle.wasm_base.proofs.Words.{◌≡◌, ℕ, List, [], map, refl, sym, ap, subst}
use Rattle.wasm_base.specs.Formats.{size_prefixed, vec}
use Rattle.wasm_base.specs.Minimal.{AppendsMinimal, HasEncoding, Includes, both_grammars}
use Rattle.wasm_base.specs.Numbers.{Grammar, admitted, builders, padded, padded_of, standard}
use Rattle.wasm_code.specs.Bodies.{Body, body}
use Rattle.wasm_reader.specs.Kinds.{Bodies, Contents, content, grammars_of, kind_in}
use Rattle.wasm_reader.specs.Sections.{AppendsContentIn, HasContentIn}
use Rattle.wasm_reader.specs.Words.{Section, section_kind_of}
use Rattle.wasm_reader.specs.declared.kinds.SectionKind.{SectionKind}
use Rattle.wasm_reader.specs.declared.kinds.SectionKind.TheVariants as kinds
use Rattle.wasm_reader.proofs.KindLaws.{content_whole}
use Rattle.wasm_remap.specs.Instructions.{remapped_body}
use Rattle.wasm_remap.specs.Mapping.{Mapping}
use Rattle.wasm_remap.specs.Sections.{RemapsSection}
use Rattle.wasm_remap.specs.Streamed.{RemapsWhole}
use Rattle.wasm_remap.proofs.MappedSections.{section_remapped}

-- What decodes in some grammar decodes in the standard's.
in_standard : (kind : SectionKind) (w : Grammar) (t : List ℕ) (x : Contents) → content kind (padded_of w) t x → content kind standard t x
in_standard kind builders t x d = (content_whole kind).encodings.included padded standard tt t x d
in_standard kind admitted t x d = d

-- The encoding that builders write is minimal in both grammars.
pub built_appends : (x : Contents) (old new : List ℕ) → grammars_of (kind_in x) ≡ both_grammars → AppendsMinimal (grammars_of (kind_in x)) (content (kind_in x)) x old new → AppendsContentIn admitted x old new
built_appends x old new e a = record {
  encoding = a.encoding;
  appended = a.appended;
  encodes = λ q. a.encodes admitted (subst (λ k. Includes k admitted) (sym e) tt) q.bytes (in_standard (kind_in x) q.grammar q.bytes x q.decoded);
}

-- An encoding in one of these grammars is one in the standard's.
pub built_has : (x : Contents) → grammars_of (kind_in x) ≡ both_grammars → HasContentIn admitted x → HasEncoding (grammars_of (kind_in x)) (content (kind_in x)) x
built_has x e q = record { grammar = q.grammar; included = subst (λ k. Includes k q.grammar) (sym e) tt; bytes = q.bytes; decoded = q.decoded }

abbrev bodies_in : Contents → List Body
bodies_in (Bodies xs) = xs
bodies_in x = []

-- All bodies of the payload are appended, after their number.
pub bodies_remap : (m : Mapping) (s : Section) (payload old new : List ℕ) → section_kind_of s ≡ kinds.Bodies → payload ≡ s.payload → RemapsWhole (map (remapped_body m)) (vec (size_prefixed body)) payload old new → RemapsSection m s old new
bodies_remap m s payload old new kind at h =
    let x : Contents = Bodies h.value in
    let y : Contents = Bodies (map (remapped_body m) h.value) in
    let decoded : content kinds.Bodies standard s.payload x = (h.value, refl, subst (λ z. vec (size_prefixed body) standard z h.value) at h.decoded) in
    section_remapped m s x y old new (subst (λ k. content k standard s.payload x) (sym kind) decoded) refl (record {
      encoding = h.appends.encoding;
      appended = h.appends.appended;
      encodes = λ q.
          let form : content kinds.Bodies standard q.bytes y = in_standard kinds.Bodies q.grammar q.bytes y q.decoded in
          let same : form.0 ≡ map (remapped_body m) h.value = ap bodies_in form.1 in
          (map (remapped_body m) h.value, refl, h.appends.encodes (q.bytes, subst (vec (size_prefixed body) standard q.bytes) same form.2));
    })
