use Rattle.read_back.proofs.Common.{ap, ap₂, sym, drop, ◌++◌, ◌∙◌, header, next_section, payload_sliced}
use Rattle.wasm_reader.specs.Words.{ahead}
use Rattle.read_back.proofs.sections.first_payload.Goals as goal

pub returns-in_ok-section-in-Some : goal.returns-in_ok-section-in-Some
returns-in_ok-section-in-Some g c =
    let s = next_section c.in_ok-section-in-Some.was c.in-Some.ensures.steps in
    let at = ap₂ drop s.offset (sym c.in_ok-sections.ensures.same) ∙ s.split in
    record {
      section = c.in_ok-section-in-Some.section.section;
      rest = ahead c.next.new.self;
      is_section = s.is_section;
      split = c.in_ok-sections.ensures.found ∙ ap (λ z. header ++ z) s.split;
      is = payload_sliced c.args.module.now _ _ c.in_ok-section-in-Some.section _ at s.is_section c.range.ensures.start c.range.ensures.end;
    }
