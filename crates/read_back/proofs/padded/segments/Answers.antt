use Rattle.read_back.proofs.Common.{arith, ap, ◌∙◌, copied_source, iter_rest, contains_padded, new_segments, copied_added, adds_active_padded, segments_section, zero_offset}
use Rattle.read_back.proofs.padded.segments.Goals as goal

pub returns : goal.returns
returns g c =
    let added = copied_added c.in_ok-active.ensures c.args.bytes.now (λ it b. ap (λ s. iter_rest (copied_source s)) b ∙ ap iter_rest c.copied.ensures.source ∙ c.iter.ensures.rest) in
    adds_active_padded (contains_padded segments_section.held_padded (new_segments c.new-section.ensures)) c.args.memory zero_offset _ c.args.bytes.now added (omega (arith, c.ranges.memory.fits)) c.in_ok-offset.ensures
