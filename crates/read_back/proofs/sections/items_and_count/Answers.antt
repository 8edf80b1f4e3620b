use Rattle.read_back.proofs.Common.{standard, ap, ◌∙◌, contents_of, number_in, content_whole}
use Rattle.read_back.proofs.sections.items_and_count.Goals as goal

pub returns : goal.returns
returns g c =
    let counted = c.in_ok-count.ensures.found in
    counted.2 ∙ ap number_in ((content_whole _).whole standard _ counted.0 (contents_of c.in_ok-items.items) counted.1 c.in_ok-items.ensures.found)
