use Rattle.read_back.proofs.Common.{[], ◌∷◌, ◌++◌, ◌∙◌, ap, new_module, finished, gains_raw_code, gains_given, gains_given_raw, named_encoding, gains_tags}
use Rattle.read_back.proofs.handed.handed_module.Goals as goal

pub returns : goal.returns
returns g c =
    let tags = gains_tags (new_module c.in_ok-built.ensures.read) c.in_ok-section.ensures.read c.in_ok-section.ensures.was_encodable c.in_ok-section.ensures.section c.in_ok-tags.ensures in
    let code = gains_raw_code tags c.in_ok-section-2.ensures.read c.in_ok-section-2.ensures.was_encodable c.in_ok-section-2.ensures.section (c.args.body.now ∷ []) c.in_ok-code.ensures in
    let given = gains_given code c.in_ok-section-3.ensures.read c.in_ok-section-3.ensures.was_encodable c.in_ok-section-3.ensures.section c.utf8.name in
    let same = c.as_slice.ensures.value ∙ c.in_ok-encode.ensures.appends.ok ∙ ap (λ t. t ++ named_encoding c.args.name.now c.args.bytes.now) c.new-encoding.ensures.items in
    let again = gains_given_raw given c.in_ok-section-4.ensures.read c.args.name.now c.args.bytes.now same c.in_ok-encode.ensures.appends.was_encodable c.utf8.name in
    finished again c.finish.ensures
