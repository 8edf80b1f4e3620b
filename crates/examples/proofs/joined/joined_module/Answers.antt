use Rattle.examples.proofs.Common.{new_module, finished, gains_joined, payloads, types_section, functions_section, exports_section, code_section-payload}
use Rattle.examples.proofs.joined.joined_module.Goals as goal

pub returns : goal.returns
returns g c =
    let m1 = gains_joined (payloads types_section) (new_module c.in_ok-module.ensures.read) c.in_ok-section.ensures.read c.in_ok-section.ensures.was_encodable c.in_ok-section.ensures.section.plain c.in_ok-types.ensures in
    let m2 = gains_joined (payloads functions_section) m1 c.in_ok-section-2.ensures.read c.in_ok-section-2.ensures.was_encodable c.in_ok-section-2.ensures.section.plain c.in_ok-functions.ensures in
    let m3 = gains_joined (payloads exports_section) m2 c.in_ok-section-3.ensures.read c.in_ok-section-3.ensures.was_encodable c.in_ok-section-3.ensures.section.plain c.in_ok-exports.ensures in
    let m4 = gains_joined code_section-payload m3 c.in_ok-section-4.ensures.read c.in_ok-section-4.ensures.was_encodable c.in_ok-section-4.ensures.section.bodies c.in_ok-code.ensures in
    finished m4 c.finish.ensures
