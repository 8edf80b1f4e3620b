use Rattle.wasm_sections.proofs.Common.{◌≤◌, arith, subst, longest, number_unique}
use Rattle.wasm_sections.proofs.start.encode_number.Goals as goal

pub returns-clause-read : goal.returns-clause-read
returns-clause-read g c =
    number_unique c.args.number (omega (arith, c.ranges.number.fits)) (subst (λ size. size ≤ longest) c.encoding_size.ensures.value c.in_ok-begin_size_prefixed.ensures.was_encodable)
