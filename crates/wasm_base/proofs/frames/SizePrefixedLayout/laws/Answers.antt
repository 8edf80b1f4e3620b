use Rattle.wasm_base.proofs.FormatLaws.{size_prefixed_unambiguous, whole_from_unique}
use Rattle.wasm_base.proofs.frames.SizePrefixedLayout.laws.Goals as goal

pub returns : goal.returns
returns g c = size_prefixed_unambiguous (whole_from_unique c.laws.ensures)
