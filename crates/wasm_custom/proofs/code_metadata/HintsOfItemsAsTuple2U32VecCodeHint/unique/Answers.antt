use Rattle.wasm_custom.proofs.MetadataLaws.{hinted_unambiguous, hints_in_unambiguous}
use Rattle.wasm_custom.proofs.code_metadata.HintsOfItemsAsTuple2U32VecCodeHint.unique.Goals as goal

pub returns : goal.returns
returns g c = hints_in_unambiguous (hinted_unambiguous c.payload_laws.ensures)
