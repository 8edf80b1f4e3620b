use Rattle.wasm_reader.proofs.Words.{cause_stays, Segments, written_padded, decodes_padded, padded_not_rejected}
use Rattle.wasm_reader.specs.declared.kinds.SectionKind.TheVariants as kinds
use Rattle.read_back.proofs.padded.read_padded_segment.Goals as goal

pub returns-in_err-items-clause-memory : goal.returns-in_err-items-clause-memory
returns-in_err-items-clause-memory g c = cause_stays c.from_residual-in_err-items.result _ c.from_residual-in_err-items.ensures.1 λ n. padded_not_rejected kinds.Segments (c.in_err-items.ensures.none n) (written_padded Segments c.requires c.in_ok-write_padded_segment.ensures)

pub returns-clause-read : goal.returns-clause-read
returns-clause-read g c = decodes_padded c.in_ok-items.ensures.found.1 (written_padded Segments c.requires c.in_ok-write_padded_segment.ensures)
