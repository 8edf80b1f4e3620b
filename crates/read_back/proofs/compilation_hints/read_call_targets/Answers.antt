use Rattle.read_back.proofs.Common.{◌++◌, ap, ◌∙◌, cause_stays, written, decodes_written, written_not_rejected, shortens_written}
use Rattle.wasm_reader.specs.Kinds.{CallTargets}
use Rattle.wasm_reader.specs.declared.kinds.SectionKind.TheVariants as kinds
use Rattle.read_back.proofs.compilation_hints.read_call_targets.Goals as goal

pub returns-in_err-items-clause-memory : goal.returns-in_err-items-clause-memory
returns-in_err-items-clause-memory c = cause_stays c.from_residual-in_err-items.result _ c.from_residual-in_err-items.ensures.1 λ n. written_not_rejected kinds.CallTargets (c.in_err-items.ensures.none n) (written CallTargets c.requires c.in_ok-write_call_targets.ensures)

pub returns-clause-read : goal.returns-clause-read
returns-clause-read c = decodes_written c.in_ok-items.ensures.found.1 (written CallTargets c.requires c.in_ok-write_call_targets.ensures)

pub returns-clause-same : goal.returns-clause-same
returns-clause-same c =
    let gained = c.in_ok-write_call_targets.ensures in
    let same = shortens_written c.in_ok-items.ensures.shortened.1 (written CallTargets c.requires gained) in
    record { encoding = gained.encoding; added = same ∙ ap (λ t. c.args.sink.now.items ++ t) (gained.added ∙ ap (λ t. t ++ gained.encoding) c.requires); unique = gained.unique }
