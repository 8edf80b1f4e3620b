use Rattle.read_back.specs.Remapped.{exchanged}
use Rattle.wasm_reader.specs.declared.whole.Offsets.TheVariants.{LeaveOut}
use Rattle.wasm_remap.proofs.ErrorLaws.{if_err_more}
use Rattle.wasm_remap.proofs.MappableLaws.{only_memory}
use Rattle.read_back.proofs.RemappedLaws.{exchanged_small}
use Rattle.read_back.proofs.remapped.with_exchanged.Goals as goal

pub returns-clause-memory : goal.returns-clause-memory
returns-clause-memory g c = if_err_more c.remap_module.result (λ e h. only_memory (exchanged c.args.first c.args.second) _ (exchanged_small c.args.first c.args.second c.ranges.first.fits c.ranges.second.fits) (λ space n e h. h) LeaveOut c.args.module.now e c.requires h) c.remap_module.ensures.why
