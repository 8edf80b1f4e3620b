use Rattle.wasm_base.proofs.Words.{if_ok_more, if_err_more, mapped_rejects, ap}
use Rattle.wasm_base.proofs.WalkLaws.{mapped_walks}
use Rattle.wasm_insn.specs.{parts_of}
use Rattle.wasm_insn.specs.Arguments.{unsigned, memory, signed32, signed64, block}
use Rattle.wasm_insn.proofs.Common.{one_rejects}
use Rattle.wasm_insn.proofs.WalkInstructions.{none_walks, one_walks}
use Rattle.wasm_insn.specs.declared.part.Part.TheVariants as parts
use Rattle.wasm_insn.proofs.walk.walk_arguments.Goals as goal

pub returns-in-Nothing-clause-found : goal.returns-in-Nothing-clause-found
returns-in-Nothing-clause-found g c = none_walks c.args.shape c.args.bytes.now _ (ap parts_of c.in-Nothing.is)

pub returns-in-U-clause-found : goal.returns-in-U-clause-found
returns-in-U-clause-found g c = if_ok_more c.walk.result (λ rest h. one_walks c.args.shape parts.Unsigned c.args.bytes.now rest.now _ _ (ap parts_of c.in-U.is) (mapped_walks unsigned h)) c.walk.ensures.found

pub returns-in-U-clause-none : goal.returns-in-U-clause-none
returns-in-U-clause-none g c = if_err_more c.walk.result (λ e none n. one_rejects c.args.shape parts.Unsigned (ap parts_of c.in-U.is) c.args.bytes.now (mapped_rejects unsigned (none n))) c.walk.ensures.none

pub returns-in-M-clause-found : goal.returns-in-M-clause-found
returns-in-M-clause-found g c = if_ok_more c.walk-in-M.result (λ rest h. one_walks c.args.shape parts.Memory c.args.bytes.now rest.now _ _ (ap parts_of c.in-M.is) (mapped_walks memory h)) c.walk-in-M.ensures.found

pub returns-in-M-clause-none : goal.returns-in-M-clause-none
returns-in-M-clause-none g c = if_err_more c.walk-in-M.result (λ e none n. one_rejects c.args.shape parts.Memory (ap parts_of c.in-M.is) c.args.bytes.now (mapped_rejects memory (none n))) c.walk-in-M.ensures.none

pub returns-in-C32-clause-found : goal.returns-in-C32-clause-found
returns-in-C32-clause-found g c = if_ok_more c.walk-in-C32.result (λ rest h. one_walks c.args.shape parts.Signed32 c.args.bytes.now rest.now _ _ (ap parts_of c.in-C32.is) (mapped_walks signed32 h)) c.walk-in-C32.ensures.found

pub returns-in-C32-clause-none : goal.returns-in-C32-clause-none
returns-in-C32-clause-none g c = if_err_more c.walk-in-C32.result (λ e none n. one_rejects c.args.shape parts.Signed32 (ap parts_of c.in-C32.is) c.args.bytes.now (mapped_rejects signed32 (none n))) c.walk-in-C32.ensures.none

pub returns-in-C64-clause-found : goal.returns-in-C64-clause-found
returns-in-C64-clause-found g c = if_ok_more c.walk-in-C64.result (λ rest h. one_walks c.args.shape parts.Signed64 c.args.bytes.now rest.now _ _ (ap parts_of c.in-C64.is) (mapped_walks signed64 h)) c.walk-in-C64.ensures.found

pub returns-in-C64-clause-none : goal.returns-in-C64-clause-none
returns-in-C64-clause-none g c = if_err_more c.walk-in-C64.result (λ e none n. one_rejects c.args.shape parts.Signed64 (ap parts_of c.in-C64.is) c.args.bytes.now (mapped_rejects signed64 (none n))) c.walk-in-C64.ensures.none

pub returns-in-B-clause-found : goal.returns-in-B-clause-found
returns-in-B-clause-found g c = if_ok_more c.walk-in-B.result (λ rest h. one_walks c.args.shape parts.Block c.args.bytes.now rest.now _ _ (ap parts_of c.in-B.is) (mapped_walks block h)) c.walk-in-B.ensures.found

pub returns-in-B-clause-none : goal.returns-in-B-clause-none
returns-in-B-clause-none g c = if_err_more c.walk-in-B.result (λ e none n. one_rejects c.args.shape parts.Block (ap parts_of c.in-B.is) c.args.bytes.now (mapped_rejects block (none n))) c.walk-in-B.ensures.none
