use Rattle.wasm_custom.proofs.Common.{arith, names_inside}
use Rattle.wasm_custom.proofs.names.CountedList+IndirectMembers+S.append.Goals as goal

pub add_record-requires : goal.add_record-requires
add_record-requires g c encodable = names_inside c.args.index (g.T.Store.model.joins c.args.names.now) (omega (arith, c.ranges.index.fits)) c.members_law.ensures.cut
