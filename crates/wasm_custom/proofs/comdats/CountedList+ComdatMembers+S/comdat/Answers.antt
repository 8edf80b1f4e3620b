use Rattle.wasm_custom.proofs.Common.{arith, comdat_of_list}
use Rattle.wasm_custom.proofs.comdats.CountedList+ComdatMembers+S.comdat.Goals as goal

pub add_record-requires : goal.add_record-requires
add_record-requires g c encodable = comdat_of_list c.args.name.now c.args.flags (g.T.Store.model.joins c.args.symbols.now) (c.utf8.name, encodable.0) (omega (arith, c.ranges.flags.fits)) c.members_law.ensures.cut
