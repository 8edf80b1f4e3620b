use Rattle.read_back.proofs.Common.{refl, arith, ascii, new_dylink_exports, adds_dylink_export, flagged_export}
use Rattle.read_back.proofs.dylink.exports.Goals as goal

pub returns : goal.returns
returns g c = adds_dylink_export (new_dylink_exports c.new-list.ensures) (flagged_export c.args.flags) c.in_ok-export.ensures.ok c.in_ok-export.ensures.counted c.in_ok-export.ensures.was_encodable (ascii refl) (omega (arith, c.ranges.flags.fits))
