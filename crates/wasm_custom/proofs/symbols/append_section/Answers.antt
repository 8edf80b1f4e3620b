use Rattle.wasm_custom.proofs.Common.{refl, arith, stays_short, number_encoded}
use Rattle.wasm_custom.proofs.symbols.append_section.Goals as goal

pub returns-in_err-write_minimal-clause-too_long : goal.returns-in_err-write_minimal-clause-too_long
returns-in_err-write_minimal-clause-too_long g c =
    stays_short c.from_residual-in_err-write_minimal.result _ _ refl c.from_residual-in_err-write_minimal.ensures.1 (c.in_err-write_minimal.ensures.too_long (number_encoded c.args.flags (omega (arith, c.ranges.flags.fits))))

pub returns-clause-too_long : goal.returns-clause-too_long
returns-clause-too_long g c = c.write_minimal-2.ensures.too_long (number_encoded c.args.section (omega (arith, c.ranges.section.fits)))
