-- Written by tools/answers.
use Rattle.examples.proofs.Common.{arith, refl, ascii, new_symbols, adds_symbol, count_down_symbol}
use Rattle.examples.proofs.object.symbols.Goals as goal

pub returns : goal.returns
returns g c = adds_symbol (new_symbols c.new-table.ensures) count_down_symbol c.in_ok-function.ensures.ok c.in_ok-function.ensures.counted (omega arith, omega arith, (ascii refl, c.in_ok-function.ensures.was_encodable))
