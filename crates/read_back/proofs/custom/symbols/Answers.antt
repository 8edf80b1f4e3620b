-- Written by tools/answers.
use Rattle.read_back.proofs.Common.{arith, new_symbols, adds_symbol, data_symbol}
use Rattle.read_back.proofs.custom.symbols.Goals as goal

pub returns : goal.returns
returns g c = adds_symbol (new_symbols c.new-table.ensures) (data_symbol c.args.name.now) c.in_ok-data.ensures.ok c.in_ok-data.ensures.counted (omega arith, (c.utf8.name, c.in_ok-data.ensures.was_encodable), record { index = omega arith; offset = omega arith; size = omega arith })
