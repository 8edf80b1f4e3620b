use Rattle.wasm_base.proofs.Words.{arith}
use Rattle.wasm_custom.proofs.Calls.{new_comdat_symbols, adds_comdat_symbol}
use Rattle.read_back.specs.Objects.{member}
use Rattle.read_back.proofs.objects.members.Goals as goal

pub returns : goal.returns
returns g c = adds_comdat_symbol (new_comdat_symbols c.new-list.ensures) member c.in_ok-symbol.ensures.ok c.in_ok-symbol.ensures.counted (omega arith)
