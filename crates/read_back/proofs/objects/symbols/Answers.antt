use Rattle.wasm_base.proofs.Words.{arith, refl, ascii}
use Rattle.wasm_custom.proofs.Calls.{new_object_symbols, adds_object_symbol}
use Rattle.read_back.specs.Objects.{section_symbol, tag_symbol}
use Rattle.read_back.proofs.objects.symbols.Goals as goal

pub returns : goal.returns
returns g c =
    let s1 = adds_object_symbol (new_object_symbols c.new-table.ensures) section_symbol c.in_ok-section.ensures.ok c.in_ok-section.ensures.counted (omega arith, omega arith) in
    adds_object_symbol s1 tag_symbol c.in_ok-tag.ensures.ok c.in_ok-tag.ensures.counted (omega arith, omega arith, (ascii refl, c.in_ok-tag.ensures.was_encodable))
