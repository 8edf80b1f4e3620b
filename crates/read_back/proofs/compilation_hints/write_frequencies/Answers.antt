use Rattle.wasm_base.proofs.Words.{arith, byte, size_prefixed}
use Rattle.wasm_custom.proofs.Words.{adds_hinted, encodes_entries, frequencies_payload, new_hinted}
use Rattle.wasm_custom.specs.CodeMetadata.{IsFrequency, frequency_encoding, frequency_view}
use Rattle.read_back.proofs.compilation_hints.write_frequencies.Goals as goal

pub returns : goal.returns
returns g c =
    let none = new_hinted {F = byte} {Is = IsFrequency} {encoding = frequency_encoding} c.new-section.ensures in
    let one = adds_hinted frequency_view none c.args.index c.in_ok-function_hints.ensures (omega (arith, c.ranges.index.fits)) ((omega arith, tt), tt) in
    encodes_entries (size_prefixed frequencies_payload) _ _ c.encode.ensures.appends c.encode.ensures.read one
