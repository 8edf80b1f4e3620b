use Rattle.wasm_reader.proofs.Common.{uncounted}
use Rattle.wasm_reader.proofs.walk.count_content.Goals as goal

pub returns-in_ok-walk_content-in_default : goal.returns-in_ok-walk_content-in_default
returns-in_ok-walk_content-in_default g c =
    let other = c.in_default in
    let found = c.in_ok-walk_content-in_default.ensures.found in
    record { found = (_, found.decoded, uncounted c.args.kind _ c.args.bytes.now _ found.decoded other.not-Bodies other.not-Segments other.not-Elements other.not-Exports other.not-Functions other.not-Globals other.not-Imports other.not-Memories other.not-Tables other.not-Tags other.not-Types other.not-DataCount other.not-Start); none = tt; no_memory = tt }
