use Rattle.read_back.proofs.Common.{arith, size_prefixed, new_dylink, adds_dylink_memory, adds_needed, adds_exports_flags, adds_imports_flags, adds_runtime_path, encodes_entries, dylink_payload}
use Rattle.read_back.proofs.dylink.write_dylink.Goals as goal

pub returns : goal.returns
returns g c =
    let s1 = adds_dylink_memory (new_dylink c.new-section.ensures) (record { memory_size = 16; memory_alignment = 2; table_size = 0; table_alignment = 0 }) c.in_ok-memory.ensures.ok (record { memory_size = omega arith; memory_alignment = omega arith; table_size = omega arith; table_alignment = omega arith }) in
    let s2 = adds_needed s1 c.in_ok-needed.ensures c.in_ok-needed-2.ensures.ok in
    let s3 = adds_exports_flags s2 c.in_ok-exports.ensures c.in_ok-exports-2.ensures.ok in
    let s4 = adds_imports_flags s3 c.in_ok-imports.ensures c.in_ok-imports-2.ensures.ok in
    let s5 = adds_runtime_path s4 c.in_ok-folders.ensures c.in_ok-runtime_path.ensures.ok in
    encodes_entries (size_prefixed dylink_payload) _ _ c.encode.ensures.appends c.encode.ensures.read s5
