use Rattle.wasm_types.proofs.Common.{sym, subst, Appends, entry_encoding, IsEncodableEntry, group_appended}
use Rattle.wasm_types.proofs.items.TypeEntryEncode.encode.Goals as goal

pub returns-in-Group-clause-appends : goal.returns-in-Group-clause-appends
returns-in-Group-clause-appends g c =
    subst (λ t. Appends (entry_encoding t) (IsEncodableEntry t) c.args.sink.now c.encode-in-Group.new.sink c.encode-in-Group.result) (sym c.in-Group.is)
    (group_appended c.in-Group.subs.items c.as_slice.result.now c.as_slice.ensures.value c.encode-in-Group.ensures.appends)
