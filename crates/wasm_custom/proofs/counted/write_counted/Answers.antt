use Rattle.wasm_custom.proofs.Common.{on_ok, counted_appended}
use Rattle.wasm_custom.proofs.counted.write_counted.Goals as goal

pub returns-clause-ok : goal.returns-clause-ok
returns-clause-ok g c = on_ok c.append_items.result _ _ c.append_items.ensures.ok λ a.
    counted_appended c.name.ensures g.K.ItemsAs.format _ c.in_ok-encode.ensures.appends.ok a
