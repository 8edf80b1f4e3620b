use Rattle.std.proofs.Common.{rules, ◌≡◌, length, ap, map}
use Rattle.wasm_custom.specs.Comdats.{comdat_of}
use Rattle.wasm_remap.specs.Customs.{remapped_member}
use Rattle.wasm_remap.proofs.FirstLaws.{on_ok, written_back}
use Rattle.wasm_remap.proofs.customs.ComdatIndexed.remap.Goals as goal

pub returns-clause-ok : goal.returns-clause-ok
returns-clause-ok g c =
    let long : length c.remap_each.new.items ≡ c.args.self.now.symbols.len = search rules in
    on_ok c.remap_each.result (λ h m follows. ap (λ xs. comdat_of (c.args.self.now.name.now, (c.args.self.now.flags, xs))) (written_back (map (remapped_member m)) c.remap_each.new.items _ long (h m follows) c.deref_mut.ensures.value)) c.remap_each.ensures.ok
