use Rattle.wasm_base.proofs.Words.{arith, refl, codes, ascii}
use Rattle.wasm_custom.proofs.Calls.{new_comdats, adds_comdat}
use Rattle.read_back.proofs.objects.comdats.Goals as goal

pub returns : goal.returns
returns g c = adds_comdat (new_comdats c.new-list.ensures) (codes "g") 0 c.in_ok-members.ensures c.in_ok-comdat.ensures.ok c.in_ok-comdat.ensures.counted c.in_ok-comdat.ensures.was_encodable (ascii refl) (omega arith)
