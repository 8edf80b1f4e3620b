use Rattle.wasm_base.proofs.Words.{refl}
use Rattle.read_back.specs.Inserted.{CallsHit}
use Rattle.read_back.proofs.InsertedLaws.{hit_called, ok_gives}
use Rattle.read_back.proofs.inserted.with_hit.Goals as goal

pub returns : goal.returns
returns g c = ok_gives {R = λ new. CallsHit c.args.module.now new.items} c.insert_import.result (λ new inserts. hit_called refl refl inserts) c.insert_import.ensures.ok
