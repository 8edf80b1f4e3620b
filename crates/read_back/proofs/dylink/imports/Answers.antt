use Rattle.read_back.proofs.Common.{refl, arith, ascii, new_dylink_imports, adds_dylink_import, weak_import}
use Rattle.read_back.proofs.dylink.imports.Goals as goal

pub returns : goal.returns
returns g c = adds_dylink_import (new_dylink_imports c.new-list.ensures) weak_import c.in_ok-import.ensures.ok c.in_ok-import.ensures.counted c.in_ok-import.ensures.was_encodable (ascii refl) (ascii refl) (omega arith)
