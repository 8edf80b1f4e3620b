use Rattle.read_back.proofs.Common.{refl, codes, ascii, new_runtime_path, adds_folder}
use Rattle.read_back.proofs.dylink.folders.Goals as goal

pub returns : goal.returns
returns g c = adds_folder (new_runtime_path c.new-list.ensures) (codes "/l") c.in_ok-folder.ensures.ok c.in_ok-folder.ensures.counted c.in_ok-folder.ensures.was_encodable (ascii refl)
