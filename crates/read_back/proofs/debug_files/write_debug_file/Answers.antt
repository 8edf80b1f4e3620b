use Rattle.read_back.proofs.Common.{refl, size_prefixed, encodes_custom, debug_file_payload}
use Rattle.read_back.proofs.debug_files.write_debug_file.Goals as goal

pub returns : goal.returns
returns g c = encodes_custom (size_prefixed debug_file_payload) _ c.encode.ensures.appends c.encode.ensures.read (c.utf8.path, refl)
