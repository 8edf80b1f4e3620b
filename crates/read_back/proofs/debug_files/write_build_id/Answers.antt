use Rattle.read_back.proofs.Common.{refl, size_prefixed, encodes_custom, build_id_payload}
use Rattle.read_back.proofs.debug_files.write_build_id.Goals as goal

pub returns : goal.returns
returns g c = encodes_custom (size_prefixed build_id_payload) _ c.encode.ensures.appends c.encode.ensures.read refl
