use Rattle.read_back.proofs.Common.{refl, size_prefixed, encodes_custom, source_map_payload}
use Rattle.read_back.proofs.debug_files.write_source_map.Goals as goal

pub returns : goal.returns
returns g c = encodes_custom (size_prefixed source_map_payload) _ c.encode.ensures.appends c.encode.ensures.read (c.utf8.url, refl)
