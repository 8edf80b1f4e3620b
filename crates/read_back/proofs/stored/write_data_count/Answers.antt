-- Written by tools/answers.
use Rattle.read_back.proofs.Common.{◌≡◌, refl, size_prefixed, u32, encodes_custom}
use Rattle.read_back.proofs.stored.write_data_count.Goals as goal

pub returns : goal.returns
returns g c = encodes_custom (size_prefixed u32) (λ said. said ≡ c.args.count) c.encode.ensures.appends c.encode.ensures.read refl
