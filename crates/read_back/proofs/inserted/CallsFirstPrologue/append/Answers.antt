use Rattle.std.proofs.Common.{ap, rules}
use Rattle.read_back.proofs.InsertedLaws.{calling_gained}
use Rattle.read_back.proofs.inserted.CallsFirstPrologue.append.Goals as goal

pub returns : goal.returns
returns g c = calling_gained c.args.sink.now.items c.new.result.sink.now.items c.call.new.self.sink.now.items _ c.call.result (ap (λ v. v.items) c.new.ensures.same) c.call.ensures.writes.bytes (search rules)
