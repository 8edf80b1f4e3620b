use Rattle.std.proofs.Common.{◌∙◌, ap, rules, sym}
use Rattle.read_back.proofs.InsertedLaws.{calling_traced}
use Rattle.read_back.proofs.inserted.TracesCallsInstrument.append_before.Goals as goal

pub returns-in-Byte-eq16 : goal.returns-in-Byte-eq16
returns-in-Byte-eq16 g c = calling_traced c.args.visited.now.op c.args.visited.now.operands c.in-Byte-eq16.field-0 c.args.sink.now.items c.new.result.sink.now.items c.call.new.self.sink.now.items _ c.call.result c.in-Byte-eq16.is (sym c.in-Byte-eq16.field-0-is ∙ c.in-Byte-eq16.field-0-test) (ap (λ v. v.items) c.new.ensures.same) c.call.ensures.writes.bytes (search rules)
