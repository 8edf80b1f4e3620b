use Rattle.wasm_custom.proofs.producers.append_producers.Goals as goal

pub returns-clause-ok : goal.returns-clause-ok
returns-clause-ok g c = rw c.deref.ensures.value at c.append_counted.ensures.ok

pub returns-clause-too_long : goal.returns-clause-too_long
returns-clause-too_long g c = rw c.deref.ensures.value at c.append_counted.ensures.too_long
