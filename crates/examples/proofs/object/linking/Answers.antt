-- Written by tools/answers.
use Rattle.examples.proofs.Common.{refl, new_linking, adds_symbols}
use Rattle.examples.proofs.object.linking.Goals as goal

pub returns : goal.returns
returns g c = adds_symbols (new_linking c.new-section.ensures) c.in_ok-symbols.ensures c.in_ok-symbol_table.ensures.ok (refl, tt)
