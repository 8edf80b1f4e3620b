-- Written by tools/answers.
use Rattle.examples.proofs.Common.{arith, new_tables, adds_table, three_places}
use Rattle.examples.proofs.filled.tables.Goals as goal

pub returns : goal.returns
returns g c = adds_table (new_tables c.new-section.ensures) three_places.table_type c.in_ok-table.ensures.ok (record { element_type = tt; minimum = omega arith; maximum = tt })
