-- Written by tools/answers.
use Rattle.read_back.proofs.Common.{arith, [], ◌∷◌, Global, encodes_items, unshared, Func, one_constant, normal_row, RefNull, new_tables, adds_table, adds_table_with_init, null_table, nulled_table}
use Rattle.read_back.proofs.first_values.encode_null_tables.Goals as goal

pub returns : goal.returns
returns g c =
    let s1 = adds_table (new_tables c.new-section.ensures) (null_table c.args.minimum).table_type c.in_ok-table.ensures.ok (record { element_type = tt; minimum = omega (arith, c.ranges.minimum.fits); maximum = tt }) in
    let e1 = one_constant c.in_ok-ref_null.ensures.stores (tt, tt) in
    let s2 = adds_table_with_init s1 (nulled_table c.args.minimum).table_type (normal_row {A = Global} (RefNull (unshared Func)) ∷ []) _ c.in_ok-table_with_init.ensures.ok (record { element_type = tt; minimum = omega (arith, c.ranges.minimum.fits); maximum = tt }) e1 in
    encodes_items c.encode.ensures.appends c.encode.ensures.read s2
