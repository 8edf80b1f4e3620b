-- Written by tools/answers.
use Rattle.examples.proofs.Common.{arith, [], ◌∷◌, Global, encodes_items, FUNCREF, one_constant, normal_row, RefFunc, new_elements, adds_expressions, passive}
use Rattle.examples.proofs.alone.encode_reference.Goals as goal

pub returns : goal.returns
returns c =
    let e1 = one_constant c.in_ok-ref_func.ensures.stores (omega (arith, c.ranges.index.fits), tt) in
    let s1 = adds_expressions (new_elements c.new-section.ensures) passive FUNCREF (record { bytes = _; instructions = normal_row {A = Global} (RefFunc c.args.index) ∷ [] } ∷ []) c.in_ok-passive.ensures.ok c.in_ok-passive.ensures.was_encodable tt tt (e1, tt) in
    encodes_items c.encode.ensures.appends c.encode.ensures.read s1
