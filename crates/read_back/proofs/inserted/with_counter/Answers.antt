use Rattle.wasm_base.proofs.Words.{[], ◌∷◌, ◌++◌, ap, refl, ◌∙◌, arith, ints}
use Rattle.wasm_code.proofs.Words.{expression_encoding, one_constant}
use Rattle.wasm_sections.specs.Globals.{global_encoding}
use Rattle.wasm_remap.proofs.ImportedLaws.{if_ok}
use Rattle.read_back.specs.Inserted.{HasCounter, counter}
use Rattle.read_back.proofs.InsertedLaws.{counter_gained}
use Rattle.read_back.proofs.inserted.with_counter.Goals as goal

pub returns : goal.returns
returns g c =
    let init = c.in_ok-i32_const.field-0 in
    let encoding = global_encoding counter.global_type ++ expression_encoding init in
    let is = c.in_ok-global.ensures.ok ∙ ap (λ z. z ++ encoding ∷ []) c.new-globals.ensures in
    let stored = one_constant c.in_ok-i32_const.ensures.stores ((omega (arith, ints), omega (arith, ints)), tt) in
    if_ok {R = λ new. HasCounter c.args.module.now new.items} c.insert_section.result c.insert_section.ensures.inserts c.insert_section.ensures.fits (λ new inserts fits. counter_gained c.global.new.self is refl stored fits (inserts _ refl))
