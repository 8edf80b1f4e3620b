-- Written by tools/answers.
use Rattle.examples.proofs.Common.{refl, codes, ascii, new_names, adds_module_name, adds_names, adds_names_inside}
use Rattle.examples.proofs.names.names.Goals as goal

pub returns : goal.returns
returns g c =
    let s1 = adds_module_name (new_names c.new-section.ensures) (codes "m") c.in_ok-module.ensures.ok (ascii refl) in
    let s2 = adds_names s1 1 c.in_ok-functions.ensures c.in_ok-functions-2.ensures.ok refl in
    adds_names_inside s2 2 c.in_ok-locals.ensures c.in_ok-locals-2.ensures.ok refl
