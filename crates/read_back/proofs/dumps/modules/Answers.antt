-- Written by tools/answers.
use Rattle.read_back.proofs.Common.{refl, codes, ascii, new_modules, adds_core_module}
use Rattle.read_back.proofs.dumps.modules.Goals as goal

pub returns : goal.returns
returns g c =
    let s1 = adds_core_module (new_modules c.new-section.ensures) (codes "main") c.in_ok-module.ensures.ok c.in_ok-module.ensures.was_encodable (ascii refl) in
    adds_core_module s1 c.args.name.now c.in_ok-module-2.ensures.ok c.in_ok-module-2.ensures.was_encodable c.utf8.name
