use Rattle.examples.proofs.Common.{[], refl, sym, subst, arith, ascii, codes, new_map, adds_name, cut_none, cut_extends}
use Rattle.std.specs.Prelude.{◌<◌}
use Rattle.wasm_base.specs.Words.{longest}
use Rattle.wasm_custom.specs.Names.{AreNamings}
use Rattle.examples.proofs.joined.function_names.Goals as goal

pub returns : goal.returns
returns g c =
    let none = cut_none {P = λ entries. AreNamings entries []} c.new-names.ensures (new_map refl) in
    let added = c.in_ok-append.ensures in
    cut_extends (λ entries number are. adds_name {names = []} are (0, codes "add") refl (subst (λ n. n < longest) (sym number) added.counted) added.was_encodable (omega arith) (ascii refl)) added.ok none
