use Rattle.read_back.proofs.Common.{List, [], ◌∷◌, sym, subst, minimal, NameItem, Module, Map, cause_stays, Names, section, written, decodes_written, written_not_rejected}
use Rattle.wasm_reader.specs.declared.kinds.SectionKind.TheVariants as kinds
use Rattle.read_back.proofs.written_names.Goals as goal

pub returns-in_err-items-clause-memory : goal.returns-in_err-items-clause-memory
returns-in_err-items-clause-memory g c =
    let items : List NameItem = Module c.args.name.now ∷ Map 1 ((0, c.args.function.now) ∷ []) ∷ [] in
    let encoding = subst (λ bytes. section kinds.Names minimal bytes (Names items)) (sym c.as_slice.ensures.value) (written Names c.requires c.in-Ok.ensures) in
    cause_stays c.from_residual.result _ c.from_residual.ensures.1 λ n. written_not_rejected kinds.Names (c.in_err-items.ensures.none n) encoding

pub returns-clause-read : goal.returns-clause-read
returns-clause-read g c =
    let items : List NameItem = Module c.args.name.now ∷ Map 1 ((0, c.args.function.now) ∷ []) ∷ [] in
    let encoding = subst (λ bytes. section kinds.Names minimal bytes (Names items)) (sym c.as_slice.ensures.value) (written Names c.requires c.in-Ok.ensures) in
    decodes_written c.in_ok-items.ensures.found encoding
