use Rattle.wasm_custom.proofs.Common.{rules, sym, subst, to_z-of_z, padded_of, Decodes, fault_stays, w32, w64}
use Rattle.wasm_custom.proofs.RelocationLaws.{relocation_none, relocation_no_addend32, relocation_no_addend64, addend32_decodes, addend64_decodes}
use Rattle.wasm_custom.specs.Relocations.{relocation}
use Rattle.wasm_custom.specs.declared.relocations.Relocation.TheVariants.{Addend32, Addend64}
use Rattle.wasm_custom.proofs.relocations.RelocationReadable.read.Goals as goal

pub returns-in_err-kind-clause-none : goal.returns-in_err-kind-clause-none
returns-in_err-kind-clause-none g c = fault_stays c.from_residual.result _ c.from_residual.ensures.1 λ n. relocation_none c.args.bytes.now (c.in_err-kind.ensures.none n)

pub returns-in_err-addend-in-Addend32-clause-none : goal.returns-in_err-addend-in-Addend32-clause-none
returns-in_err-addend-in-Addend32-clause-none g c = fault_stays c.from_residual-in_err-addend-in-Addend32.result _ c.from_residual-in_err-addend-in-Addend32.ensures.1 λ n.
    relocation_no_addend32 c.args.bytes.now _ _ _ _ _ c.in_ok-kind.ensures.found c.in-Addend32.is c.in_ok-offset.ensures.found (c.in_err-addend-in-Addend32.ensures.none n)

pub returns-in_ok-addend-in-Addend32-clause-found : goal.returns-in_ok-addend-in-Addend32-clause-found
returns-in_ok-addend-in-Addend32-clause-found g c =
    let rest = c.in_ok-addend-in-Addend32.rest.now in
    subst (λ z. Decodes relocation (padded_of g.G.Grammar.grammar) c.args.bytes.now (Addend32 c.in-Addend32.kind c.in_ok-offset.offset c.in_ok-offset.index z) rest) (sym (to_z-of_z {w = w32} (search rules)))
    (addend32_decodes c.args.bytes.now _ _ rest _ _ _ _ _ c.in_ok-kind.ensures.found c.in-Addend32.is c.in_ok-offset.ensures.found c.in_ok-addend-in-Addend32.ensures.found)

pub returns-in_err-addend-in-Addend64-clause-none : goal.returns-in_err-addend-in-Addend64-clause-none
returns-in_err-addend-in-Addend64-clause-none g c = fault_stays c.from_residual-in_err-addend-in-Addend64.result _ c.from_residual-in_err-addend-in-Addend64.ensures.1 λ n.
    relocation_no_addend64 c.args.bytes.now _ _ _ _ _ c.in_ok-kind.ensures.found c.in-Addend64.is c.in_ok-offset.ensures.found (c.in_err-addend-in-Addend64.ensures.none n)

pub returns-in_ok-addend-in-Addend64-clause-found : goal.returns-in_ok-addend-in-Addend64-clause-found
returns-in_ok-addend-in-Addend64-clause-found g c =
    let rest = c.in_ok-addend-in-Addend64.rest.now in
    subst (λ z. Decodes relocation (padded_of g.G.Grammar.grammar) c.args.bytes.now (Addend64 c.in-Addend64.kind c.in_ok-offset.offset c.in_ok-offset.index z) rest) (sym (to_z-of_z {w = w64} (search rules)))
    (addend64_decodes c.args.bytes.now _ _ rest _ _ _ _ _ c.in_ok-kind.ensures.found c.in-Addend64.is c.in_ok-offset.ensures.found c.in_ok-addend-in-Addend64.ensures.found)
