use Rattle.wasm_custom.proofs.Common.{subst, sym, contains_none}
use Rattle.wasm_custom.specs.Lists.{ContainsList}
use Rattle.wasm_custom.proofs.lists.CountedList.new.Goals as goal

pub invariant_of-result : goal.invariant_of-result
invariant_of-result g c =
    subst (λ s. g.S.Store.model.holds (λ pieces. ContainsList g.K.ListKind.member_encoding g.K.ListKind.is_member pieces) s) (sym c.new_in.ensures) (c.begins.ensures (tt {0}) contains_none)
