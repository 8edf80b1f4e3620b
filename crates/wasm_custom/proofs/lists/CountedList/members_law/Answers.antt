use Rattle.wasm_base.specs.Stores.{Cut}
use Rattle.wasm_custom.proofs.Common.{subst}
use Rattle.wasm_custom.specs.Lists.{ContainsList}
use Rattle.wasm_custom.proofs.lists.CountedList.members_law.Goals as goal

pub returns-clause-cut : goal.returns-clause-cut
returns-clause-cut g c =
    subst (λ s. Cut (λ pieces. ContainsList g.K.ListKind.member_encoding g.K.ListKind.is_member pieces) (g.S.Store.model.joins s)) c.self.view_is (c.cut.ensures (tt {0}) c.self.invariant)
