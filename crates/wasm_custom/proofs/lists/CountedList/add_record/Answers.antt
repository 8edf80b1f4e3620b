use Rattle.wasm_custom.proofs.Common.{◌<◌, longest, subst, sym, contains_one_more}
use Rattle.wasm_custom.proofs.lists.CountedList.add_record.Goals as goal

pub invariant_of-self-2 : goal.invariant_of-self-2
invariant_of-self-2 g c =
    let added = c.in_ok-add_item.ensures in
    c.grows.ensures _ _ _ (tt {0}) (tt {0}) (λ pieces number are. contains_one_more are (subst (λ n. n < longest) (sym number) added.counted) (c.requires added.was_encodable)) added.ok c.self.invariant
