use Rattle.std.proofs.Common.{rules, ◌+◌, ◌<◌, ◌≤◌, length, sym, subst, ◌∙◌}
use Rattle.wasm_remap.proofs.RemovedLaws.{HasKept, kept_start, kept_skip, kept_more, kept_done}
use Rattle.wasm_remap.proofs.remove.remove_flagged.Goals as goal
use Rattle.wasm_remap.proofs.remove.remove_flagged.Goals.{then-not-is_removed, else-not-is_removed}

pub loop-index-init : goal.loop-index-init
loop-index-init g c = kept_start c.args.flags.now c.args.items.now.items

pub swap-requires-clause-i_in_bounds : goal.swap-requires-clause-i_in_bounds
swap-requires-clause-i_in_bounds g c = let within = c.loop-index.invariant.within in search (rules, within)

pub overflow_add-kept : goal.overflow_add-kept
overflow_add-kept g c = let within = c.loop-index.invariant.within in search (rules, within)

pub loop-index-preserved : goal.loop-index-preserved
loop-index-preserved g c =
    let flags = c.args.flags.now in
    let old = c.args.items.now.items in
    let now = c.loop-index.items.items in
    let within : c.loop-index.index < length now = let same = c.loop-index.invariant.same in search (rules, same) in
    let next = c.loop-index.index + 1 in
    elim c.if-not-is_removed.branch [
      | then-not-is_removed w ↦
          let more = kept_more flags old now w.swap.new.self.items c.loop-index.index c.loop-index.kept c.loop-index.invariant within (sym c.is_removed.ensures ∙ w.if-not-is_removed.true) w.swap.ensures.by_index in
          subst (λ v. HasKept flags old v.items next c.if-not-is_removed.kept) (sym w.items-is) (subst (λ k. HasKept flags old w.swap.new.self.items next k) (sym w.kept-is) more)
      | else-not-is_removed w ↦
          let skip = kept_skip flags old now c.loop-index.index c.loop-index.kept c.loop-index.invariant within (sym c.is_removed.ensures ∙ w.if-not-is_removed.false) in
          subst (λ v. HasKept flags old v.items next c.if-not-is_removed.kept) (sym w.items-is) (subst (λ k. HasKept flags old now next k) (sym w.kept-is) skip)
    ]

pub returns : goal.returns
returns g c =
    let all : length c.args.items.now.items ≤ c.loop-index.index = search rules in
    c.truncate.ensures.items ∙ kept_done c.args.flags.now c.args.items.now.items c.loop-index.items.items c.loop-index.index c.loop-index.kept c.loop-index.invariant all
