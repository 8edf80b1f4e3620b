use Rattle.std.proofs.Common.{◌≡◌, ◌+◌, ◌++◌, ◌∙◌, ap, arith, drop, subst, sym}
use Rattle.wasm_remap.specs.Removed.{numbered}
use Rattle.wasm_remap.proofs.RemovedLaws.{numbered_done, numbered_none, numbered_some}
use Rattle.wasm_remap.proofs.remove.numbered.Goals as goal
use Rattle.wasm_remap.proofs.remove.numbered.Goals.{then-flag+in_ok-push, else-flag+in_ok-push-2+in-Some}

pub loop-flag-init : goal.loop-flag-init
loop-flag-init g c = (ap (λ z. z ++ numbered 0 c.args.removed.now) c.new-table.ensures.items, omega arith)

pub loop-flag-preserved : goal.loop-flag-preserved
loop-flag-preserved g c =
    let flags = c.args.removed.now in
    let old = c.loop-flag.table.items in
    let rest = drop (c.loop-flag.flag-index + 1) flags in
    let all = numbered 0 flags in
    elim c.if-flag.branch [
      | then-flag+in_ok-push w ↦
          let none = numbered_none flags old c.loop-flag.flag-index c.loop-flag.next _ c.loop-flag-test.true w.if-flag.true c.loop-flag.invariant.0 in
          let pushed = subst (λ xs. xs ++ numbered c.loop-flag.next rest ≡ all) (sym w.in_ok-push.ensures.items) none in
          (subst (λ v. v.items ++ numbered c.if-flag.next rest ≡ all) (sym w.table-is) (subst (λ n. w.push.new.self.items ++ numbered n rest ≡ all) (sym w.next-is) pushed), omega (arith, w.next-is, c.loop-flag.invariant.1))
      | else-flag+in_ok-push-2+in-Some w ↦
          let some = numbered_some flags old c.loop-flag.flag-index c.loop-flag.next _ c.loop-flag-test.true w.if-flag.false c.loop-flag.invariant.0 in
          let pushed = subst (λ xs. xs ++ numbered (c.loop-flag.next + 1) rest ≡ all) (sym w.in_ok-push-2.ensures.items) some in
          (subst (λ v. v.items ++ numbered c.if-flag.next rest ≡ all) (sym w.table-is) (subst (λ n. w.push-else-flag.new.self.items ++ numbered n rest ≡ all) (sym (w.next-is ∙ w.in-Some.ensures.1)) pushed), omega (arith, w.next-is, w.in-Some.ensures.1, c.loop-flag.invariant.1))
    ]

pub returns-clause-ok : goal.returns-clause-ok
returns-clause-ok g c = numbered_done c.args.removed.now c.loop-flag.table.items c.loop-flag.flag-index c.loop-flag.next c.loop-flag-test.false c.loop-flag.invariant.0

pub returns-in-None-clause-too_long : goal.returns-in-None-clause-too_long
returns-in-None-clause-too_long g c = λ small e. omega (arith, c.in-None.ensures, c.loop-flag.invariant.1, small, c.loop-flag-test.true)
