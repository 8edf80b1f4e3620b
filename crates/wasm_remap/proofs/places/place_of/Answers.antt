use Rattle.std.proofs.Common.{rules, ◌<◌, length, subst, sym, ap, ◌∙◌}
use Rattle.std.proofs.lemmas.List.{length-map, take_all}
use Rattle.wasm_base.proofs.Words.{arith}
use Rattle.wasm_remap.specs.Places.{IsPlace, rank_of, sections_in}
use Rattle.wasm_remap.proofs.PlaceLaws.{HasRead, read_all, turn_after, turn_before, turn_free, turn_leading}
use Rattle.wasm_remap.proofs.places.place_of.Goals as goal

pub loop-read-preserved-then-is_leading : goal.loop-read-preserved-then-is_leading
loop-read-preserved-then-is_leading g c =
    let free = ap rank_of (sym c.id.ensures) ∙ sym c.rank-old.ensures ∙ c.if-old-eq0.true in
    (omega (arith, c.loop-read-test.true), c.loop-read.invariant.1, turn_leading c.args.sections.now c.loop-read.read c.index-sections-read.result c.loop-read-test.true (search rules) c.loop-read.invariant.2 c.if-is_leading.true free)

pub loop-read-preserved-else-is_leading : goal.loop-read-preserved-else-is_leading
loop-read-preserved-else-is_leading g c =
    let free = ap rank_of (sym c.id.ensures) ∙ sym c.rank-old.ensures ∙ c.if-old-eq0.true in
    (omega (arith, c.loop-read-test.true), c.loop-read.invariant.1, turn_free c.args.sections.now c.loop-read.read c.index-sections-read.result c.loop-read-test.true (search rules) c.loop-read.invariant.2 c.if-is_leading.false free)

pub loop-read-preserved-then-old-new : goal.loop-read-preserved-then-old-new
loop-read-preserved-then-old-new g c =
    let old = c.rank-old.ensures ∙ ap rank_of c.id.ensures in
    let before = subst (λ n. n < rank_of c.args.id) old (subst (λ n. c.rank-old.result < n) c.loop-read.invariant.1 c.if-old-new.true) in
    (omega (arith, c.loop-read-test.true), c.loop-read.invariant.1, turn_before c.args.sections.now c.loop-read.read c.index-sections-read.result c.loop-read-test.true (search rules) c.loop-read.invariant.2 (λ e. c.if-old-eq0.false (old ∙ e), before))

pub loop-read-preserved : goal.loop-read-preserved
loop-read-preserved g c =
    let old = c.rank-old.ensures ∙ ap rank_of c.id.ensures in
    (omega (arith, c.loop-read-test.true), c.loop-read.invariant.1, turn_after c.args.sections.now c.loop-read.read c.index-sections-read.result c.loop-read-test.true (search rules) c.loop-read.invariant.2 (λ e. c.if-old-eq0.false (old ∙ e)) (λ lt. omega (arith, c.if-old-new.false, subst (λ n. c.rank-old.result < n) (sym c.loop-read.invariant.1) (subst (λ n. n < rank_of c.args.id) (sym old) lt))))

pub returns-clause-within : goal.returns-clause-within
returns-clause-within g c =
    let xs = c.args.sections.now in
    let all = subst (λ z. HasRead c.args.id c.loop-read.is_leading c.loop-read.place (sections_in z)) (take_all c.loop-read.read xs c.loop-read-test.false) c.loop-read.invariant.2 in
    omega (arith, (read_all c.loop-read.is_leading (sections_in xs) all).0, length-map xs (λ s. s.section))

pub returns-clause-place : goal.returns-clause-place
returns-clause-place g c =
    let xs = c.args.sections.now in
    let all = subst (λ z. HasRead c.args.id c.loop-read.is_leading c.loop-read.place (sections_in z)) (take_all c.loop-read.read xs c.loop-read-test.false) c.loop-read.invariant.2 in
    (read_all c.loop-read.is_leading (sections_in xs) all).1
