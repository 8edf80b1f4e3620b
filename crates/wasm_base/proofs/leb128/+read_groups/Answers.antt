use Rattle.wasm_base.proofs.Std.{refl, ◌*◌, arith}
use Rattle.wasm_base.proofs.DecodingSteps.{front_and_rest}
use Rattle.wasm_base.proofs.GroupLaws.{groups_last, groups_more, groups_less, power_encodable_more, within_70, one_encodable, if_err_any}
use Rattle.wasm_base.proofs.leb128.+read_groups.Goals as goal

pub returns-then-b-lt128-clause-found : goal.returns-then-b-lt128-clause-found
returns-then-b-lt128-clause-found t c =
    groups_last c.args.limit _ _ c.args.bytes.now _ (front_and_rest c.args.bytes.now c.in-len1-up.len_at_least) c.if-b-lt128.true c.if-limit-eq0.false c.from.ensures

pub returns-then-b-lt128-clause-power : goal.returns-then-b-lt128-clause-power
returns-then-b-lt128-clause-power t c = one_encodable c.args.limit 128 c.if-limit-eq0.false (omega arith)

pub returns-in_err-more-in-len1-up-clause-none : goal.returns-in_err-more-in-len1-up-clause-none
returns-in_err-more-in-len1-up-clause-none t c =
    if_err_any c.from_residual.result (groups_less _ c.args.limit _ c.args.bytes.now _ (front_and_rest c.args.bytes.now c.in-len1-up.len_at_least) c.if-b-lt128.false (omega (arith, c.if-limit-eq0.false)) c.in_err-more-in-len1-up.ensures.none)

pub overflow_mul-groups : goal.overflow_mul-groups
overflow_mul-groups t c =
    let more = c.in_ok-more-in-len1-up in
    omega (arith, more.ensures.below, within_70 c.args.limit (128 * more.more.power) c.requires (power_encodable_more c.args.limit more.more.power c.if-limit-eq0.false more.ensures.power))

pub overflow_add-groups : goal.overflow_add-groups
overflow_add-groups t c =
    let more = c.in_ok-more-in-len1-up in
    omega (arith, c.from-in-len1-up.ensures, more.ensures.below, within_70 c.args.limit (128 * more.more.power) c.requires (power_encodable_more c.args.limit more.more.power c.if-limit-eq0.false more.ensures.power))

pub overflow_mul-groups-in-len1-up : goal.overflow_mul-groups-in-len1-up
overflow_mul-groups-in-len1-up t c =
    let more = c.in_ok-more-in-len1-up in
    omega (arith, within_70 c.args.limit (128 * more.more.power) c.requires (power_encodable_more c.args.limit more.more.power c.if-limit-eq0.false more.ensures.power))

pub returns-in_ok-more-in-len1-up-clause-found : goal.returns-in_ok-more-in-len1-up-clause-found
returns-in_ok-more-in-len1-up-clause-found t c =
    let more = c.in_ok-more-in-len1-up in
    groups_more _ c.args.limit _ more.more.sum more.more.power more.more.last _ _ c.args.bytes.now _ more.rest.now (front_and_rest c.args.bytes.now c.in-len1-up.len_at_least) c.if-b-lt128.false (omega (arith, c.type_inv.bytes 0)) (omega (arith, c.if-limit-eq0.false)) more.ensures.found
    (omega (arith, c.from-in-len1-up.ensures)) refl

pub returns-in_ok-more-in-len1-up-clause-power : goal.returns-in_ok-more-in-len1-up-clause-power
returns-in_ok-more-in-len1-up-clause-power t c = power_encodable_more c.args.limit c.in_ok-more-in-len1-up.more.power c.if-limit-eq0.false c.in_ok-more-in-len1-up.ensures.power
