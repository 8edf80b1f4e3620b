use Rattle.std.proofs.Common.{sym, subst, ap, ◌∙◌, ◌++◌}
use Rattle.wasm_base.proofs.Words.{u32, standard, Decodes, unsigned_encoding, IsSizePrefixed, Rejects, arith, inl, inr, refl}
use Rattle.wasm_base.specs.declared.fault.ReadFault.TheVariants as faults
use Rattle.wasm_remap.specs.Errors.{ExplainsJoin}
use Rattle.wasm_remap.proofs.InsertLaws.{are_too_many, is_joined, sized_payload, sized_read}
use Rattle.wasm_remap.proofs.ErrorLaws.{fails_with, read_explained}
use Rattle.wasm_remap.proofs.insert.joined.Goals as goal

pub returns-clause-joins : goal.returns-clause-joins
returns-clause-joins g c = λ n added says.
    let new = c.args.new.now in
    let wrote = c.deref.ensures.value ∙ c.in_ok-encode.ensures.appends.ok ∙ ap (λ s. s ++ g.S.Encode.encoding new) c.new-encoding.ensures.items in
    let sized = subst (λ s. IsSizePrefixed s added) (sym wrote) (g.met.S.Section.sized new added c.in_ok-encode.ensures.appends.was_encodable says) in
    let old = subst (λ s. Decodes u32 standard s c.in_ok-old_count.old_count c.in_ok-old_count.old_members.now) c.payload.ensures.value c.in_ok-old_count.ensures.ok in
    let is = c.in_ok-list_of.ensures.ok ∙ ap (λ s. unsigned_encoding c.in-Some.count ++ s) (c.in_order.ensures n) in
    is_joined c.args.position c.in_ok-new_count.new_members.now c.in_ok-old_count.old_members.now sized c.in_ok-_size.ensures.ok c.in_ok-new_count.ensures.ok old c.in-Some.ensures.1 (omega (arith, c.in-Some.ensures.0, c.in-Some.ensures.1)) is

pub returns-in_err-_size-clause-why : goal.returns-in_err-_size-clause-why
returns-in_err-_size-clause-why g c = λ added says.
    let new = c.args.new.now in
    let why = ExplainsJoin (g.S.Encode.encodable new) added c.args.old.now.section.payload in
    let wrote = c.deref.ensures.value ∙ c.in_ok-encode.ensures.appends.ok ∙ ap (λ s. s ++ g.S.Encode.encoding new) c.new-encoding.ensures.items in
    let sized = subst (λ s. IsSizePrefixed s added) (sym wrote) (g.met.S.Section.sized new added c.in_ok-encode.ensures.appends.was_encodable says) in
    fails_with why c.from_residual-in_err-_size.result _ c.from_residual-in_err-_size.ensures.1 (read_explained why _ (λ n. absurd (n refl)) (λ n. absurd (sized_read sized (c.in_err-_size.ensures.none n))))

pub returns-in_err-new_count-clause-why : goal.returns-in_err-new_count-clause-why
returns-in_err-new_count-clause-why g c = λ added says.
    let new = c.args.new.now in
    let why = ExplainsJoin (g.S.Encode.encodable new) added c.args.old.now.section.payload in
    let wrote = c.deref.ensures.value ∙ c.in_ok-encode.ensures.appends.ok ∙ ap (λ s. s ++ g.S.Encode.encoding new) c.new-encoding.ensures.items in
    let sized = subst (λ s. IsSizePrefixed s added) (sym wrote) (g.met.S.Section.sized new added c.in_ok-encode.ensures.appends.was_encodable says) in
    fails_with why c.from_residual-in_err-new_count.result _ c.from_residual-in_err-new_count.ensures.1 (read_explained why _ (λ n. absurd (n refl)) (λ n. inl (subst (λ s. Rejects u32 standard s) (sized_payload sized c.in_ok-_size.ensures.ok) (c.in_err-new_count.ensures.none n))))

pub returns-in_default-clause-why : goal.returns-in_default-clause-why
returns-in_default-clause-why g c = λ added says.
    let new = c.args.new.now in
    let wrote = c.deref.ensures.value ∙ c.in_ok-encode.ensures.appends.ok ∙ ap (λ s. s ++ g.S.Encode.encoding new) c.new-encoding.ensures.items in
    let sized = subst (λ s. IsSizePrefixed s added) (sym wrote) (g.met.S.Section.sized new added c.in_ok-encode.ensures.appends.was_encodable says) in
    let old = subst (λ s. Decodes u32 standard s c.in_ok-old_count.old_count c.in_ok-old_count.old_members.now) c.payload.ensures.value c.in_ok-old_count.ensures.ok in
    let many = are_too_many c.in_ok-new_count.new_members.now c.in_ok-old_count.old_members.now sized c.in_ok-_size.ensures.ok c.in_ok-new_count.ensures.ok old (λ lt. omega (arith, lt, c.in_default.ensures)) in
    subst (ExplainsJoin (g.S.Encode.encodable new) added c.args.old.now.section.payload) (sym c.into.ensures) (λ n. inr many)
