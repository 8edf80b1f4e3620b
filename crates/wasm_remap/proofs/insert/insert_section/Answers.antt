use Rattle.std.proofs.Common.{rules}
use Rattle.wasm_base.proofs.Words.{List, ℕ, ◌≡◌, ◌≢◌, take, drop, sym, subst, ap, ◌∙◌, inl, inr, refl, length, ◌<◌, ◌^◌, arith, Err, HasEncodableSize, DecodesWhole, wasm_module}
use Rattle.wasm_remap.specs.Inserted.{InsertsSection, IsPayload, between, is_number}
use Rattle.wasm_remap.specs.Places.{IsFound, IsPlace, lacks, rank_of, sections_in}
use Rattle.wasm_remap.specs.declared.insert.Position.TheVariants.{Instead}
use Rattle.wasm_remap.specs.Errors.{ExplainsInsert}
use Rattle.wasm_remap.proofs.ErrorLaws.{fails_with, first_of, join_explained, too_long_explained}
use Rattle.wasm_remap.proofs.InsertLaws.{inserts_at, inserts_new}
use Rattle.wasm_remap.proofs.insert.insert_section.Goals as goal
use Rattle.wasm_remap.proofs.insert.insert_section.Goals.{then-eq-via-then-eq, then-eq-via-else-eq+then-is_number}

pub returns-in_default-clause-inserts : goal.returns-in_default-clause-inserts
returns-in_default-clause-inserts g c = λ payload says.
    let xs = c.in_ok-sections.sections.items in
    let id = c.id-id.result in
    let n = c.place_of.result in
    let edited = c.in_ok-module_of-2.field-0.items in
    let before = c.split_at-in_default.result.0.now in
    let after = c.split_at-in_default.result.1.now in
    let none = subst (λ z. lacks id (sections_in z)) c.deref-2.ensures.value c.in_default.ensures in
    let place = subst (λ z. IsPlace id (take n (sections_in z)) (drop n (sections_in z))) c.deref-in_default-2.ensures.value c.place_of.ensures.place in
    let read = subst (λ i. DecodesWhole wasm_module edited (between (sections_in before) i payload (sections_in after))) (sym c.id-id.ensures) (c.in_ok-module_of-2.ensures.read payload says) in
    let front = c.split_at-in_default.ensures.front ∙ ap (take n) c.deref-in_default.ensures.value in
    let back = c.split_at-in_default.ensures.back ∙ ap (drop n) c.deref-in_default.ensures.value in
    subst (λ i. InsertsSection c.args.position i payload c.args.bytes.now edited) c.id-id.ensures (inserts_new id xs c.in_ok-sections.ensures.ok (λ e. c.if-rank-eq0.false (c.rank.ensures ∙ e)) n before after none place front back read)

pub returns-then-eq-clause-inserts : goal.returns-then-eq-clause-inserts
returns-then-eq-clause-inserts g c = λ payload says.
    let xs = c.in_ok-sections.sections.items in
    let id = c.id-id.result in
    let edited = c.in_ok-module_of-3.field-0.items in
    let before = c.in-Some.before.now in
    let after = c.in-Some.after.now in
    let s = c.in-Some.old.now.section in
    let found = subst (λ z. IsFound id (sections_in before) s (sections_in after) (sections_in z)) c.deref-2.ensures.value c.in-Some.ensures in
    let read = subst (λ i. DecodesWhole wasm_module edited (between (sections_in before) i payload (sections_in after))) (sym c.id-id.ensures) (c.in_ok-module_of-3.ensures.read payload says) in
    let has : IsPayload c.args.position id payload s.payload payload = elim c.then-eq.branch [ then-eq-via-then-eq w ↦ inr (inl (search rules), refl) | then-eq-via-else-eq+then-is_number w ↦ inr (inr (sym w.is_number.ensures ∙ w.if-is_number.true), refl) ] in
    subst (λ i. InsertsSection c.args.position i payload c.args.bytes.now edited) c.id-id.ensures (inserts_at id xs c.in_ok-sections.ensures.ok (λ e. c.if-rank-eq0.false (c.rank.ensures ∙ e)) payload s before after found has read)

pub returns-clause-inserts : goal.returns-clause-inserts
returns-clause-inserts g c = λ payload says.
    let xs = c.in_ok-sections.sections.items in
    let id = c.id-id.result in
    let edited = c.in_ok-module_of-4.field-0.items in
    let before = c.in-Some.before.now in
    let after = c.in-Some.after.now in
    let s = c.in-Some.old.now.section in
    let found = subst (λ z. IsFound id (sections_in before) s (sections_in after) (sections_in z)) c.deref-2.ensures.value c.in-Some.ensures in
    let read : DecodesWhole wasm_module edited (between (sections_in before) id c.in_ok-payload.payload.items (sections_in after)) = c.in_ok-module_of-4.ensures.read c.in_ok-payload.payload.items (sym c.deref-3.ensures.value) in
    let not_instead : c.args.position ≢ Instead = search rules in
    let has : IsPayload c.args.position id payload s.payload c.in_ok-payload.payload.items = inl (not_instead, sym c.is_number.ensures ∙ c.if-is_number.false, c.in_ok-payload.ensures.joins not_instead payload says) in
    subst (λ i. InsertsSection c.args.position i payload c.args.bytes.now edited) c.id-id.ensures (inserts_at id xs c.in_ok-sections.ensures.ok (λ e. c.if-rank-eq0.false (c.rank.ensures ∙ e)) c.in_ok-payload.payload.items s before after found has read)

pub returns-in_err-payload-clause-why : goal.returns-in_err-payload-clause-why
returns-in_err-payload-clause-why g c = λ payload says.
    let xs = c.in_ok-sections.sections.items in
    let s = c.in-Some.old.now.section in
    let found = subst (λ i. IsFound i (sections_in c.in-Some.before.now) s (sections_in c.in-Some.after.now) (sections_in xs)) c.id-id.ensures (subst (λ z. IsFound c.id-id.result (sections_in c.in-Some.before.now) s (sections_in c.in-Some.after.now) (sections_in z)) c.deref-2.ensures.value c.in-Some.ensures) in
    fails_with (ExplainsInsert c.args.position (g.S.Section.id_of c.args.section.now) (g.S.Encode.encodable c.args.section.now) payload c.args.bytes.now) c.from_residual-in_err-payload.result _ c.from_residual-in_err-payload.ensures.1
    (join_explained c.args.position (g.S.Section.id_of c.args.section.now) (g.S.Encode.encodable c.args.section.now) payload c.args.bytes.now s c.in_err-payload.field-0.0 (λ P p. first_of (sections_in xs) found c.in_ok-sections.ensures.ok p) (c.in_err-payload.ensures.why payload says))

pub returns-in_err-module_of-4-clause-why : goal.returns-in_err-module_of-4-clause-why
returns-in_err-module_of-4-clause-why g c = λ payload says.
    let xs = c.in_ok-sections.sections.items in
    let s = c.in-Some.old.now.section in
    let joined = c.in_ok-payload.payload.items in
    let found = subst (λ i. IsFound i (sections_in c.in-Some.before.now) s (sections_in c.in-Some.after.now) (sections_in xs)) c.id-id.ensures (subst (λ z. IsFound c.id-id.result (sections_in c.in-Some.before.now) s (sections_in c.in-Some.after.now) (sections_in z)) c.deref-2.ensures.value c.in-Some.ensures) in
    let not_instead : c.args.position ≢ Instead = search rules in
    let is = c.in_ok-payload.ensures.joins not_instead payload says in
    let fits : length joined < 2 ^ 32 → HasEncodableSize c.deref-3.result.now = λ lt. omega (arith, ap length c.deref-3.ensures.value, lt) in
    fails_with (ExplainsInsert c.args.position (g.S.Section.id_of c.args.section.now) (g.S.Encode.encodable c.args.section.now) payload c.args.bytes.now) c.from_residual-in_err-module_of-4.result _ c.from_residual-in_err-module_of-4.ensures.1
    (λ n. inr (first_of (sections_in xs) found c.in_ok-sections.ensures.ok (inr (joined, is, too_long_explained c.in_err-module_of-4.field-0.0 (λ lt e. c.in_err-module_of-4.ensures.too_long (fits lt) (ap Err e)) n))))
