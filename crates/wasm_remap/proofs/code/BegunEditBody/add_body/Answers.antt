use Rattle.wasm_base.proofs.Words.{[], ◌∷◌, take, drop, take-append-drop, ap, ap₂, sym, subst, ◌∙◌, ◌++◌, pair, u32, val_type, vec, standard, Decodes, size_prefixed_in, size_prefixed_encoding}
use Rattle.wasm_code.proofs.Words.{body}
use Rattle.wasm_remap.specs.Begun.{begun_body}
use Rattle.wasm_remap.proofs.BegunLaws.{begun_encodes}
use Rattle.wasm_remap.proofs.code.BegunEditBody.add_body.Goals as goal

pub returns-clause-ok : goal.returns-clause-ok
returns-clause-ok g c = λ x h.
    let read = c.in_ok-_runs.ensures in
    let bytes = c.args.body.now.bytes in
    let offset = c.in_ok-_runs.instructions.offset in
    let runs = c.in_ok-_runs._runs.items in
    let rest = c.rest.result.now in
    let decoded = subst (λ s. Decodes (vec (pair u32 val_type)) standard bytes runs s) (sym c.rest.ensures) read.found in
    let split = sym (ap₂ (λ a b. a ++ b) (ap₂ take c.offset.ensures c.bytes.ensures) (c.rest.ensures ∙ ap (drop offset) read.same) ∙ take-append-drop offset bytes) in
    let raw = c.deref.result.now in
    let new = begun_body (g.P.Prologue.code c.args.self.now.0.now c.args.number) x in
    record {
      entries = size_prefixed_encoding raw ∷ [];
      is = c.in_ok-raw.ensures.ok;
      encodes = (size_prefixed_in standard body raw new c.in_ok-raw.ensures.was_encodable (subst (λ s. body standard s new) (sym c.deref.ensures.value) (begun_encodes bytes _ rest runs _ c.in_ok-new.new.items x decoded split c.in_ok-new.ensures h)), tt);
    }
