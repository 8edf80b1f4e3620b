use Rattle.wasm_base.proofs.Words.{[], ◌∷◌, sym, subst, standard, size_prefixed_in, size_prefixed_encoding}
use Rattle.wasm_code.proofs.Words.{body}
use Rattle.wasm_remap.specs.Instrumented.{instrumented_body}
use Rattle.wasm_remap.proofs.instrument.InstrumentedBodiesEditBody.add_body.Goals as goal

pub returns-clause-ok : goal.returns-clause-ok
returns-clause-ok g c = λ x h.
    let raw = c.deref.result.now in
    let change = c.args.self.now.0.now in
    let new = instrumented_body (g.I.Instrument.before change c.args.number) (g.I.Instrument.after change c.args.number) x in
    record {
      entries = size_prefixed_encoding raw ∷ [];
      is = c.in_ok-raw.ensures.ok;
      encodes = (size_prefixed_in standard body raw new c.in_ok-raw.ensures.was_encodable (subst (λ s. body standard s new) (sym c.deref.ensures.value) (c.in_ok-new.ensures.ok x h)), tt);
    }
