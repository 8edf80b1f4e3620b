use Rattle.wasm_base.proofs.Words.{List, ℕ, ◌++◌, length, joined, refl, sym, subst, inl, inr, DecodesWhole, unsigned_encoding, wasm_module}
use Rattle.wasm_remap.specs.Begun.{each_from}
use Rattle.wasm_remap.specs.Inserted.{between}
use Rattle.wasm_remap.specs.Places.{IsFound, sections_in}
use Rattle.wasm_remap.proofs.BegunLaws.{edited_payload}
use Rattle.wasm_remap.proofs.code.edit_code.Goals as goal

pub returns-clause-ok : goal.returns-clause-ok
returns-clause-ok g c =
    let xs = c.in_ok-sections.sections.items in
    let before = c.in-Some.before.now in
    let after = c.in-Some.after.now in
    let s = c.in-Some.old.now.section in
    let entries = c.in_ok-code.code in
    let payload = unsigned_encoding (length entries) ++ joined entries in
    record {
      olds = sections_in xs;
      has = c.in_ok-sections.ensures.ok;
      are = inl (record {
        before = sections_in before;
        section = s;
        after = sections_in after;
        found = subst (λ z. IsFound 10 (sections_in before) s (sections_in after) (sections_in z)) c.deref.ensures.value c.in-Some.ensures;
        payload = payload;
        bodies = λ bodies read. edited_payload entries (each_from (g.C.EditBody.edited c.args.change.now) 0 bodies) c.in_ok-module_of.ensures.fits (c.in_ok-code.ensures.ok bodies read);
        decodes = c.in_ok-module_of.ensures.read payload refl;
      });
    }
