-- This file proves what a pass appends for a body.
use Rattle.wasm_base.proofs.Words.{◌≡◌, ℕ, List, ◌++◌, map, refl, ap, subst, ◌∙◌, append_assoc}
use Rattle.wasm_base.specs.Formats.{Then, members, pair, u32, vec}
use Rattle.wasm_base.specs.Numbers.{standard}
use Rattle.wasm_base.specs.Types.{val_type}
use Rattle.wasm_code.specs.Bodies.{Body, body, body_of}
use Rattle.wasm_insn.specs.Plain.{instruction}
use Rattle.wasm_insn.specs.Table.{table}
use Rattle.wasm_remap.specs.Instructions.{remapped_body, remapped_instruction, remapped_val}
use Rattle.wasm_remap.specs.Mapping.{Mapping}
use Rattle.wasm_remap.specs.Streamed.{Remaps, RemapsWhole}

-- The locals are appended, and then the instructions.
pub content_remaps : (m : Mapping) (bytes rest old middle new : List ℕ) → Remaps (map (λ run. (run.0, remapped_val m run.1))) (vec (pair u32 val_type)) bytes rest old middle → RemapsWhole (map (remapped_instruction m)) (members (instruction table)) rest middle new → RemapsWhole (remapped_body m) body bytes old new
content_remaps m bytes rest old middle new h g =
    let a = h.appends in
    let b = g.appends in
    let x : Body = body_of (h.value, g.value) in
    record {
      value = x;
      decoded = ((h.value, g.value), refl, record { front = h.decoded.front; back = rest; joined = h.decoded.split; first = h.decoded.encodes; second = g.decoded });
      appends = record {
        encoding = a.encoding ++ b.encoding;
        appended = b.appended ∙ ap (λ z. z ++ b.encoding) a.appended ∙ append_assoc old a.encoding b.encoding;
        encodes = λ q.
            let y = remapped_body m x in
            let same : q.1.0 ≡ (y.runs, y.code) = ap (λ z. (z.runs, z.code)) q.1.1 in
            let t = subst (Then (vec (pair u32 val_type)) (λ r. members (instruction table)) standard q.0) same q.1.2 in
            ((y.runs, y.code), refl, record { front = a.encoding; back = b.encoding; joined = refl; first = a.encodes (t.front, t.first); second = b.encodes (t.back, t.second) });
      };
    }
